use Rattle.fw_key_files.proofs.Made.{head_made}
use Rattle.fw_key_files.proofs.making.head_file.Goals as goal

pub returns : goal.returns
returns c =
    head_made c.args.making.now c.args.keys.now c.in_ok-text.text.items c.of.result c.in_ok-text.ensures.lines
    (c.in_ok-text.ensures.spells c.args.making.now.head c.requires.own) c.of.ensures
