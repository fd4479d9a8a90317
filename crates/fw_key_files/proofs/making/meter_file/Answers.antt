use Rattle.fw_key_files.proofs.Made.{meter_made}
use Rattle.fw_key_files.proofs.making.meter_file.Goals as goal

pub returns : goal.returns
returns c =
    let other = rw c.in-Some.is at c.in_ok-file.ensures in
    meter_made c.args.making.now c.args.keys.now c.args.meter c.in-Some.file c.in_ok-text.text.items c.of.result other c.in_ok-text.ensures.lines
    c.in_ok-text.ensures.spells c.of.ensures
