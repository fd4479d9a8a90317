use Rattle.std.proofs.Common.{◌∙◌}
use Rattle.fw_unseal.proofs.BothEnds.{link_is}
use Rattle.fw_unseal.proofs.ends.link_of_head.Goals as goal

pub returns : goal.returns
returns c =
    let found = c.in-Some.ensures in
    link_is c.args.file.now.own c.args.file.now.entries c.requires.links c.args.entry.now c.requires.within c.in-Some.link found.0 found.1 (found.2 ∙ c.end.ensures) found.3
