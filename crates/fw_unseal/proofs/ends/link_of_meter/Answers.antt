use Rattle.std.proofs.Common.{◌∙◌}
use Rattle.fw_unseal.proofs.BothEnds.{has_name, same_entry, turned_is}
use Rattle.fw_unseal.proofs.ends.link_of_meter.Goals as goal

pub unreachable-requires : goal.unreachable-requires
unreachable-requires c =
    let made = rw c.in-Some.is at c.in_ok-other.ensures in
    has_name c.args.file.now.own made.0 c.from-name.result c.in-Some.other made.3 c.in-None-link_with.ensures

pub returns : goal.returns
returns c =
    let made = rw c.in-Some.is at c.in_ok-other.ensures in
    let found = c.in-Some-link_with.ensures in
    let file = c.args.file.now in
    let same = same_entry file.own file.entries c.requires.links c.args.entry.now c.requires.within made.0 made.1 (made.2 ∙ c.end.ensures) in
    turned_is file.own c.args.entry.now made.0 c.from-name.result c.in-Some.other c.in-Some-link_with.link found.0 same made.3 found.1 found.3
