use Rattle.fw_auditor.proofs.Keyed.{has_name, link_by}
use Rattle.fw_auditor.proofs.keys.link_of_meter.Goals as goal

pub unreachable-requires : goal.unreachable-requires
unreachable-requires c =
    let head = c.args.head.now in
    let made = rw c.in-Some.is at c.in_ok-file.ensures in
    has_name head.file.own made.0 head.at c.in-Some.file made.3 c.in-None-link_with.ensures

pub returns-in-Some-link_with : goal.returns-in-Some-link_with
returns-in-Some-link_with c =
    let head = c.args.head.now in
    let made = rw c.in-Some.is at c.in_ok-file.ensures in
    let found = c.in-Some-link_with.ensures in
    link_by head.file c.args.meter head.at made.0 c.in-Some.file c.in-Some-link_with.link found.0 made.1 made.2 made.3 found.1 found.3
