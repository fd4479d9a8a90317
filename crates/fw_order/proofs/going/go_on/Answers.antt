use Rattle.std.proofs.Common.{slice_index_or, refl}
use Rattle.fw_order.specs.Private.{Going, far}
use Rattle.fw_order.specs.declared.log.EndLog.{EndLog}
use Rattle.fw_order.proofs.Steps.{Writes, one_less, read_as, ready_inside, unread, went_on}
use Rattle.fw_order.proofs.going.go_on.Goals as goal

pub returns-clause-gone : goal.returns-clause-gone
returns-clause-gone c ends gone =
    let left = c.args.left.now in
    let number = c.args.number in
    let old : Going = far left c.args.sent.now in
    let new : Going = far c.put.new.left c.note.new.self in
    let log = slice_index_or left number unread in
    let next : EndLog = record { at = log.at; items = c.in-Some.rest } in
    let item = c.in-Some.item.now in
    let rest = c.in-Some.rest.now in
    let writes : Writes old new number log next item rest =
    record { read = read_as left number unread (ready_inside old number c.requires); items = c.in-Some.ensures.cases.0; left = c.put.ensures; at = refl; rest_is = refl; notes = c.in_ok-note.ensures } in
    went_on old new number log next item rest c.requires writes ends gone

pub returns-clause-less : goal.returns-clause-less
returns-clause-less c =
    let left = c.args.left.now in
    let number = c.args.number in
    let old : Going = far left c.args.sent.now in
    let new : Going = far c.put.new.left c.note.new.self in
    let log = slice_index_or left number unread in
    let next : EndLog = record { at = log.at; items = c.in-Some.rest } in
    let item = c.in-Some.item.now in
    let rest = c.in-Some.rest.now in
    let writes : Writes old new number log next item rest =
    record { read = read_as left number unread (ready_inside old number c.requires); items = c.in-Some.ensures.cases.0; left = c.put.ensures; at = refl; rest_is = refl; notes = c.in_ok-note.ensures } in
    one_less old new number log next item rest c.requires writes
