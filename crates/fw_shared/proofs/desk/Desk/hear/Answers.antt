use Rattle.std.proofs.Common.{subst}
use Rattle.fw_world.specs.Step.{deliver}
use Rattle.fw_shared.specs.Acts.{MarksDone}
use Rattle.fw_shared.specs.Seat.{Seat}
use Rattle.fw_shared.proofs.Noted.{noted_as}
use Rattle.fw_shared.proofs.desk.Desk.hear.Goals as goal

pub returns-clause-heard : goal.returns-clause-heard
returns-clause-heard g c =
    let old = c.args.seat.now in
    let number = c.args.number in
    let event = c.record.result.event in
    let told = c.in_ok-held.told in
    let made = c.in_ok-held.ensures.act.0 in
    let middle = noted_as _ old c.reserve.new.self.items c.record.new.receipts.items event c.in_ok-held.held.act.event (deliver number) c.seat.view_is c.reserve.ensures.items made c.record.ensures.noted in
    let P : Seat → Type 0 = λ seat. MarksDone told seat c.mark_done.new.seat in
    (event, subst P middle c.mark_done.ensures)
