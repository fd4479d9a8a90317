use Rattle.std.proofs.Common.{◌≡◌, length, ap, ◌∙◌, arith}
use Rattle.fw_air.specs.Private.{Recorded}
use Rattle.fw_air.proofs.Present.{run_grows, same_link_there, still_there, widened}
use Rattle.fw_air.proofs.Runs.{goes_on}
use Rattle.fw_air.proofs.record.RecordLinkSteps.pass.Goals as goal

pub returns-in_err-deliver_all-clause-goes_on : goal.returns-in_err-deliver_all-clause-goes_on
returns-in_err-deliver_all-clause-goes_on c = λ start was. goes_on start c.args.self.now c.deliver_all.new.self was.0 was.1 c.deliver_all.ensures.goes_on

pub returns-clause-ready : goal.returns-clause-ready
returns-clause-ready c =
    let old = c.args.self.now.world in
    let new = c.deliver_all.new.self.world in
    let run = c.in_ok-deliver_all.ensures.all.run in
    let end = length c.sent-end.result.now in
    let end_is : end ≡ length old.sent = ap (λ l. length l) (c.sent-end.ensures.sent ∙ ap (λ (r : Recorded). r.world.sent) c.self.view_is) in
    let grew = run_grows old new _ run in
    let late = c.in_ok-coming.ensures.late (widened (length old.sent) end _ (omega (arith, end_is)) c.requires.late) in
    same_link_there new c.args.link.now c.pass.new.self c.in_ok-coming.ensures.link (still_there c.actors_stay.ensures old new _ c.args.link.now run c.requires)
    (widened end (length new.sent) _ (omega (arith, end_is, grew)) late)

pub returns-clause-goes_on : goal.returns-clause-goes_on
returns-clause-goes_on c = λ start was. goes_on start c.args.self.now c.deliver_all.new.self was.0 was.1 c.deliver_all.ensures.goes_on
