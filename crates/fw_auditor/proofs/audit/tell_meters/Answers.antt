use Rattle.std.proofs.Common.{List, [], subst, sym, arith}
use Rattle.std.specs.List.{AllZip}
use Rattle.std.proofs.lemmas.List.{take_all}
use Rattle.fw_fleet_audit.specs.Rows.{Audited}
use Rattle.fw_auditor.specs.Private.{FitsAs}
use Rattle.fw_auditor.specs.declared.list.Subject.{Subject}
use Rattle.fw_auditor.proofs.Fitted.{counted}
use Rattle.fw_auditor.proofs.audit.tell_meters.Goals as goal

pub loop-at-init : goal.loop-at-init
loop-at-init g c none = subst (λ (meters : List Audited). AllZip (FitsAs c.args.given.now) [] meters) (sym c.new-tally.ensures.meters) tt

pub loop-at-preserved : goal.loop-at-preserved
loop-at-preserved g c =
    counted c.args.given.now c.args.subjects.now c.loop-at.at c.index-subjects-at.result c.loop-at.tally c.count_meter.new.tally
    (omega (arith, c.loop-at-test.true)) c.index-subjects-at.is c.in_ok-count_meter.ensures c.loop-at.invariant

pub returns : goal.returns
returns g c none =
    subst (λ (subjects : List Subject). AllZip (FitsAs c.args.given.now) subjects c.loop-at.tally.meters.items)
    (take_all c.loop-at.at c.args.subjects.now (omega (arith, c.loop-at-test.false))) (c.loop-at.invariant none)
