use Rattle.std.proofs.Common.{List, [], ap, subst, sym, arith}
use Rattle.std.proofs.lemmas.List.{take_all}
use Rattle.fw_fleet_audit.specs.Rows.{Audited}
use Rattle.fw_order.specs.Order.{End}
use Rattle.fw_auditor.specs.Private.{AreFound, ends_in}
use Rattle.fw_auditor.specs.declared.list.Subject.{Subject}
use Rattle.fw_auditor.proofs.Fitted.{kept}
use Rattle.fw_auditor.proofs.field.tell_meters.Goals as goal

pub loop-at-init : goal.loop-at-init
loop-at-init g c none =
    subst (λ (ends : List End). AreFound c.args.given.now [] c.new-found.result.audited.items ends) (sym (ap ends_in c.new-found.ensures.ends))
    (subst (λ (meters : List Audited). AreFound c.args.given.now [] meters []) (sym c.new-found.ensures.audited) tt)

pub loop-at-preserved : goal.loop-at-preserved
loop-at-preserved g c =
    kept c.args.given.now c.args.subjects.now c.loop-at.at c.index-subjects-at.result c.loop-at.found c.count_meter.new.found
    (omega (arith, c.loop-at-test.true)) c.index-subjects-at.is c.in_ok-count_meter.ensures c.loop-at.invariant

pub returns : goal.returns
returns g c none =
    subst (λ (subjects : List Subject). AreFound c.args.given.now subjects c.loop-at.found.audited.items (ends_in c.loop-at.found.ends.items))
    (take_all c.loop-at.at c.args.subjects.now (omega (arith, c.loop-at-test.false))) (c.loop-at.invariant none)
