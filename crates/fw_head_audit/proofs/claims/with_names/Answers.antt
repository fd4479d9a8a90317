use Rattle.std.proofs.Common.{◌≡◌, ◌++◌, ◌+◌, ◌<◌, List, [], ◌∷◌, length, take, sym, subst, arith}
use Rattle.std.proofs.lemmas.List.{take_all}
use Rattle.fw_fleet_audit.specs.Rows.{Audited}
use Rattle.fw_head_audit.specs.Private.{HaveNames}
use Rattle.fw_head_audit.specs.declared.meter.AskedMeter.{AskedMeter}
use Rattle.fw_head_audit.proofs.Claiming.{have_more}
use Rattle.fw_head_audit.proofs.Lists.{one_more}
use Rattle.fw_head_audit.proofs.claims.with_names.Goals as goal

pub loop-at-preserved : goal.loop-at-preserved
loop-at-preserved c =
    let meters = c.args.meters.now in
    let claims = c.args.claims.now in
    let at = c.loop-at.at in
    let asked = c.index-meters-at.result in
    let inside : at < length meters = omega (arith, c.loop-at-test.true) in
    let more : take (at + 1) meters ≡ take at meters ++ asked ∷ [] = one_more meters at asked inside c.index-meters-at.is in
    subst (λ (l : List AskedMeter). HaveNames l claims c.push.new.self.items) (sym more)
    (subst (λ (l : List Audited). HaveNames (take at meters ++ asked ∷ []) claims l) (sym c.in_ok-push.ensures.items)
    (have_more (take at meters) asked claims c.in_ok-names.names.items c.loop-at.all.items c.loop-at.invariant c.in_ok-names.ensures))

pub returns-clause-names : goal.returns-clause-names
returns-clause-names c =
    subst (λ (l : List AskedMeter). HaveNames l c.args.claims.now c.loop-at.all.items) (take_all c.loop-at.at c.args.meters.now (omega (arith, c.loop-at-test.false))) c.loop-at.invariant
