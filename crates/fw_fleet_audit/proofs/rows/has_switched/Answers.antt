use Rattle.std.proofs.Common.{◌≡◌, true, false, sym, ◌∙◌, arith}
use Rattle.std.proofs.lemmas.List.Elements.{AllWithin-more, AllWithin-none, at_read}
use Rattle.fw_fleet_audit.specs.Rows.{Audited, HasSwitchedTo}
use Rattle.fw_fleet_audit.proofs.Passing.{none_has, one_has}
use Rattle.fw_fleet_audit.proofs.rows.has_switched.Goals as goal

pub loop-at-init : goal.loop-at-init
loop-at-init c = AllWithin-none (λ (a : Audited). HasSwitchedTo c.args.meter c.args.name a → ⊥) c.args.meters.now 0

pub loop-at-preserved : goal.loop-at-preserved
loop-at-preserved c =
    let meters = c.args.meters.now in
    let at = c.loop-at.at in
    AllWithin-more (λ (a : Audited). HasSwitchedTo c.args.meter c.args.name a → ⊥) meters 0 at c.loop-at.invariant
    (at_read meters (λ (a : Audited). HasSwitchedTo c.args.meter c.args.name a → ⊥) at c.index-meters-at.result (omega (arith, c.loop-at-test.true)) c.index-meters-at.is
    (λ has. let bad : true ≡ false = sym (c.switched_to.ensures.1 has) ∙ c.if-switched_to.false in absurd cc))

pub returns-then-switched_to-clause-some : goal.returns-then-switched_to-clause-some
returns-then-switched_to-clause-some c is =
    one_has c.args.meters.now c.args.meter c.args.name c.loop-at.at c.index-meters-at.result (omega (arith, c.loop-at-test.true)) c.index-meters-at.is
    (c.switched_to.ensures.0 c.if-switched_to.true)

pub returns-clause-none : goal.returns-clause-none
returns-clause-none c is =
    none_has c.args.meters.now c.args.meter c.args.name c.loop-at.at (omega (arith, c.loop-at-test.false)) c.loop-at.invariant
