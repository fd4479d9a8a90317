use Rattle.std.proofs.Common.{ap, ◌∙◌, arith}
use Rattle.fw_names.specs.Name.{Name}
use Rattle.fw_fleet_audit.proofs.Switching.{departs_at, falls_at, past_all, past_more, past_none}
use Rattle.fw_fleet_audit.proofs.switches.audit_switches.Goals as goal

pub loop-at-init : goal.loop-at-init
loop-at-init c = past_none c.args.books.now c.args.images.now

pub loop-at-preserved : goal.loop-at-preserved
loop-at-preserved c =
    past_more c.args.books.now c.args.images.now c.loop-at.at c.loop-at.last c.release.inside.release c.index-images-at.result (omega (arith, c.loop-at-test.true))
    c.index-images-at.is c.loop-at.invariant c.in_default.ensures.none (ap (λ (n : Name). n.release) (c.release.view_is ∙ c.name.ensures)) c.if-release-last.false

pub returns-in-Some-clause-departs : goal.returns-in-Some-clause-departs
returns-in-Some-clause-departs c =
    departs_at c.args.books.now c.args.images.now c.loop-at.at c.loop-at.last c.index-images-at.result c.in-Some.rule (omega (arith, c.loop-at-test.true))
    c.index-images-at.is c.loop-at.invariant c.in-Some.ensures.some

pub returns-then-release-last-clause-departs : goal.returns-then-release-last-clause-departs
returns-then-release-last-clause-departs c =
    falls_at c.args.books.now c.args.images.now c.loop-at.at c.loop-at.last c.release.inside.release c.index-images-at.result (omega (arith, c.loop-at-test.true))
    c.index-images-at.is c.loop-at.invariant c.in_default.ensures.none (ap (λ (n : Name). n.release) (c.release.view_is ∙ c.name.ensures)) c.if-release-last.true

pub returns-clause-offered : goal.returns-clause-offered
returns-clause-offered c = past_all c.args.books.now c.args.images.now c.loop-at.at c.loop-at.last (omega (arith, c.loop-at-test.false)) c.loop-at.invariant
