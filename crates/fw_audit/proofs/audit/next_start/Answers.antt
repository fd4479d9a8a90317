use Rattle.std.proofs.Common.{◌≡◌, ℕ, length, subst, arith}
use Rattle.std.proofs.lemmas.List.Elements.{AllWithin-more, AllWithin-none}
use Rattle.std.specs.List.{AllWithin}
use Rattle.fw_audit.proofs.Items.{Goes, goes_at, log_size, start_at}
use Rattle.fw_audit.proofs.audit.next_start.Goals as goal

pub loop-at-init : goal.loop-at-init
loop-at-init c = AllWithin-none Goes c.args.items.now c.args.from

pub loop-at-preserved : goal.loop-at-preserved
loop-at-preserved c =
    AllWithin-more Goes c.args.items.now c.args.from c.loop-at.at c.loop-at.invariant
    (goes_at c.args.items.now c.loop-at.at _ (omega (arith, c.loop-at-test.true)) (c.is_start.ensures.other c.if-is_start.false))

pub returns-then-is_start-clause-start : goal.returns-then-is_start-clause-start
returns-then-is_start-clause-start c inside =
    start_at c.args.items.now c.loop-at.at _ (omega (arith, c.loop-at-test.true)) (c.is_start.ensures.start c.if-is_start.true)

pub returns-clause-start : goal.returns-clause-start
returns-clause-start c inside = absurd (omega (arith, log_size c.args.items.now))

pub returns-clause-none : goal.returns-clause-none
returns-clause-none c =
    let items = c.args.items.now in
    let all : c.loop-at.at ≡ length items = omega arith in
    subst (λ (n : ℕ). AllWithin Goes items c.args.from n) all c.loop-at.invariant
