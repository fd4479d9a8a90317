use Rattle.std.proofs.Common.{rules, ◌≡◌, ℕ, ◌-◌, ◌<◌, ◌≤◌, ◌^◌, ◌/◌, ◌%◌, IsTrue, nat_eq, refl, subst, sym, arith}
use Rattle.fw_sealport.specs.Windows.{IsNew}
use Rattle.fw_sealport.proofs.WindowFacts.{is_below, is_zero, new_ahead, new_is_unmarked, too_late, unmarked_is_new}
use Rattle.fw_sealport.proofs.window.Window.is_new.Goals as goal

pub returns-then-self-number : goal.returns-then-self-number
returns-then-self-number c = λ seen r.
    (λ _. new_ahead c.args.width c.args.self.now seen c.args.counter r (omega (arith, c.if-self-number.true, c.from-number.ensures)), λ _. refl)

pub returns-then-back-width : goal.returns-then-back-width
returns-then-back-width c = λ seen r.
    let w = c.args.self.now in
    let is = c.from-number.ensures in
    let inside : c.args.counter < w.next = omega (arith, c.if-self-number.false, is) in
    let back : w.next - c.from-number.result - 1 ≡ w.next - c.args.counter - 1 = omega (arith, is) in
    let near : w.next - c.args.counter - 1 < c.args.width = omega (arith, c.if-back-width.true, is) in
    subst (λ (b : ℕ). (IsTrue (nat_eq (w.bits / 2 ^ b % 2) 0) → IsNew c.args.width seen c.args.counter) × (IsNew c.args.width seen c.args.counter → IsTrue (nat_eq (w.bits / 2 ^ b % 2) 0)))
    (sym back) (
      λ zero_bit. unmarked_is_new c.args.width w seen c.args.counter r inside c.requires near (is_zero _ zero_bit),
      λ new. search (rules, new_is_unmarked c.args.width w seen c.args.counter r inside c.requires near new),
    )

pub returns-else-back-width : goal.returns-else-back-width
returns-else-back-width c = λ seen r.
    let w = c.args.self.now in
    let is = c.from-number.ensures in
    let inside : c.args.counter < w.next = omega (arith, c.if-self-number.false, is) in
    let far : c.args.width ≤ w.next - c.args.counter - 1 = omega (arith, c.if-back-width.false, is) in
    (λ near. absurd (omega (arith, is_below _ _ near, c.if-back-width.false)), λ new. absurd (too_late c.args.width w seen c.args.counter r inside far new))
