use Rattle.std.proofs.Common.{◌≡◌, ℕ, ◌+◌, ◌-◌, ◌*◌, ◌≤◌, ◌^◌, ◌%◌, ◌∷◌, bit_or, sym, subst, arith}
use Rattle.fw_sealport.specs.Windows.{Remembers}
use Rattle.fw_sealport.proofs.WindowFacts.{Keeps, all_go, some_stay, taken_ahead, taken_far, taken_inside}
use Rattle.fw_sealport.proofs.window.Window.take.Goals as goal
use Rattle.fw_sealport.proofs.window.Window.take.Goals.{then-rise-lt64, else-rise-lt64}

pub returns-after-rise-lt64 : goal.returns-after-rise-lt64
returns-after-rise-lt64 c = λ seen r.
    let w = c.args.self.now in
    let number = c.from-number.result in
    let is : number ≡ c.args.counter = c.from-number.ensures in
    let ahead : w.next ≤ c.args.counter = omega (arith, c.if-self-number.true, is) in
    let keeps : Keeps c.if-rise-lt64.kept w.bits (number - w.next + 1) =
    elim c.if-rise-lt64.branch [
      | then-rise-lt64 b ↦ subst (λ (k : ℕ). Keeps k w.bits (number - w.next + 1)) (sym b.kept-is) (some_stay w.bits (number - w.next + 1))
      | else-rise-lt64 b ↦ subst (λ (k : ℕ). Keeps k w.bits (number - w.next + 1)) (sym b.kept-is) (all_go w.bits (number - w.next + 1) (omega (arith, b.if-rise-lt64.false)))
    ] in
    subst (λ (n : ℕ). Remembers (record { next = n + 1; bits = bit_or c.if-rise-lt64.kept 1 }) (c.args.counter ∷ seen)) (sym is)
    (taken_ahead w seen c.args.counter r c.if-rise-lt64.kept ahead (subst (λ (n : ℕ). Keeps c.if-rise-lt64.kept w.bits (n - w.next + 1)) is keeps))

pub returns-then-back-lt64 : goal.returns-then-back-lt64
returns-then-back-lt64 c = λ seen r.
    let w = c.args.self.now in
    let is : c.from-number.result ≡ c.args.counter = c.from-number.ensures in
    subst (λ (n : ℕ). Remembers (record { next = w.next; bits = bit_or w.bits (1 * 2 ^ (w.next - n - 1) % 2 ^ 64) }) (c.args.counter ∷ seen)) (sym is)
    (taken_inside w seen c.args.counter r (omega (arith, c.if-self-number.false, is)) (omega (arith, c.if-back-lt64.true, is)))

pub returns-else-back-lt64 : goal.returns-else-back-lt64
returns-else-back-lt64 c = λ seen r.
    let is = c.from-number.ensures in
    taken_far c.args.self.now seen c.args.counter r (omega (arith, c.if-self-number.false, is)) (omega (arith, c.if-back-lt64.false, is))
