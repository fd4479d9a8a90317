use Rattle.std.proofs.Common.{◌≡◌, ◌+◌, ◌-◌, ℕ, ap, take, drop, ◌∙◌, arith}
use Rattle.fw_capture.proofs.number.sixteen_at.Goals as goal

pub returns : goal.returns
returns c =
    let sixteen : c.args.place + 16 - c.args.place ≡ 16 = omega arith in
    c.copy_from_slice.ensures.after ∙ ap (λ (n : ℕ). take n (drop c.args.place c.args.bytes.now)) sixteen
