use Rattle.std.proofs.Common.{rules, ◌≡◌, ℕ, ◌-◌, ◌++◌, List, length, take, sym, ap, ◌∙◌, arith, take-append-drop}
use Rattle.sha2.specs.Sha256.{sha256}
use Rattle.fw_cuts.proofs.Spellings.{short_none, unsealed}
use Rattle.fw_cuts.proofs.undo.reading.before_digest.Goals as goal

pub returns-then-bytes-lt32-clause-none : goal.returns-then-bytes-lt32-clause-none
returns-then-bytes-lt32-clause-none c = short_none c.args.bytes.now c.if-bytes-lt32.true

pub returns-then-ne-clause-none : goal.returns-then-ne-clause-none
returns-then-ne-clause-none c =
    let bytes = c.args.bytes.now in
    let n : ℕ = length bytes - 32 in
    let p = c.split_at.result.0.now in
    let d = c.split_at.result.1.now in
    let is : bytes ≡ p ++ d =
    sym (ap (λ (l : List ℕ). l ++ d) c.split_at.ensures.front ∙ ap (λ (l : List ℕ). take n bytes ++ l) c.split_at.ensures.back ∙ take-append-drop n bytes) in
    let size : length d ≡ 32 = omega (arith, c.split_at.ensures.back_len) in
    let other : d ≡ sha256 p → ⊥ = λ e. search rules in
    unsealed bytes p d is size other
