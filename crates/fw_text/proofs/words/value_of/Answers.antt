use Rattle.std.proofs.Common.{refl, Some, ◌≡◌, ℕ, ◌≤◌, List, [], ◌∷◌, length, ◌∙◌, sym, ap, arith}
use Rattle.std.specs.Str.Parse.{digits_value, digits_value_after}
use Rattle.fw_text.proofs.WordLemmas.{fits, too_great, first_grows, worth}
use Rattle.fw_text.proofs.words.value_of.Goals as goal

pub returns-in_err-checked_mul : goal.returns-in_err-checked_mul
returns-in_err-checked_mul c =
    let more = first_grows c.loop-digit.value c.in-Some.digit.now c.in-Some.others.now c.loop-digit.rest.now c.in-Some.ensures.cases.0 in
    let none = rw c.in_err-checked_mul.was at c.checked_mul.ensures in
    let past : 4294967296 ≤ digits_value 10 c.args.digits.now = omega (arith, none) in
    c.from_residual.ensures ∙ sym (too_great (digits_value 10 c.args.digits.now) past)

pub returns-in_err-value : goal.returns-in_err-value
returns-in_err-value c =
    let more = first_grows c.loop-digit.value c.in-Some.digit.now c.in-Some.others.now c.loop-digit.rest.now c.in-Some.ensures.cases.0 in
    let none = rw c.in_err-value.was at c.checked_add.ensures in
    let own = worth c.in-Some.digit.now c.in-Some.others.now c.loop-digit.rest.now c.in-Some.ensures.cases.0 c.loop-digit.invariant.digits in
    let past : 4294967296 ≤ digits_value 10 c.args.digits.now = omega (arith, none, c.in_ok-checked_mul.ensures.1) in
    c.from_residual-in_err-value.ensures ∙ sym (too_great (digits_value 10 c.args.digits.now) past)

-- nothing is left
at_end : (v : ℕ) (rest : List ℕ) → length rest ≡ 0 → digits_value_after 10 v rest ≡ v
at_end v [] none = refl
at_end v (d ∷ rest) none = absurd (omega (arith, none))

pub returns : goal.returns
returns c =
    let worth = sym (at_end c.loop-digit.value c.loop-digit.rest.now c.in_default.ensures.cases) ∙ c.loop-digit.invariant.worth in
    ap Some worth ∙ sym (fits (digits_value 10 c.args.digits.now) (rw worth at c.loop-digit.invariant.within))
