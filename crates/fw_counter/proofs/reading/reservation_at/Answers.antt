use Rattle.std.proofs.Common.{rules, ◌≡◌, ◌++◌, ◌≤◌, length, List, ℕ, None, Some, ap, ◌∙◌, sym, arith, length-take-le}
use Rattle.std.proofs.lemmas.Bool.Decides.{Decides-eqb}
use Rattle.std.proofs.lemmas.Slice.Eq.{strip_prefix_is}
use Rattle.sha2.specs.Sha256.{sha256}
use Rattle.fw_counter.proofs.Telling.{four_bytes, found, if_none, none_digest}
use Rattle.fw_counter.proofs.reading.reservation_at.Goals as goal

-- another digest stands there, or none
pub returns-in_err-after-clause-none : goal.returns-in_err-after-clause-none
returns-in_err-after-clause-none c =
    let behind = c.in_ok-behind.behind.now in
    let rest = c.in_ok-rest.rest.now in
    let entry = c.in_ok-entry.entry.now in
    let tail = c.in_ok-entry.tail.now in
    let digest : c.as_slice.result.now ≡ sha256 entry = search rules in
    let sizes = strip_prefix_is Decides-eqb behind four_bytes (Some c.in_ok-rest.rest) c.in_ok-rest.ensures.cases in
    let none = strip_prefix_is Decides-eqb tail c.as_slice.result.now None c.in_err-after.ensures.cases in
    if_none c.from_residual-in_err-after.result _
    (none_digest c.args.bytes.now behind rest c.in_ok-behind.field-0-0.now c.in_ok-behind.ensures.cases.0 sizes entry tail c.in_ok-entry.ensures.cases.0 c.in_ok-entry.ensures.cases.1
    (λ after is. none after (is ∙ ap (λ (l : List ℕ). l ++ after) (sym digest))))

pub returns-clause-found : goal.returns-clause-found
returns-clause-found c =
    let behind = c.in_ok-behind.behind.now in
    let rest = c.in_ok-rest.rest.now in
    let entry = c.in_ok-entry.entry.now in
    let tail = c.in_ok-entry.tail.now in
    let digest : c.as_slice.result.now ≡ sha256 entry = search rules in
    let sizes = strip_prefix_is Decides-eqb behind four_bytes (Some c.in_ok-rest.rest) c.in_ok-rest.ensures.cases in
    let after = strip_prefix_is Decides-eqb tail c.as_slice.result.now (Some c.in_ok-after.after) c.in_ok-after.ensures.cases in
    let enough : 4 ≤ length rest = omega (arith, c.in_ok-entry.ensures.cases) in
    let four : length entry ≡ 4 = ap (λ (l : List ℕ). length l) c.in_ok-entry.ensures.cases.0 ∙ length-take-le 4 rest enough in
    let has = found c.args.bytes.now behind entry tail c.in_ok-after.after.now rest c.in_ok-behind.field-0-0.now c.in_ok-behind.ensures.cases.0 sizes c.in_ok-entry.ensures.cases.0 c.in_ok-entry.ensures.cases.1 four
    (after ∙ ap (λ (l : List ℕ). l ++ c.in_ok-after.after.now) digest) in
    (entry, has, c.from_be_bytes.ensures)
