use Rattle.std.proofs.Common.{rules, ◌≡◌, ◌++◌, List, ℕ, None, Some, sym, ◌∙◌, ap}
use Rattle.std.proofs.lemmas.Bool.Decides.{Decides-eqb}
use Rattle.std.proofs.lemmas.Slice.Eq.{strip_prefix_is}
use Rattle.sha2.specs.Sha256.{sha256}
use Rattle.fw_journal.proofs.BookLemmas.{body_found, body_none}
use Rattle.fw_journal.proofs.reading.body_at.Goals as goal

-- another digest stands there, or none
pub returns-in_default-clause-none : goal.returns-in_default-clause-none
returns-in_default-clause-none c =
    let same : c.as_slice.result.now ≡ sha256 c.split_at.result.0.now = search rules in
    let none = strip_prefix_is Decides-eqb c.split_at.result.1.now c.as_slice.result.now None c.in_default.ensures.cases in
    body_none c.args.bytes.now c.in_ok-size.rest.now c.split_at.result.0.now c.split_at.result.1.now c.in_ok-size.size c.in_ok-size.ensures.found c.in_ok-size.ensures.fits
    c.split_at.ensures.front c.split_at.ensures.back c.split_at.ensures.front_len (λ after is. none after (is ∙ ap (λ (l : List ℕ). l ++ after) (sym same)))

pub returns-clause-found : goal.returns-clause-found
returns-clause-found c =
    let same : c.as_slice.result.now ≡ sha256 c.split_at.result.0.now = search rules in
    let digest = strip_prefix_is Decides-eqb c.split_at.result.1.now c.as_slice.result.now (Some c.in-Some.after) c.in-Some.ensures.cases in
    body_found c.args.bytes.now c.in_ok-size.rest.now c.split_at.result.0.now c.split_at.result.1.now c.in-Some.after.now c.in_ok-size.size c.in_ok-size.ensures.found
    c.split_at.ensures.front c.split_at.ensures.back c.split_at.ensures.front_len (digest ∙ ap (λ (l : List ℕ). l ++ c.in-Some.after.now) same)
