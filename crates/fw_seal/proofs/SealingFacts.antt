-- What is made is a sealing.
use Rattle.std.proofs.Common.{◌≡◌, ℕ, ◌^◌, ◌<◌, List, [], ◌∷◌, ◌++◌, length, Some, ap, ◌∙◌, arith}
use Rattle.fw_axdr.specs.Spelling.{short_length}
use Rattle.fw_axdr.proofs.Lengths.{short_is_length}
use Rattle.fw_seal.specs.Sealing.{IsShortSealing, Keys, content_of, tag_for}
use Rattle.fw_seal.specs.Laws.{ShortIsSealing}

pub short_is_sealing : ShortIsSealing
short_is_sealing keys title counter apdu bytes is =
    let content : List ℕ = content_of keys title counter apdu in
    record {
      counter_fits = is.counter_fits;
      tag = is.tag;
      named = is.named;
      framed = record { size = is.size; len = short_length (length content); is_length = short_is_length (length content) is.size; parts = is.parts };
    }

-- a sealing is put together
pub sealing_put : (keys : Keys) (title apdu content v1 v2 v3 : List ℕ) (counter tag n : ℕ) → counter < 2 ^ 32 → tag_for apdu ≡ Some tag → content ≡ content_of keys title counter apdu
    → n ≡ length content → n < 2 ^ 32 → v1 ≡ [] → v2 ≡ v1 ++ tag ∷ short_length n → v3 ≡ v2 ++ content → IsShortSealing keys title counter apdu v3
sealing_put keys title apdu content v1 v2 v3 counter tag n fits named ec en small e1 e2 e3 =
    let same : n ≡ length (content_of keys title counter apdu) = en ∙ ap length ec in
    record {
      counter_fits = fits;
      size = omega (arith, same);
      tag = tag;
      named = named;
      parts =
          e3 ∙ ap (λ (v : List ℕ). v ++ content) (e2 ∙ ap (λ (v : List ℕ). v ++ tag ∷ short_length n) e1) ∙ ap (λ (v : List ℕ). (tag ∷ short_length n) ++ v) ec
          ∙ ap (λ (k : ℕ). (tag ∷ short_length k) ++ content_of keys title counter apdu) same;
    }
