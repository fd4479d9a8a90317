-- Public vocabulary: which file beside a capture is its own, and what its making leaves when it is cut.
use Rattle.std.specs.Prelude.{◌≡◌, ◌⊎◌, ℕ, ◌≤◌, List, length, take, replicate}
use Rattle.std.proofs.Common.{refl, sym, ap, ◌∙◌, inl, inr, arith}
use Rattle.std.proofs.lemmas.Bool.{cases_lt}
use Rattle.std.proofs.lemmas.List.{length-take, take-take, take_all}
use Rattle.fw_capture.specs.Spelling.{file_header}
use Rattle.fw_disk.specs.declared.name.Name.TheVariants.{Main, New}
use Rattle.fw_disk.specs.Disk.{Disk, ChangesOnly}
use Rattle.fw_disk.specs.Ours.{IsNamed}

-- What a cut making leaves of a capture: no more bytes than its file header has, and in front those of the header, or zeros if they are
-- not written yet, as far as they go.
pub record IsBegunCapture (bytes : List ℕ) : Type 0 where
  pub most : length bytes ≤ 24
  pub front : (take 16 bytes ≡ take (length bytes) (take 16 file_header)) ⊎ (take 16 bytes ≡ take (length bytes) (replicate 16 0))

-- FILE is as before, or has these bytes. Nothing else changes, except FILE.new and what may be taken there.
pub record MakesFile (bytes : List ℕ) (may : ℕ → Type 0) (old new : Disk) : Type 0 where
  pub main : (new.entry Main ≡ old.entry Main) ⊎ ((n : ℕ) × IsNamed Main n bytes new)
  pub only : ChangesOnly (λ m. (m ≡ Main) ⊎ (m ≡ New)) may old new

-- bytes that begin as this form, as far as they go, do so where they are cut
pub begins_again : (form bytes : List ℕ) (count : ℕ) → length form ≡ 16 → take 16 bytes ≡ take (length bytes) form
    → take 16 (take count bytes) ≡ take (length (take count bytes)) form
begins_again form bytes count sixteen begins =
    let size = length-take count bytes in
    elim (cases_lt count 16) [
      | inl short ↦ elim (cases_lt (length bytes) count) [
        | inl less ↦
            let same : take count bytes ≡ bytes = take_all count bytes (omega arith) in
            ap (take 16) same ∙ begins ∙ ap (λ (l : List ℕ). take (length l) form) (sym same)
        | inr more ↦
            let here : length (take count bytes) ≡ count = omega arith in
            take_all 16 (take count bytes) (omega arith)
            ∙ sym (take-take count 16 bytes (omega arith))
            ∙ ap (take count) begins
            ∙ take-take count (length bytes) form more
            ∙ ap (λ (n : ℕ). take n form) (sym here)
      ]
      | inr long ↦ take-take 16 count bytes long ∙ begins ∙ elim (cases_lt (length bytes) count) [
        | inl less ↦ ap (λ (l : List ℕ). take (length l) form) (sym (take_all count bytes (omega arith)))
        | inr more ↦
            let here : length (take count bytes) ≡ count = omega arith in
            take_all (length bytes) form (omega arith)
            ∙ sym (take_all count form (omega arith))
            ∙ ap (λ (n : ℕ). take n form) (sym here)
      ]
    ]

-- ---- its laws: no bytes are ours, and the first bytes of what is ours

pub none_is_begun : (bytes : List ℕ) → length bytes ≤ 0 → IsBegunCapture bytes
none_is_begun bytes none =
    let empty : length bytes ≡ 0 = omega arith in
    record {
      most = omega arith;
      front = inr (take_all 16 bytes (omega arith) ∙ sym (take_all 0 bytes none) ∙ ap (λ (n : ℕ). take n (replicate 16 0)) (sym empty));
    }

pub front_is_begun : (count : ℕ) (bytes : List ℕ) → IsBegunCapture bytes → IsBegunCapture (take count bytes)
front_is_begun count bytes is =
    let most : length bytes ≤ 24 = is.most in
    record {
      most = omega (arith, length-take count bytes);
      front = elim is.front [
        | inl header ↦ inl (begins_again (take 16 file_header) bytes count refl header)
        | inr blank ↦ inr (begins_again (replicate 16 0) bytes count refl blank)
      ];
    }
