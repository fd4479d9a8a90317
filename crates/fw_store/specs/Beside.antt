-- Public vocabulary: which files beside a store are its own.
use Rattle.std.specs.Prelude.{◌≡◌, ◌⊎◌, ℕ, ◌≤◌, List, length, take, replicate}
use Rattle.std.specs.Int.{w32, to_be_bytes}
use Rattle.std.proofs.Common.{refl, sym, ap, ◌∙◌, inl, inr, arith}
use Rattle.std.proofs.lemmas.Bool.{cases_lt}
use Rattle.std.proofs.lemmas.List.{length-take, take-take, take_all}
use Rattle.fw_cuts.specs.Write.{mark, max_journal}
use Rattle.fw_store.specs.Setup.{IsCapacity}
use Rattle.fw_store.specs.StoreBytes.{store_size}
use Rattle.fw_store.specs.declared.version.HeaderVersion.TheVariants.{Two}

-- bytes that begin with the capacity of a store, and are no more than it has
pub record BeginsStore (capacity : ℕ) (bytes : List ℕ) : Type 0 where
  pub begins : take 4 bytes ≡ to_be_bytes w32 capacity
  pub room : IsCapacity capacity
  pub most : length bytes ≤ store_size Two capacity

-- what is left of a store that is made: any bytes in the place of its capacity, or that, and some of the rest or all
abbrev pub IsBegunStore : List ℕ → Type 0
IsBegunStore bytes = (length bytes ≤ 4) ⊎ ((capacity : ℕ) × BeginsStore capacity bytes)

-- What a power cut leaves of an undo file: no more bytes than one has, and in front its mark, or zeros if its first sector is not
-- written yet, as far as they go.
pub record IsUndoFile (bytes : List ℕ) : Type 0 where
  pub most : length bytes ≤ max_journal
  pub front : (take 4 bytes ≡ take (length bytes) mark) ⊎ (take 4 bytes ≡ take (length bytes) (replicate 4 0))

-- bytes that begin as this form, as far as they go, do so where they are cut
begins_again : (form bytes : List ℕ) (count : ℕ) → length form ≡ 4 → take 4 bytes ≡ take (length bytes) form
    → take 4 (take count bytes) ≡ take (length (take count bytes)) form
begins_again form bytes count four begins =
    let size = length-take count bytes in
    elim (cases_lt count 4) [
      | inl short ↦ elim (cases_lt (length bytes) count) [
        | inl less ↦
            let same : take count bytes ≡ bytes = take_all count bytes (omega arith) in
            ap (take 4) same ∙ begins ∙ ap (λ (l : List ℕ). take (length l) form) (sym same)
        | inr more ↦
            let here : length (take count bytes) ≡ count = omega arith in
            take_all 4 (take count bytes) (omega arith)
            ∙ sym (take-take count 4 bytes (omega arith))
            ∙ ap (take count) begins
            ∙ take-take count (length bytes) form more
            ∙ ap (λ (n : ℕ). take n form) (sym here)
      ]
      | inr long ↦ take-take 4 count bytes long ∙ begins ∙ elim (cases_lt (length bytes) count) [
        | inl less ↦ ap (λ (l : List ℕ). take (length l) form) (sym (take_all count bytes (omega arith)))
        | inr more ↦
            let here : length (take count bytes) ≡ count = omega arith in
            take_all (length bytes) form (omega arith)
            ∙ sym (take_all count form (omega arith))
            ∙ ap (λ (n : ℕ). take n form) (sym here)
      ]
    ]

-- ---- the laws of both: any bytes of which none other is written yet are ours, and the first bytes of what is ours

pub few_are_begun : (bytes : List ℕ) → length bytes ≤ 4 → IsBegunStore bytes
few_are_begun bytes few = inl few

pub front_is_begun : (count : ℕ) (bytes : List ℕ) → IsBegunStore bytes → IsBegunStore (take count bytes)
front_is_begun count bytes is =
    let size = length-take count bytes in
    elim is [
      | inl few ↦ inl (omega arith)
      | inr (capacity, store) ↦ elim (cases_lt count 4) [
        | inl short ↦ inl (omega arith)
        | inr long ↦ inr (
          capacity,
          record {
            begins = take-take 4 count bytes long ∙ store.begins;
            room = store.room;
            most = let most : length bytes ≤ store_size Two capacity = store.most in omega arith;
          },
        )
      ]
    ]

pub none_is_undo : (bytes : List ℕ) → length bytes ≤ 0 → IsUndoFile bytes
none_is_undo bytes none =
    let empty : length bytes ≡ 0 = omega arith in
    record {
      most = omega arith;
      front = inl (take_all 4 bytes (omega arith) ∙ sym (take_all 0 bytes none) ∙ ap (λ (n : ℕ). take n mark) (sym empty));
    }

pub front_is_undo : (count : ℕ) (bytes : List ℕ) → IsUndoFile bytes → IsUndoFile (take count bytes)
front_is_undo count bytes is =
    let most : length bytes ≤ max_journal = is.most in
    record {
      most = omega (arith, length-take count bytes);
      front = elim is.front [
        | inl marked ↦ inl (begins_again mark bytes count refl marked)
        | inr blank ↦ inr (begins_again (replicate 4 0) bytes count refl blank)
      ];
    }
