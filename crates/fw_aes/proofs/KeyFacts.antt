-- The round keys one after another, and the state after one round more.
use Rattle.std.proofs.Common.{true, eqb, ◌≡◌, ◌≢◌, ℕ, suc, ◌+◌, ◌<◌, List, [], length, refl, sym, ◌∙◌, arith, add-one, inl, inr, get_or}
use Rattle.std.proofs.Math.ListN.{set}
use Rattle.std.proofs.lemmas.List.{get_or-set_same, get_or-set_other, get_or_default}
use Rattle.std.proofs.lemmas.Bool.{cases_lt}
use Rattle.fw_aes.specs.Field.{product_below, remainder, times}
use Rattle.fw_aes.specs.Aes.{round_constant, next_key, round_key, after_rounds, cipher, add_round_key, mix_columns, shift_rows, sub_bytes}
use Rattle.fw_aes.specs.declared.aes128.TheConstants.{ROUND_CONSTANTS}
use Rattle.fw_aes.proofs.EveryByte.{all_less, same_less}
use Rattle.fw_aes.specs.Schedule.{IsExpanded, IsExpandedTo}

pub round_key_first : (key : List ℕ) → round_key key 0 ≡ key
unfolding round_key
round_key_first key = refl

pub round_key_next : (key : List ℕ) (n : ℕ) → round_key key (n + 1) ≡ next_key (round_key key n) (round_constant n)
unfolding round_key
round_key_next key n = rw add-one refl

constants_all : all_less 10 (λ n. eqb (get_or ROUND_CONSTANTS n 0) (round_constant n)) ≡ true
unfolding product_below remainder times round_constant
constants_all = refl

pub constant_at : (n : ℕ) → n < 10 → get_or ROUND_CONSTANTS n 0 ≡ round_constant n
constant_at n lt = same_less 10 (λ k. get_or ROUND_CONSTANTS k 0) round_constant constants_all n lt

-- with the first key alone
pub expanded_first : (key : List ℕ) (keys : List (List ℕ)) → get_or keys 0 [] ≡ key → IsExpandedTo key keys 1
expanded_first key keys h k lt =
    let e : k ≡ 0 = omega arith in
    rw e (h ∙ sym (round_key_first key))

-- with one key more
pub expanded_more : (key : List ℕ) (keys : List (List ℕ)) (n : ℕ) (d k r : List ℕ) (constant : ℕ) → length keys ≡ 11 → n < 10 → IsExpandedTo key keys (n + 1)
    → k ≡ get_or keys n d → constant ≡ round_constant n → r ≡ next_key k constant → IsExpandedTo key (set keys (n + 1) r) (n + 1 + 1)
expanded_more key keys n d k r constant len lt held ek ec er i below = elim (cases_lt i (n + 1)) [
  | inl less ↦
      let other : i ≢ n + 1 = omega arith in
      get_or-set_other keys (n + 1) i r [] other ∙ held i less
  | inr ge ↦
      let e : i ≡ n + 1 = omega arith in
      let was : k ≡ round_key key n = ek ∙ get_or_default keys n d [] (omega arith) ∙ held n (omega arith) in
      rw e (get_or-set_same keys (n + 1) r [] (omega arith) ∙ er ∙ rw (was, ec) (sym (round_key_next key n)))
]

-- with all keys
pub expanded_all : (key : List ℕ) (keys : List (List ℕ)) → IsExpandedTo key keys 11 → IsExpanded keys
expanded_all key keys held n lt =
    let first : get_or keys 0 [] ≡ key = held 0 (omega arith) ∙ round_key_first key in
    rw first (held n lt)

pub first_of : (key : List ℕ) (keys : List (List ℕ)) → IsExpandedTo key keys 11 → get_or keys 0 [] ≡ key
first_of key keys held = held 0 (omega arith) ∙ round_key_first key

-- ---- the state

pub state_first : (key : List ℕ) (keys : List (List ℕ)) (block d k r : List ℕ) → length keys ≡ 11 → IsExpanded keys → get_or keys 0 [] ≡ key
    → k ≡ get_or keys 0 d → r ≡ add_round_key block k → r ≡ after_rounds key block 0
unfolding after_rounds
state_first key keys block d k r len held ek ed er =
    er ∙ rw (ed, get_or_default keys 0 d [] (omega arith), held 0 (omega arith), ek) refl

pub state_next : (key : List ℕ) (keys : List (List ℕ)) (block s d k r : List ℕ) (n : ℕ) → length keys ≡ 11 → IsExpanded keys → get_or keys 0 [] ≡ key → n < 9
    → s ≡ after_rounds key block n → k ≡ get_or keys (n + 1) d → r ≡ add_round_key (mix_columns (shift_rows (sub_bytes s))) k → r ≡ after_rounds key block (n + 1)
unfolding after_rounds
state_next key keys block s d k r n len held ek lt es ed er =
    let own : k ≡ round_key key (n + 1) = ed ∙ get_or_default keys (n + 1) d [] (omega arith) ∙ held (n + 1) (omega arith) ∙ rw ek refl in
    er ∙ rw (own, es, add-one) (refl {a = add_round_key (mix_columns (shift_rows (sub_bytes (after_rounds key block n)))) (round_key key (suc n))})

pub state_last : (key : List ℕ) (keys : List (List ℕ)) (block s d k r : List ℕ) → length keys ≡ 11 → IsExpanded keys → get_or keys 0 [] ≡ key
    → s ≡ after_rounds key block 9 → k ≡ get_or keys 10 d → r ≡ add_round_key (shift_rows (sub_bytes s)) k → r ≡ cipher key block
unfolding cipher
state_last key keys block s d k r len held ek es ed er =
    let own : k ≡ round_key key 10 = ed ∙ get_or_default keys 10 d [] (omega arith) ∙ held 10 (omega arith) ∙ rw ek refl in
    er ∙ rw (own, es) refl
