-- What is known once an opening or an end is noted.
use Rattle.std.proofs.Common.{◌≡◌, ◌≢◌, ℕ, ◌+◌, ◌*◌, ◌<◌, ◌^◌, ◌==◌, nat_eq, ◌&&◌, Bool, true, false, List, [], ◌∷◌, Option, Some, None, if◌then◌else◌, refl, sym, ap, ◌∙◌, ⊎_elim, arith}
use Rattle.std.specs.Map.{lookup}
use Rattle.std.proofs.lemmas.Bool.{cases_Bool, cond-true, cond-false, false≢true}
use Rattle.std.proofs.lemmas.Bool.Decides.{Decides-eqb}
use Rattle.indexmap.specs.IndexMap.{insert_entry}
use Rattle.fw_book.specs.declared.notes.End.{End}
use Rattle.fw_book.specs.Notes.{Known, place, NotesSay}

apart : (a b : ℕ) → a ≢ b → (a == b) ≡ false
apart a b differ =
    ⊎_elim (λ same. absurd (differ ((Decides-eqb a b).0 same))) (λ other. other) (cases_Bool (a == b))

module _ {V : Type 0} (k key : ℕ) (v : V) where
  abbrev pick : Option V → Option V
  pick other = if k == key then Some v else other

  found_put : (entries : List (ℕ × V)) → lookup (nat_eq k) (insert_entry nat_eq entries key v) ≡ pick (lookup (nat_eq k) entries)
  found_put [] = refl
  found_put (entry ∷ entries) =
      let one : List (ℕ × V) = (entry.0, v) ∷ entries in
      let rest : List (ℕ × V) = entry ∷ insert_entry nat_eq entries key v in
      let was : Option V = lookup (nat_eq k) (entry ∷ entries) in
      ⊎_elim
      (λ here.
      let same : key ≡ entry.0 = (Decides-eqb key entry.0).0 here in
      let put : lookup (nat_eq k) (insert_entry nat_eq (entry ∷ entries) key v) ≡ lookup (nat_eq k) one = ap (λ (es : List (ℕ × V)). lookup (nat_eq k) es) (cond-true (nat_eq key entry.0) one rest here) in
      ⊎_elim
      (λ it. put ∙ cond-true (nat_eq k entry.0) (Some v) (lookup (nat_eq k) entries) it ∙ sym (cond-true (k == key) (Some v) was (ap (λ n. nat_eq k n) same ∙ it)))
      (λ other.
      put
      ∙ cond-false (nat_eq k entry.0) (Some v) (lookup (nat_eq k) entries) other
      ∙ sym (cond-false (nat_eq k entry.0) (Some entry.1) (lookup (nat_eq k) entries) other)
      ∙ sym (cond-false (k == key) (Some v) was (ap (λ n. nat_eq k n) same ∙ other)))
      (cases_Bool (nat_eq k entry.0)))
      (λ away.
      let put : lookup (nat_eq k) (insert_entry nat_eq (entry ∷ entries) key v) ≡ lookup (nat_eq k) rest = ap (λ (es : List (ℕ × V)). lookup (nat_eq k) es) (cond-false (nat_eq key entry.0) one rest away) in
      ⊎_elim
      (λ it.
      let differ : k ≢ key = λ same. false≢true (sym away ∙ (Decides-eqb key entry.0).1 (sym same ∙ (Decides-eqb k entry.0).0 it)) in
      put
      ∙ cond-true (nat_eq k entry.0) (Some entry.1) (lookup (nat_eq k) (insert_entry nat_eq entries key v)) it
      ∙ sym (cond-true (nat_eq k entry.0) (Some entry.1) (lookup (nat_eq k) entries) it)
      ∙ sym (cond-false (k == key) (Some v) was (apart k key differ)))
      (λ other.
      put
      ∙ cond-false (nat_eq k entry.0) (Some entry.1) (lookup (nat_eq k) (insert_entry nat_eq entries key v)) other
      ∙ found_put entries
      ∙ ap pick (sym (cond-false (nat_eq k entry.0) (Some entry.1) (lookup (nat_eq k) entries) other)))
      (cases_Bool (nat_eq k entry.0)))
      (cases_Bool (nat_eq key entry.0))

-- two rows have one place only if they are one row
one_place : (a b m n : ℕ) → m < 2 ^ 32 → n < 2 ^ 32 → place a m ≡ place b n → (a ≡ b) × (m ≡ n)
one_place a b m n fits also same =
    let campaigns : a ≡ b = omega arith in
    let meters : m ≡ n = omega arith in
    (campaigns, meters)

same_places : (a b m n : ℕ) → m < 2 ^ 32 → n < 2 ^ 32 → (place a m == place b n) ≡ ((a == b) && (m == n))
same_places a b m n fits also =
    ⊎_elim
    (λ same.
    let both = one_place a b m n fits also ((Decides-eqb (place a m) (place b n)).0 same) in
    same ∙ sym (ap (λ x. x && (m == n)) ((Decides-eqb a b).1 both.0) ∙ (Decides-eqb m n).1 both.1))
    (λ differ.
    differ ∙ sym (⊎_elim
    (λ alike.
    ⊎_elim
    (λ also_alike.
    let places : place a m ≡ place b n = ap (λ x. place x m) ((Decides-eqb a b).0 alike) ∙ ap (λ x. place b x) ((Decides-eqb m n).0 also_alike) in
    absurd (false≢true (sym differ ∙ (Decides-eqb (place a m) (place b n)).1 places)))
    (λ not_alike. ap (λ x. x && (m == n)) alike ∙ not_alike)
    (cases_Bool (m == n)))
    (λ not_alike. ap (λ x. x && (m == n)) not_alike)
    (cases_Bool (a == b))))
    (cases_Bool (place a m == place b n))

pub notes_say : NotesSay
notes_say = record {
  opened = λ known serial at other. found_put other serial at known.openings;
  ended = λ known serial meter end other whose fits also.
      found_put (place other whose) (place serial meter) end known.ends
      ∙ ap (λ (b : Bool). if b then Some end else lookup (nat_eq (place other whose)) known.ends) (same_places other serial whose meter also fits);
}
