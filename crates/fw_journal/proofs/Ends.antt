-- What a power cut leaves while the end of a journal is made a shut gate.
use Rattle.std.proofs.Common.{◌≡◌, ◌⊎◌, inr, ℕ, zero, suc, ◌+◌, ◌-◌, ◌≤◌, List, [], ◌∷◌, ◌++◌, length, take, drop, sym, ◌∙◌, ap, subst, arith, length-drop, length-append, take-append-drop}
use Rattle.std.proofs.lemmas.List.{append-nil, take_at, take_all, drop_all}
use Rattle.fw_journal.specs.Device.{splice, IsTorn, IsShortened}
use Rattle.fw_journal.specs.Book.{book_front, book_bytes, IsShut, Stands}
use Rattle.fw_journal.proofs.BookLemmas.{stands_unique}

-- the front of an end that isn't open is none that is
front_shut : (n : ℕ) (end : List ℕ) → IsShut end → IsShut (take n end)
front_shut zero end shut = tt
front_shut (suc n) [] shut = tt
front_shut (suc zero) (g ∷ end) shut = tt
front_shut (suc (suc n)) (g ∷ []) shut = tt
front_shut (suc (suc n)) (g ∷ b ∷ end) shut = shut

short_shut : (end : List ℕ) → length end ≤ 1 → IsShut end
short_shut [] short = tt
short_shut (g ∷ []) short = tt
short_shut (g ∷ b ∷ end) short = absurd (omega (arith, short))

take_past : (xs ys : List ℕ) (m n : ℕ) → m ≡ length xs + n → take m (xs ++ ys) ≡ xs ++ take n ys
take_past [] ys m n is = let same : m ≡ n = omega arith in ap (λ (k : ℕ). take k ys) same
take_past (x ∷ xs) ys zero n is = absurd (omega arith)
take_past (x ∷ xs) ys (suc m) n is = ap (λ (l : List ℕ). x ∷ l) (take_past xs ys m n (omega arith))

module _ (file : List ℕ) (records : List (List ℕ)) (size : ℕ) (sized : size ≡ length (book_front records)) (stands : Stands file records) where
  -- any cut after the records keeps them
  pub cut_keeps : (c : List ℕ) → IsShortened size file c → Stands c records
  cut_keeps c cut =
      let n = length c - length (book_front records) in
      let split : c ≡ book_front records ++ take n stands.end =
      sym cut.front ∙ ap (λ (l : List ℕ). take (length c) l) stands.split ∙ take_past (book_front records) stands.end (length c) n (omega (arith, cut.no_shorter, sized, ap length stands.split, length-append (book_front records) stands.end)) in
      record { fit = stands.fit; end = take n stands.end; split = split; shut = front_shut n stands.end stands.shut }

  pub cut_done : take size file ≡ book_front records
  cut_done = ap (λ (l : List ℕ). take size l) stands.split ∙ take_at (book_front records) stands.end size (sym sized)

  -- one byte after the records is no record
  pub torn_end : (c : List ℕ) → IsTorn size 1 (book_front records) c → Stands c records
  torn_end c torn =
      let front : take size c ≡ book_front records = torn.before ∙ take_all size (book_front records) (omega (arith, sized)) in
      record {
        fit = stands.fit;
        end = drop size c;
        split = sym (take-append-drop size c) ∙ ap (λ (l : List ℕ). l ++ drop size c) front;
        shut = short_shut (drop size c) (omega (arith, length-drop size c, sized, torn.no_longer));
      }

  pub written_end : (c : List ℕ) → c ≡ splice (book_front records) size (0 ∷ []) → c ≡ book_bytes records
  written_end c holds =
      holds
      ∙ ap (λ (l : List ℕ). l ++ (0 ∷ []) ++ drop (size + 1) (book_front records)) (take_all size (book_front records) (omega (arith, sized)))
      ∙ ap (λ (l : List ℕ). book_front records ++ (0 ∷ []) ++ l) (drop_all (size + 1) (book_front records) (omega (arith, sized)))
      ∙ append-nil (book_bytes records)

  -- such bytes hold the same records, whichever those are
  pub same_records : (may_leave : List ℕ → Type 0) (left : List ℕ) → Stands left records → may_leave left ⊎ ((others : List (List ℕ)) → Stands file others → Stands left others)
  same_records may_leave left is = inr (λ others other. subst (λ (l : List (List ℕ)). Stands left l) (stands_unique file records others stands other) is)
