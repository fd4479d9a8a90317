-- What a power cut leaves in each of the two steps of a commit.
use Rattle.std.proofs.Common.{◌≡◌, ◌⊎◌, inl, inr, ℕ, ◌+◌, ◌≤◌, List, [], ◌∷◌, ◌++◌, length, get_or, take, drop, refl, sym, ◌∙◌, ap, subst, arith, append_assoc, length-append, take-append-drop}
use Rattle.std.proofs.lemmas.Bool.{cases_eq}
use Rattle.std.proofs.lemmas.List.{take_at, drop_at, drop_more, take_all, drop_all, append-nil}
use Rattle.fw_journal.specs.Device.{splice, IsTorn}
use Rattle.fw_journal.specs.Book.{blocks, book_front, book_bytes, AreRecords, Stands}
use Rattle.fw_journal.proofs.BookLemmas.{front-append, are-append, shut_at}

-- a journal with blocks after its shut gate, and a shut gate after those
abbrev pub staged : List (List ℕ) → List ℕ → List ℕ
staged done behind = book_front done ++ 0 ∷ behind

module _ (done : List (List ℕ)) (end : ℕ) (ends : end ≡ length (book_front done)) (fit : AreRecords done) where
  pub length-book_bytes : length (book_bytes done) ≡ end + 1
  length-book_bytes = omega (arith, ends, length-append (book_front done) (0 ∷ []))

  pub closed_stands : (rest : List ℕ) → Stands (book_front done ++ 0 ∷ rest) done
  closed_stands rest = record { fit = fit; end = 0 ∷ rest; split = refl; shut = shut_at 0 rest (omega arith) }

  pub rest_stands : (c : List ℕ) → c ≡ book_bytes done → Stands c done
  rest_stands c is = subst (λ (l : List ℕ). Stands l done) (sym is) (closed_stands [])

  -- the shut gate stands in each outcome of the first write
  pub torn_behind : (n : ℕ) (c : List ℕ) → IsTorn (end + 1) n (book_bytes done) c → Stands c done
  torn_behind n c torn =
      let front : take (end + 1) c ≡ book_bytes done = torn.before ∙ take_all _ _ (omega (arith, length-book_bytes)) in
      let whole : c ≡ book_front done ++ 0 ∷ drop (end + 1) c =
      sym (take-append-drop (end + 1) c) ∙ ap (λ (l : List ℕ). l ++ drop (end + 1) c) front ∙ append_assoc (book_front done) (0 ∷ []) (drop (end + 1) c) in
      subst (λ (l : List ℕ). Stands l done) (sym whole) (closed_stands (drop (end + 1) c))

  pub written_behind : (behind c : List ℕ) → c ≡ splice (book_bytes done) (end + 1) behind → c ≡ staged done behind
  written_behind behind c holds =
      holds
      ∙ ap (λ (l : List ℕ). l ++ behind ++ drop (end + 1 + length behind) (book_bytes done)) (take_all _ _ (omega (arith, length-book_bytes)))
      ∙ ap (λ (l : List ℕ). book_bytes done ++ behind ++ l) (drop_all (end + 1 + length behind) (book_bytes done) (omega (arith, length-book_bytes)))
      ∙ append-nil (book_bytes done ++ behind)
      ∙ append_assoc (book_front done) (0 ∷ []) behind

  front : (behind : List ℕ) → take end (staged done behind) ≡ book_front done
  front behind = take_at (book_front done) (0 ∷ behind) end (sym ends)

  back : (behind : List ℕ) → drop (end + 1) (staged done behind) ≡ behind
  back behind =
      ap (λ (l : List ℕ). drop (end + 1) l) (sym (append_assoc (book_front done) (0 ∷ []) behind)) ∙ drop_at (book_bytes done) behind (end + 1) length-book_bytes

  pub length-staged : (behind : List ℕ) → length (staged done behind) ≡ end + 1 + length behind
  length-staged behind = omega (arith, ends, length-append (book_front done) (0 ∷ behind))

  module _ (waiting : List (List ℕ)) (behind : List ℕ) (are : AreRecords waiting) (is : 1 ∷ behind ≡ blocks waiting ++ 0 ∷ []) where
    -- an open gate lets all of them in
    open_is : book_front done ++ 1 ∷ behind ≡ book_bytes (done ++ waiting)
    open_is = ap (λ (l : List ℕ). book_front done ++ l) is ∙ sym (append_assoc (book_front done) (blocks waiting) (0 ∷ [])) ∙ ap (λ (l : List ℕ). l ++ 0 ∷ []) (sym (front-append done waiting))

    both : (gate : ℕ) → Stands (book_front done ++ gate ∷ behind) done ⊎ Stands (book_front done ++ gate ∷ behind) (done ++ waiting)
    both gate = elim (cases_eq gate 1) [
      | inl is_open ↦ inr (record {
        fit = are-append done waiting fit are;
        end = 0 ∷ [];
        split = ap (λ (g : ℕ). book_front done ++ g ∷ behind) is_open ∙ open_is;
        shut = tt;
      })
      | inr shut ↦ inl (record { fit = fit; end = gate ∷ behind; split = refl; shut = shut_at gate behind shut })
    ]

    -- the blocks stand whole in each outcome of the second write
    pub torn_gate : (c : List ℕ) → IsTorn end 1 (staged done behind) c → Stands c done ⊎ Stands c (done ++ waiting)
    torn_gate c torn =
        let long = length-staged behind in
        let gate = get_or c end 0 in
        let rest : drop end c ≡ gate ∷ behind = drop_more c end 0 (omega (arith, torn.no_shorter)) ∙ ap (λ (l : List ℕ). gate ∷ l) (torn.after ∙ back behind) in
        let whole : c ≡ book_front done ++ gate ∷ behind =
        sym (take-append-drop end c) ∙ ap (λ (l : List ℕ). l ++ drop end c) (torn.before ∙ front behind) ∙ ap (λ (l : List ℕ). book_front done ++ l) rest in
        subst (λ (l : List ℕ). Stands l done ⊎ Stands l (done ++ waiting)) (sym whole) (both gate)

    pub written_gate : (c : List ℕ) → c ≡ splice (staged done behind) end (1 ∷ []) → c ≡ book_bytes (done ++ waiting)
    written_gate c holds =
        holds
        ∙ ap (λ (l : List ℕ). l ++ (1 ∷ []) ++ drop (end + 1) (staged done behind)) (front behind)
        ∙ ap (λ (l : List ℕ). book_front done ++ (1 ∷ []) ++ l) (back behind)
        ∙ append_assoc (book_front done) (1 ∷ []) behind
        ∙ open_is

-- what is written after the gate, if something waits
pub behind_is : (waiting : List (List ℕ)) (items : List ℕ) → 1 ≤ length (blocks waiting) → items ≡ blocks waiting ++ 0 ∷ [] → 1 ∷ drop 1 items ≡ blocks waiting ++ 0 ∷ []
behind_is [] items some is = absurd (omega (arith, some))
behind_is (w ∷ waiting) items some is = ap (λ (l : List ℕ). 1 ∷ drop 1 l) is

pub nothing_waits : (waiting : List (List ℕ)) → blocks waiting ≡ [] → waiting ≡ []
nothing_waits [] is = refl
nothing_waits (w ∷ waiting) is = absurd (cc is)

pub is_none : (items : List ℕ) → length items ≡ 0 → items ≡ []
is_none [] none = refl
is_none (b ∷ items) none = absurd (omega (arith, none))
