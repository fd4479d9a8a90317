-- What a datagram says, in words, and its line, behind a text.
use Rattle.std.proofs.Common.{◌≡◌, ℕ, Bool, List, ◌++◌, length, Result, Ok, Err, OnOk, inl, inr, refl, sym, ap, subst, ◌∙◌, append_assoc}
use Rattle.std.specs.Prelude.{codes}
use Rattle.fw_capture.specs.View.{Endpoint, Told, datagram}
use Rattle.fw_seal.specs.Sealing.{Ends}
use Rattle.fw_unseal.specs.Unsealing.{LooksPlain, LooksSealed, OpensNot}
use Rattle.fw_dissect.specs.Lines.{AreWords, IsLine, IsTimeIf, PlainWords, datagram_line, front_text, unopened_words}

abbrev pub Goes : List Ends → (bytes old new : List ℕ) → Type 0
Goes links bytes old new = (words : List ℕ) × AreWords links bytes words × (new ≡ old ++ words)

module _ {A E : Type 0} (r : Result A E) where
  and_so : (P Q : Type 0) → (P → Q) → OnOk r P → OnOk r Q
  and_so P Q f h = on r h
    where
      on : (s : Result A E) → OnOk s P → OnOk s Q
      on (Ok x) p = f p
      on (Err e) p = tt

  module _ (links : List Ends) (bytes old new : List ℕ) where
    pub unopened : (counter : ℕ) → LooksSealed bytes counter → OpensNot links bytes → OnOk r (new ≡ old ++ unopened_words counter (length bytes)) → OnOk r (Goes links bytes old new)
    unopened counter looks none =
        and_so (new ≡ old ++ unopened_words counter (length bytes)) (Goes links bytes old new)
        (λ is. (unopened_words counter (length bytes), inr (inl (record { counter = counter; looks = looks; none = none; words_are = refl })), is))

    pub plain : LooksPlain bytes → OnOk r ((words : List ℕ) × PlainWords bytes words × (new ≡ old ++ words)) → OnOk r (Goes links bytes old new)
    plain looks =
        and_so ((words : List ℕ) × PlainWords bytes words × (new ≡ old ++ words)) (Goes links bytes old new) (λ is. (is.0, inr (inr (looks, is.1)), is.2))

  -- what stands before the words, the words, and the end
  pub line : (links : List Ends) (bytes : List ℕ) (number : ℕ) (from to : Endpoint) (t0 t1 t2 t3 : List ℕ) → t1 ≡ t0 ++ front_text number from to → Goes links bytes t1 t2
      → OnOk r (t3 ≡ t2 ++ codes "\n") → OnOk r ((words : List ℕ) × AreWords links bytes words × (t3 ≡ t0 ++ datagram_line number from to words))
  line links bytes number from to t0 t1 t2 t3 first second =
      and_so (t3 ≡ t2 ++ codes "\n") ((words : List ℕ) × AreWords links bytes words × (t3 ≡ t0 ++ datagram_line number from to words))
      (λ third. (
        second.0,
        second.1,
        third ∙ ap (λ (t : List ℕ). t ++ codes "\n") (second.2 ∙ ap (λ (t : List ℕ). t ++ second.0) first)
            ∙ append_assoc (t0 ++ front_text number from to) second.0 (codes "\n") ∙ append_assoc t0 (front_text number from to) (second.0 ++ codes "\n"),
      ))

-- ---- behind the time

module _ (times : Bool) (links : List Ends) (number time : ℕ) (old mid new : List ℕ) where
  abbrev pub Fronts : Type 0
  Fronts = (front : List ℕ) × IsTimeIf times time front × (mid ≡ old ++ front)

  abbrev pub Lines : Told → Type 0
  Lines told = (line : List ℕ) × IsLine times links number time told line × (new ≡ old ++ line)

  behind : (front line : List ℕ) → mid ≡ old ++ front → new ≡ mid ++ line → new ≡ old ++ (front ++ line)
  behind front line first second = second ∙ ap (λ (t : List ℕ). t ++ line) first ∙ append_assoc old front line

  -- it is the line of a record that tells the datagram
  pub line_told : (told : Told) (from to : Endpoint) (bytes : List ℕ) → told ≡ datagram from to bytes → Fronts
      → (words : List ℕ) × AreWords links bytes words × (new ≡ mid ++ datagram_line number from to words) → Lines told
  line_told told from to bytes is (front, timed, first) (words, are, second) =
      subst (λ (t : Told). Lines t) (sym is)
      (front ++ datagram_line number from to words, (front, words, timed, are, refl), behind front (datagram_line number from to words) first second)
