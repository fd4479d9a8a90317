-- Lines that a writer was told.
use Rattle.std.proofs.Common.{◌≡◌, ℕ, ◌-◌, Bool, true, List, [], ◌∷◌, ◌++◌, length, take, drop, refl, sym, ap, subst, append_assoc, append-nil, take-append-drop, ◌∙◌}
use Rattle.std.specs.Prelude.{Option}
use Rattle.std.specs.List.{concat}
use Rattle.std.specs.Io.KnownBytes.{Appends}
use Rattle.std.proofs.KnownBytes.{Appends-nil, Appends-trans}
use Rattle.std.proofs.lemmas.Bool.{true≢false}
use Rattle.std.proofs.lemmas.List.{map-append, take_rest}
use Rattle.std.proofs.lemmas.List.Folds.{concat-append}
use Rattle.fw_rollout.specs.declared.ended.Ended.{Ended}
use Rattle.fw_host.specs.Heads.{ended_line}
use Rattle.fw_host.specs.Telling.{AppendsFront, AreFronts, Told, lines_of_rows}

fronts_append : (xs ys : List (List ℕ)) (s t : List ℕ) → AreFronts xs s → AreFronts ys t → AreFronts (xs ++ ys) (s ++ t)
fronts_append [] ys s t none are = subst (AreFronts ys) (sym (ap (λ (l : List ℕ). l ++ t) none)) are
fronts_append (x ∷ xs) ys s t (front, lost, others, is, joined, are) more =
    (front, lost, others ++ t, is, ap (λ (l : List ℕ). l ++ t) joined ∙ append_assoc front others t, fronts_append xs ys others t are more)

-- no line
pub told_none : (was : Bool) (a : Option (List ℕ)) → Told [] was was a a
told_none was a = record { text = []; appends = Appends-nil a; fronts = refl; whole = λ e. (e, refl) }

-- lines and then others
pub told_on : (xs ys : List (List ℕ)) (p q r : Bool) (a b c : Option (List ℕ)) → Told xs p q a b → Told ys q r b c → Told (xs ++ ys) p r a c
told_on xs ys p q r a b c first second = record {
  text = first.text ++ second.text;
  appends = Appends-trans a b c first.text second.text first.appends second.appends;
  fronts = fronts_append xs ys first.text second.text first.fronts second.fronts;
  whole = λ e.
      let (kept, more) = second.whole e in
      let (was, all) = first.whole kept in
      (was, ap (λ (l : List ℕ). l ++ second.text) all ∙ ap (λ (l : List ℕ). concat xs ++ l) more ∙ sym (concat-append xs ys));
}

-- a line that is written whole
pub told_whole : (line : List ℕ) (was : Bool) (a b : Option (List ℕ)) → Appends a b line → Told (line ∷ []) was was a b
told_whole line was a b appends = record {
  text = line;
  appends = appends;
  fronts = (line, [], [], sym (append-nil line), sym (append-nil line), refl);
  whole = λ e. (e, sym (append-nil line));
}

-- a line that is lost
pub told_lost : (line : List ℕ) (was : Bool) (a b : Option (List ℕ)) → AppendsFront a b line → Told (line ∷ []) was true a b
told_lost line was a b (front, lost, is, appends) = record {
  text = front;
  appends = appends;
  fronts = (front, lost, [], is, sym (append-nil front), refl);
  whole = λ e. absurd (true≢false e);
}

-- a line for which there is no memory
pub told_nothing : (line : List ℕ) (was : Bool) (a : Option (List ℕ)) → Told (line ∷ []) was true a a
told_nothing line was a = told_lost line was a a ([], line, refl, Appends-nil a)

-- the same line
pub told_line : (one other : List ℕ) (p q : Bool) (a b : Option (List ℕ)) → one ≡ other → Told (one ∷ []) p q a b → Told (other ∷ []) p q a b
told_line one other p q a b same told = subst (λ (l : List ℕ). Told (l ∷ []) p q a b) same told

-- the next row
pub told_row : (rows : List Ended) (ended : Ended) (p q r : Bool) (a b c : Option (List ℕ)) → Told (lines_of_rows rows) p q a b → Told (ended_line ended ∷ []) q r b c
    → Told (lines_of_rows (rows ++ ended ∷ [])) p r a c
told_row rows ended p q r a b c first next =
    subst (λ (l : List (List ℕ)). Told l p r a c) (sym (map-append (λ (row : Ended). ended_line row) rows (ended ∷ [])))
    (told_on (lines_of_rows rows) (ended_line ended ∷ []) p q r a b c first next)

-- ---- the writes of a line

pub moves_front : (all done rest : List ℕ) (n : ℕ) → all ≡ done ++ rest → all ≡ (done ++ take n rest) ++ take (length rest - n) (drop n rest)
moves_front all done rest n e =
    e ∙ ap (λ (l : List ℕ). done ++ l) (sym (take-append-drop n rest)) ∙ sym (append_assoc done (take n rest) (drop n rest))
    ∙ ap (λ (l : List ℕ). (done ++ take n rest) ++ l) (sym (take_rest rest n))
