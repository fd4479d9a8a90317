-- An input is one script, or it has one bad line.
use Rattle.std.proofs.Common.{◌≡◌, ℕ, List, [], ◌∷◌, ◌++◌, length, Option, None, Some, refl, sym, ◌∙◌, arith}
use Rattle.std.specs.Prelude.{option_and_then}
use Rattle.fw_text.specs.Lines.{lines_of}
use Rattle.fw_script.specs.Script.{Script, no_script, with_line, with_lines, SpellsScript, IsBadLine}
use Rattle.fw_script.specs.Laws.{OneScript}

same_script : (script other : Script) → Some script ≡ Some other → script ≡ other
same_script script other same = cc same

no_script_is_none : (script : Script) (o : Option Script) → o ≡ Some script → o ≡ None → ⊥
no_script_is_none script (Some x) some none = cc none
no_script_is_none script None some none = cc some

-- the first of several lines
ends_by : (v : Option Script) (begun : Script) (before whole : List (List ℕ)) → ((s : Script) → with_lines s before ≡ Some begun → with_lines s whole ≡ None)
    → option_and_then (λ s. with_lines s before) v ≡ Some begun → option_and_then (λ s. with_lines s whole) v ≡ None
ends_by None begun before whole ends begins = refl
ends_by (Some s) begun before whole ends begins = ends s begins

-- after a bad line nothing goes on
ends : (s begun : Script) (before behind : List (List ℕ)) (line : List ℕ) → with_lines s before ≡ Some begun → with_line begun line ≡ None → with_lines s (before ++ line ∷ behind) ≡ None
ends s begun [] behind line begins bad =
    let same : begun ≡ s = cc begins in
    let here : with_line s line ≡ None = rw same at bad in
    rw here refl
ends s begun (l ∷ before) behind line begins bad = ends_by (with_line s l) begun before (before ++ line ∷ behind) (λ t more. ends t begun before behind line more bad) begins

never_both : (input : List ℕ) (script : Script) (number : ℕ) → SpellsScript input script → IsBadLine input number → ⊥
never_both input script number spelled bad =
    no_script_is_none script (with_lines no_script (lines_of input)) spelled (rw bad.lines (ends no_script bad.begun bad.before bad.behind bad.line bad.begins bad.bad))

-- the first line adds to a script, with which the others go on
passes_by : (v : Option Script) (a : Script) (lines : List (List ℕ)) → option_and_then (λ t. with_lines t lines) v ≡ Some a → (next : Script) × (v ≡ Some next) × (with_lines next lines ≡ Some a)
passes_by None a lines f = absurd (no_script_is_none a None f refl)
passes_by (Some next) a lines f = (next, refl, f)

passes : (s a : Script) (line : List ℕ) (lines : List (List ℕ)) → with_lines s (line ∷ lines) ≡ Some a → (next : Script) × (with_line s line ≡ Some next) × (with_lines next lines ≡ Some a)
passes s a line lines f = passes_by (with_line s line) a lines f

-- where the lines before a bad line end
at_one : (one two rest left : List (List ℕ)) (line other : List ℕ) (s a b : Script) → with_lines s one ≡ Some a → with_lines s two ≡ Some b → with_line a line ≡ None → with_line b other ≡ None
    → one ++ line ∷ rest ≡ two ++ other ∷ left → length one ≡ length two
at_one [] [] rest left line other s a b f g bad worse same = refl
at_one [] (l ∷ two) rest left line other s a b f g bad worse same =
    let start : a ≡ s = cc f in
    let first : line ≡ l = cc same in
    let here : with_line s l ≡ None = rw (first, start) at bad in
    absurd (no_script_is_none b (with_lines s (l ∷ two)) g (rw here refl))
at_one (k ∷ one) [] rest left line other s a b f g bad worse same =
    let start : b ≡ s = cc g in
    let first : other ≡ k = cc same in
    let here : with_line s k ≡ None = rw (first, start) at worse in
    absurd (no_script_is_none a (with_lines s (k ∷ one)) f (rw here refl))
at_one (k ∷ one) (l ∷ two) rest left line other s a b f g bad worse same =
    let first : k ≡ l = cc same in
    let others : one ++ line ∷ rest ≡ two ++ other ∷ left = cc same in
    let next = passes s a k one f in
    let again : option_and_then (λ t. with_lines t two) (with_line s k) ≡ Some b = rw first g in
    let goes_on : with_lines next.0 two ≡ Some b = rw next.1 at again in
    let more = at_one one two rest left line other next.0 a b next.2 goes_on bad worse others in
    omega (arith, more)

one_bad_line : (input : List ℕ) (number other : ℕ) → IsBadLine input number → IsBadLine input other → number ≡ other
one_bad_line input number other x y =
    let same = at_one x.before y.before x.behind y.behind x.line y.line no_script x.begun y.begun x.begins y.begins x.bad y.bad (sym x.lines ∙ y.lines) in
    omega (arith, same, x.counted, y.counted)

pub one_script : OneScript
one_script = record {
  one_script = λ input script other a b. same_script script other (sym a ∙ b);
  never_both = never_both;
  one_bad_line = one_bad_line;
}
