-- A script as far as it has come, one line after another.
use Rattle.std.proofs.Common.{◌≡◌, false, ℕ, ◌+◌, List, [], ◌∷◌, ◌++◌, length, Option, None, Some, refl, sym, ap, ◌∙◌, append_assoc, append-nil, arith, length-append}
use Rattle.std.specs.Prelude.{IsSome, option_and_then}
use Rattle.fw_text.specs.Lines.{lines_of}
use Rattle.fw_script.specs.Script.{Script, no_script, is_skipped, with_line, with_lines, SpellsScript, IsBadLine, BeginsScript}

-- Some lines of the input are this script, and the line of this number is the first of the rest.
pub record SoFar (input : List ℕ) (script : Script) (number : ℕ) (rest : List ℕ) : Type 0 where
  pub before : List (List ℕ)
  pub lines : lines_of input ≡ before ++ lines_of rest
  pub begins : with_lines no_script before ≡ Some script
  pub counted : number ≡ length before + 1

-- the first of several lines
more_by : (v : Option Script) (script next : Script) (before after : List (List ℕ)) → ((s : Script) → with_lines s before ≡ Some script → with_lines s after ≡ Some next)
    → option_and_then (λ s. with_lines s before) v ≡ Some script → option_and_then (λ s. with_lines s after) v ≡ Some next
more_by None script next before after goes_on begins = cc begins
more_by (Some s) script next before after goes_on begins = goes_on s begins

-- one line more
more : (s script next : Script) (before : List (List ℕ)) (line : List ℕ) → with_lines s before ≡ Some script → with_line script line ≡ Some next → with_lines s (before ++ line ∷ []) ≡ Some next
more s script next [] line begins adds =
    let same : script ≡ s = cc begins in
    let here : with_line s line ≡ Some next = rw same at adds in
    rw here refl
more s script next (l ∷ before) line begins adds = more_by (with_line s l) script next before (before ++ line ∷ []) (λ t begun. more t script next before line begun adds) begins

pub begins : (input : List ℕ) → SoFar input no_script 1 input
begins input = record { before = []; lines = refl; begins = refl; counted = refl }

pub goes_on : (input : List ℕ) (script next : Script) (line rest after : List ℕ) (number : ℕ) → SoFar input script number rest → lines_of rest ≡ line ∷ lines_of after
    → with_line script line ≡ Some next → SoFar input next (number + 1) after
goes_on input script next line rest after number so_far cut adds = record {
  before = so_far.before ++ line ∷ [];
  lines = so_far.lines ∙ ap (λ (ls : List (List ℕ)). so_far.before ++ ls) cut ∙ sym (append_assoc so_far.before (line ∷ []) (lines_of after));
  begins = more no_script script next so_far.before line so_far.begins adds;
  counted = omega (arith, so_far.counted, length-append so_far.before (line ∷ []));
}

-- no line is left
pub ends : (input : List ℕ) (script : Script) (rest : List ℕ) (number : ℕ) → SoFar input script number rest → lines_of rest ≡ [] → SpellsScript input script
ends input script rest number so_far none =
    let whole : lines_of input ≡ so_far.before = so_far.lines ∙ ap (λ (ls : List (List ℕ)). so_far.before ++ ls) none ∙ append-nil so_far.before in
    rw whole so_far.begins

-- a bad line is met
pub stops : (input : List ℕ) (script : Script) (line rest after : List ℕ) (number : ℕ) → SoFar input script number rest → lines_of rest ≡ line ∷ lines_of after → with_line script line ≡ None
    → IsBadLine input number
stops input script line rest after number so_far cut bad = record {
  before = so_far.before;
  line = line;
  behind = lines_of after;
  begun = script;
  lines = so_far.lines ∙ ap (λ (ls : List (List ℕ)). so_far.before ++ ls) cut;
  begins = so_far.begins;
  bad = bad;
  counted = so_far.counted;
}

there : {A : Type 0} (o : Option A) → IsSome o → (x : A) × (o ≡ Some x)
there None some = cc some
there (Some x) some = (x, refl)

-- a line that the script goes on with is met
pub begins_script : (input : List ℕ) (script : Script) (line rest after : List ℕ) (number : ℕ) → SoFar input script number rest → lines_of rest ≡ line ∷ lines_of after
    → IsSome (with_line script line) → is_skipped line ≡ false → BeginsScript input
begins_script input script line rest after number so_far cut some kept =
    let next = there (with_line script line) some in
    record {
      before = so_far.before;
      line = line;
      behind = lines_of after;
      begun = next.0;
      lines = so_far.lines ∙ ap (λ (ls : List (List ℕ)). so_far.before ++ ls) cut;
      begins = more no_script script next.0 so_far.before line so_far.begins next.1;
      kept = kept;
    }
