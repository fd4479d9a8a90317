-- A session as far as it has come, one line after another.
use Rattle.std.proofs.Common.{◌≡◌, ℕ, ◌+◌, List, [], ◌∷◌, ◌++◌, length, None, Some, refl, sym, ap, subst, ◌∙◌, append_assoc, append-nil, arith, length-append}
use Rattle.std.specs.Prelude.{IsErr, IsOk, OnErr, OnOk, Result, Ok, Err, Bool, true, false}
use Rattle.std.specs.Bool.{OnTrue, OnFalse}
use Rattle.hex.specs.Hex.{decode_of}
use Rattle.fw_image.specs.State.{State}
use Rattle.fw_text.specs.Lines.{lines_of}
use Rattle.fw_cli.specs.Session.{AnswersLineOver, AnswersLines, Session, BeginsWell}

-- The first meter answered some lines of the input by the text and became this meter. The line of this number is the
-- first of the rest.
pub record SoFar (first : State) (input text : List ℕ) (meter : State) (number : ℕ) (rest : List ℕ) : Type 0 where
  pub answered : List (List ℕ)
  pub lines : lines_of input ≡ answered ++ lines_of rest
  pub answers : AnswersLines AnswersLineOver first answered text meter
  pub counted : number ≡ length answered + 1

-- one line more is answered
answers_more : (first meter next : State) (answered : List (List ℕ)) (line text told : List ℕ) → AnswersLines AnswersLineOver first answered text meter → AnswersLineOver meter line told next
    → AnswersLines AnswersLineOver first (answered ++ line ∷ []) (text ++ told) next
answers_more first meter next [] line text told (none, same) turn =
    let last : AnswersLineOver first line told next = subst (λ (m : State). AnswersLineOver m line told next) same turn in
    (told, [], next, last, (refl, refl), ap (λ (t : List ℕ). t ++ told) none ∙ sym (append-nil told))
answers_more first meter next (l ∷ answered) line text told (front, back, middle, one, others, whole) turn =
    (front, back ++ told, middle, one, answers_more middle meter next answered line back told others turn, ap (λ (t : List ℕ). t ++ told) whole ∙ append_assoc front back told)

pub begins : (meter : State) (input : List ℕ) → SoFar meter input [] meter 1 input
begins meter input = record { answered = []; lines = refl; answers = (refl, refl); counted = refl }

pub goes_on : (first meter next : State) (input text line told rest after : List ℕ) (number : ℕ) → SoFar first input text meter number rest → lines_of rest ≡ line ∷ lines_of after
    → AnswersLineOver meter line told next → SoFar first input (text ++ told) next (number + 1) after
goes_on first meter next input text line told rest after number so_far cut turn = record {
  answered = so_far.answered ++ line ∷ [];
  lines = so_far.lines ∙ ap (λ (ls : List (List ℕ)). so_far.answered ++ ls) cut ∙ sym (append_assoc so_far.answered (line ∷ []) (lines_of after));
  answers = answers_more first meter next so_far.answered line text told so_far.answers turn;
  counted = omega (arith, so_far.counted, length-append so_far.answered (line ∷ []));
}

-- no line is left
pub ends : (first meter : State) (input text rest : List ℕ) (number : ℕ) → SoFar first input text meter number rest → lines_of rest ≡ [] → Session AnswersLineOver first input text None
ends first meter input text rest number so_far none = record {
  answered = so_far.answered;
  left = [];
  after = meter;
  lines = so_far.lines ∙ ap (λ (ls : List (List ℕ)). so_far.answered ++ ls) none;
  answers = so_far.answers;
  ends = refl;
}

-- a bad line is met
pub stops : (first meter : State) (input text line rest after : List ℕ) (number : ℕ) → SoFar first input text meter number rest → lines_of rest ≡ line ∷ lines_of after → IsErr (decode_of line)
    → Session AnswersLineOver first input text (Some number)
stops first meter input text line rest after number so_far cut bad = record {
  answered = so_far.answered;
  left = line ∷ lines_of after;
  after = meter;
  lines = so_far.lines ∙ ap (λ (ls : List (List ℕ)). so_far.answered ++ ls) cut;
  answers = so_far.answers;
  ends = (bad, ap Some so_far.counted);
}

-- a line that spells a datagram is met: then the first line spelled one
begun : (first meter : State) (input text line rest after : List ℕ) (answered : List (List ℕ)) → lines_of input ≡ answered ++ lines_of rest → AnswersLines AnswersLineOver first answered text meter → lines_of rest ≡ line ∷ lines_of after
    → IsOk (decode_of line) → BeginsWell input
begun first meter input text line rest after [] lines answers cut ok = (line, lines_of after, lines ∙ cut, ok)
begun first meter input text line rest after (l ∷ answered) lines (front, back, next, turn, more, told) cut ok = (l, answered ++ lines_of rest, lines, rw turn.spelled refl)

pub begins_well : (first meter : State) (input text line rest after : List ℕ) (number : ℕ) → SoFar first input text meter number rest → lines_of rest ≡ line ∷ lines_of after → IsOk (decode_of line) → BeginsWell input
begins_well first meter input text line rest after number so_far cut ok = begun first meter input text line rest after so_far.answered so_far.lines so_far.answers cut ok

-- what holds, also on an error
pub on_err : {A B : Type 0} (r : Result A B) (P : Type 0) → P → OnErr r P
on_err (Ok x) P h = tt
on_err (Err e) P h = h

-- what holds on success, said otherwise
pub on_ok : {A B : Type 0} (r : Result A B) (P Q : Type 0) → (P → Q) → OnOk r P → OnOk r Q
on_ok (Ok x) P Q told h = told h
on_ok (Err x) P Q told h = h

-- what holds where a test is passed, or if it isn't
pub on_true : (test : Bool) (P : Type 0) → OnTrue test P → test ≡ true → P
on_true true P holds passed = holds
on_true false P holds passed = cc passed

pub on_false : (test : Bool) (P : Type 0) → OnFalse test P → test ≡ false → P
on_false true P holds failed = cc failed
on_false false P holds failed = holds
