-- A trace as far as it has come, one datagram after another.
use Rattle.std.proofs.Common.{◌≡◌, ℕ, zero, suc, ◌+◌, ◌<◌, length, slice_index_or, arith, Option, List, [], ◌∷◌, ◌++◌, drop, refl, sym, ap, subst, ◌∙◌, append_assoc, append-nil}
use Rattle.fw_world.specs.World.{Datagram}
use Rattle.fw_report.specs.declared.message.Message.{Message}
use Rattle.fw_report.specs.Message.{Says}
use Rattle.fw_report.specs.declared.trace.Note.{Note}
use Rattle.fw_report.specs.Trace.{TracesFrom, line_of, note_of}
use Rattle.fw_report.specs.declared.course.Course.{Course}
use Rattle.fw_report.specs.declared.reason.Reason.{Reason}
use Rattle.fw_report.specs.Course.{course_of}
use Rattle.fw_report.specs.Reason.{reason_at}

-- The text went on by some lines. What the datagrams from this number on are traced by goes on with these.
pub record SoFar (notes : ℕ → Note) (sent : List Datagram) (number : ℕ) (first text : List ℕ) : Type 0 where
  pub told : List ℕ
  pub written : text ≡ first ++ told
  pub goes_on : (later : List ℕ) → TracesFrom notes number (drop number sent) later → TracesFrom notes 0 sent (told ++ later)

pub begins : (notes : ℕ → Note) (sent : List Datagram) (text : List ℕ) → SoFar notes sent 0 text text
begins notes sent text = record { told = []; written = sym (append-nil text); goes_on = λ later h. h }

pub goes_on : (notes : ℕ → Note) (sent : List Datagram) (number : ℕ) (d : Datagram) (s : Message) (first text next : List ℕ) → SoFar notes sent number first text
    → drop number sent ≡ d ∷ drop (number + 1) sent → Says d.direction d.bytes s → next ≡ text ++ line_of number d s (notes number)
    → SoFar notes sent (number + 1) first next
goes_on notes sent number d s first text next so_far cut says more = record {
  told = so_far.told ++ line_of number d s (notes number);
  written = more ∙ ap (λ (t : List ℕ). t ++ line_of number d s (notes number)) so_far.written ∙ append_assoc first so_far.told (line_of number d s (notes number));
  goes_on = λ later h.
      let P : List Datagram → Type 0 = λ ds. TracesFrom notes number ds (line_of number d s (notes number) ++ later) in
      let Q : List ℕ → Type 0 = λ t. TracesFrom notes 0 sent t in
      subst Q (sym (append_assoc so_far.told (line_of number d s (notes number)) later))
      (so_far.goes_on (line_of number d s (notes number) ++ later) (subst P (sym cut) (s, later, says, h, refl)));
}

-- no datagram is left
pub ends : (notes : ℕ → Note) (sent : List Datagram) (number : ℕ) (first text : List ℕ) → SoFar notes sent number first text → drop number sent ≡ []
    → (trace : List ℕ) × TracesFrom notes 0 sent trace × (text ≡ first ++ trace)
ends notes sent number first text so_far none =
    let P : List Datagram → Type 0 = λ ds. TracesFrom notes number ds [] in
    let Q : List ℕ → Type 0 = λ t. TracesFrom notes 0 sent t in
    (so_far.told, subst Q (append-nil so_far.told) (so_far.goes_on [] (subst P (sym none) refl)), so_far.written)

-- ---- what is known of a datagram

-- an element that is there is the same whatever stands for one that isn't
other_default : {A : Type 0} → (xs : List A) (at : ℕ) (a b : A) → at < length xs → slice_index_or xs at a ≡ slice_index_or xs at b
other_default [] at a b inside = absurd (omega arith)
other_default (x ∷ xs) zero a b inside = refl
other_default (x ∷ xs) (suc at) a b inside = other_default xs at a b (omega arith)

pub note_is : (courses : List Course) (reasons : List (Option Reason)) (number : ℕ) (note : Note) (other : Course) → number < length courses → note.reason ≡ reason_at reasons number
    → note.course ≡ slice_index_or courses number other → note ≡ note_of courses reasons number
note_is courses reasons number note other inside reason course =
    let there : note.course ≡ slice_index_or courses number (course_of number []) = course ∙ other_default courses number other (course_of number []) inside in
    ap (λ (r : Option Reason). record { reason = r; course = note.course }) reason
    ∙ ap (λ (c : Course). record { reason = reason_at reasons number; course = c }) there
