-- There is one answer to an input.
use Rattle.std.proofs.Common.{◌≡◌, ℕ, ◌+◌, List, [], ◌∷◌, ◌++◌, length, Option, Result, Ok, Err, refl, sym, ap, subst, ◌∙◌}
use Rattle.std.specs.Prelude.{IsErr}
use Rattle.hex.specs.declared.error.FromHexError.{FromHexError}
use Rattle.hex.specs.Hex.{decode_of}
use Rattle.fw_image.specs.Meter.{Meter}
use Rattle.fw_image.specs.Fresh.{fresh_meter}
use Rattle.fw_store.specs.declared.version.HeaderVersion.TheVariants.{Two}
use Rattle.fw_cli.specs.declared.answer.AnswerOptions.{AnswerOptions}
use Rattle.fw_cli.specs.Options.{Describes}
use Rattle.fw_cli.specs.Session.{AnswersLine, AnswersLines, EndsAt, line_for}
use Rattle.fw_meter.specs.Laws as meter_laws
use Rattle.fw_cli.specs.Laws.{OneAnswer}

-- the options describe one meter
one_meter : (options : AnswerOptions) (meter second : Meter) → Describes options meter → Describes options second → meter ≡ second
one_meter options meter second a b =
    let same : a.factory ≡ b.factory = cc (a.spelled, b.spelled) in
    a.fresh ∙ ap (fresh_meter Two options.block_size options.capacity) same ∙ sym b.fresh

-- what is spelled is no error
not_both : (r : Result (List ℕ) FromHexError) (bytes : List ℕ) → r ≡ Ok bytes → IsErr r → ⊥
not_both (Ok x) bytes e bad = cc
not_both (Err x) bytes e bad = cc

-- no line is both answered and bad
answered_is_not_bad : (old new : Meter) (line told : List ℕ) (lines left : List (List ℕ)) (number : ℕ) (bad_line : Option ℕ) → AnswersLine old line told new → left ≡ line ∷ lines
    → EndsAt number left bad_line → ⊥
answered_is_not_bad old new line told lines left number bad_line turn first ends =
    let bad = subst (λ (ls : List (List ℕ)). EndsAt number ls bad_line) first ends in
    not_both (decode_of line) turn.datagram turn.spelled bad.0

-- a line is answered in one way
one_turn : meter_laws.OneAnswer → (old new next : Meter) (line other told text : List ℕ) → AnswersLine old line told new → AnswersLine old other text next → line ≡ other
    → (told ≡ text) × (new ≡ next)
one_turn determined old new next line other told text a b same =
    let spelled : a.datagram ≡ b.datagram = cc (a.spelled, ap decode_of same, b.spelled) in
    let step = determined old new next b.datagram a.reply b.reply a.activated b.activated (rw spelled at a.step) b.step in
    (a.told ∙ ap line_for step.0 ∙ sym b.told, step.2)

-- the lines of one input are answered in one way, and as far
pub record Same (one two left rest : List (List ℕ)) (text other : List ℕ) : Type 0 where
  pub answered : one ≡ two
  pub same_left : left ≡ rest
  pub told : text ≡ other

one_run : meter_laws.OneAnswer → (one two left rest : List (List ℕ)) (old new next : Meter) (text other : List ℕ) (m n : ℕ) (bad_line another : Option ℕ)
    → AnswersLines AnswersLine old one text new → AnswersLines AnswersLine old two other next → EndsAt m left bad_line → EndsAt n rest another → one ++ left ≡ two ++ rest → Same one two left rest text other
one_run determined [] [] left rest old new next text other m n bad_line another a b e f whole = record { answered = refl; same_left = whole; told = a.0 ∙ sym b.0 }
one_run determined [] (k ∷ two) left rest old new next text other m n bad_line another a (first, back, middle, turn, more, told) e f whole =
    absurd (answered_is_not_bad old middle k first (two ++ rest) left m bad_line turn whole e)
one_run determined (l ∷ one) [] left rest old new next text other m n bad_line another (first, back, middle, turn, more, told) b e f whole =
    absurd (answered_is_not_bad old middle l first (one ++ left) rest n another turn (sym whole) f)
one_run determined (l ∷ one) (k ∷ two) left rest old new next text other m n bad_line another (first, back, middle, turn, more, told) (front, tail, center, move, others, said) e f whole =
    let head : l ≡ k = cc in
    let behind : one ++ left ≡ two ++ rest = cc in
    let one_line = one_turn determined old middle center l k first front turn move head in
    let rest_same = one_run determined one two left rest center new next back tail m n bad_line another (subst (λ (m : Meter). AnswersLines AnswersLine m one back new) one_line.1 more) others e f behind in
    record {
      answered = cc (head, rest_same.answered);
      same_left = rest_same.same_left;
      told = told ∙ cc (one_line.0, rest_same.told) ∙ sym said;
    }

-- and the bad line is one
one_end : (number : ℕ) (left : List (List ℕ)) (bad_line another : Option ℕ) → EndsAt number left bad_line → EndsAt number left another → bad_line ≡ another
one_end number [] bad_line another a b = a ∙ sym b
one_end number (line ∷ lines) bad_line another a b = a.1 ∙ sym b.1

pub one_answer : meter_laws.OneAnswer → OneAnswer
one_answer determined options meter second input text other bad_line another a s b t =
    let one = one_meter options meter second a b in
    let run = one_run determined s.answered t.answered s.left t.left second s.after t.after text other (length s.answered + 1) (length t.answered + 1) bad_line another
    (subst (λ (m : Meter). AnswersLines AnswersLine m s.answered text s.after) one s.answers) t.answers s.ends t.ends (sym s.lines ∙ t.lines) in
    let ends = subst (λ (ls : List (List ℕ)). EndsAt (length t.answered + 1) ls bad_line) run.same_left (subst (λ (ls : List (List ℕ)). EndsAt (length ls + 1) s.left bad_line) run.answered s.ends) in
    (run.told, one_end (length t.answered + 1) t.left bad_line another ends t.ends)
