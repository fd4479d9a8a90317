use Rattle.std.proofs.Common.{◌≡◌, ◌∷◌, ◌∙◌, List, ℕ, IsTrue, rules, refl, sym, ap, subst}
use Rattle.std.specs.Prelude.{slice_get}
use Rattle.fw_port.specs.Acts.{sent}
use Rattle.fw_survey.specs.History.{Act, IsRead, KnowsAll}
use Rattle.fw_survey.specs.Questions.{question_bytes}
use Rattle.fw_survey.specs.Survey.{addresses_of, rows_of}
use Rattle.fw_survey.specs.Rows.{Row}
use Rattle.fw_survey.proofs.Rounds.{reads_sent}
use Rattle.fw_survey.proofs.Surveys.{asked_all, due_row, is_read}
use Rattle.fw_survey.proofs.serving.ask.Goals as goal

-- what is sent asks the question that is due
pub send-requires : goal.send-requires
send-requires g c = λ honest.
    let due = c.in-Some.due in
    let rows = rows_of c.args.survey.now in
    let row = due_row c.args.survey.now.timing c.args.survey.now.out (slice_get rows c.args.place) due (sym c.in-Some.ensures.due) in
    let begins = c.requires.begins honest in
    let bytes : c.deref.result.now ≡ question_bytes due.question = c.deref.ensures.value ∙ c.in_ok-question.ensures in
    begins.may (sent due.to c.deref.result.now ∷ g.P.Port.acts c.args.port.now)
    (subst (λ (b : List ℕ). IsRead (addresses_of rows) due.to b) (sym bytes) (is_read rows c.args.place row.0 due row.1 row.2), begins.reads)

pub returns-clause-surveys : goal.returns-clause-surveys
returns-clause-surveys g c =
    let due = c.in-Some.due in
    let rows = rows_of c.args.survey.now in
    let row = due_row c.args.survey.now.timing c.args.survey.now.out (slice_get rows c.args.place) due (sym c.in-Some.ensures.due) in
    let bytes : c.deref.result.now ≡ question_bytes due.question = c.deref.ensures.value ∙ c.in_ok-question.ensures in
    let is : IsTrue (g.P.Port.honest c.args.port.now) → g.P.Port.acts c.send.new.self ≡ sent due.to (question_bytes due.question) ∷ g.P.Port.acts c.args.port.now =
    λ honest. c.send.ensures.sent honest ∙ ap (λ (b : List ℕ). sent due.to b ∷ g.P.Port.acts c.args.port.now) bytes in
    record {
      reads = λ honest reads. reads_sent (addresses_of rows) due.to (question_bytes due.question) _ _ (is honest) (is_read rows c.args.place row.0 due row.1 row.2) reads;
      knows = λ honest known.
          subst (λ (acts : List Act). KnowsAll acts (rows_of c.ask.new.self)) (sym (is honest))
          (asked_all _ c.args.now c.args.place due row.0 rows (rows_of c.ask.new.self) c.requires.survey.apart row.1 row.2 c.in-Some.ensures.asked known);
      meters = c.ask.ensures.meters;
      honesty = c.send.ensures.honesty;
      law = c.send.ensures.law;
    }

pub returns-in_default-clause-surveys : goal.returns-in_default-clause-surveys
returns-in_default-clause-surveys g c =
    let same = rw c.in_default.is at c.ask.ensures.asked in
    record {
      reads = λ honest reads. reads;
      knows = λ honest known. subst (λ (rows : List Row). KnowsAll (g.P.Port.acts c.args.port.now) rows) (sym same) known;
      meters = c.ask.ensures.meters;
      honesty = refl;
      law = λ done legal. legal;
    }

pub returns-in_err-question-clause-surveys : goal.returns-in_err-question-clause-surveys
returns-in_err-question-clause-surveys g c = record {
  reads = λ honest reads. reads;
  knows = λ honest known. search rules;
  meters = c.ask.ensures.meters;
  honesty = refl;
  law = λ done legal. legal;
}
