use Rattle.std.proofs.Common.{◌≡◌, ◌∙◌, None, true, false, length, arith, rules, refl, sym}
use Rattle.std.proofs.lemmas.Bool.{ltb-true}
use Rattle.std.proofs.lemmas.Option.{slice_get_read}
use Rattle.fw_survey.specs.Rows.{Row, asked_at, inquiry_of, with_inquiry}
use Rattle.fw_survey.specs.Survey.{most_out, rows_of}
use Rattle.fw_survey.proofs.Surveys.{changes_at, due_asked, due_full, due_to, keeps_meters, kept_row, none_out, one_out}
use Rattle.fw_survey.proofs.survey.Survey.ask.Goals as goal

pub overflow_add-self : goal.overflow_add-self
overflow_add-self c =
    let on : c.has_room.result ≡ true = search rules in
    omega (arith, c.has_room.ensures.countable on)

pub returns-then-not-has_room-clause-due : goal.returns-then-not-has_room-clause-due
returns-then-not-has_room-clause-due c =
    let off : c.has_room.result ≡ false = search rules in
    due_full c.args.self.now.timing c.args.self.now.out _ (sym c.has_room.ensures.room ∙ off)

-- a question is asked

pub returns-in-Some-ask-clause-due : goal.returns-in-Some-ask-clause-due
returns-in-Some-ask-clause-due c =
    let row = c.in-Some.row.now in
    let rows = rows_of c.args.self.now in
    let was = slice_get_read rows (length rows) c.args.place row refl c.in-Some.ensures.item.3.0 c.in-Some.ensures.value in
    let on : c.has_room.result ≡ true = search rules in
    due_to c.args.self.now.timing c.args.self.now.out _ row c.in-Some-ask.question c.address-to.result c.address-to.ensures was (sym c.has_room.ensures.room ∙ on)
    (sym c.in-Some-ask.is ∙ c.ask.ensures.question)

pub returns-in-Some-ask-clause-asked : goal.returns-in-Some-ask-clause-asked
returns-in-Some-ask-clause-asked c =
    let row = c.in-Some.row.now in
    let rows = rows_of c.args.self.now in
    let was = slice_get_read rows (length rows) c.args.place row refl c.in-Some.ensures.item.3.0 c.in-Some.ensures.value in
    let q = c.in-Some-ask.question in
    changes_at c.args.place (λ (r : Row). with_inquiry r q (asked_at c.args.now (inquiry_of r q))) rows _ row c.ask.new.self was c.in-Some-ask.ensures.asked refl

pub returns-in-Some-ask-clause-meters : goal.returns-in-Some-ask-clause-meters
returns-in-Some-ask-clause-meters c =
    let row = c.in-Some.row.now in
    let rows = rows_of c.args.self.now in
    let was = slice_get_read rows (length rows) c.args.place row refl c.in-Some.ensures.item.3.0 c.in-Some.ensures.value in
    keeps_meters rows c.args.place row c.ask.new.self was c.ask.ensures.same

pub returns-in-Some-ask-clause-survey : goal.returns-in-Some-ask-clause-survey
returns-in-Some-ask-clause-survey c = λ s.
    let row = c.in-Some.row.now in
    let rows = rows_of c.args.self.now in
    let was = slice_get_read rows (length rows) c.args.place row refl c.in-Some.ensures.item.3.0 c.in-Some.ensures.value in
    let on : c.has_room.result ≡ true = search rules in
    one_out c.args.self.now _ c.args.place row c.ask.new.self s was refl c.ask.ensures.same refl refl c.in-Some-ask.ensures.count refl
    (ltb-true c.args.self.now.out (most_out c.args.self.now.timing.flight) (sym c.has_room.ensures.room ∙ on))

-- none is

pub returns-in-None-clause-due : goal.returns-in-None-clause-due
returns-in-None-clause-due c =
    let row = c.in-Some.row.now in
    let rows = rows_of c.args.self.now in
    let was = slice_get_read rows (length rows) c.args.place row refl c.in-Some.ensures.item.3.0 c.in-Some.ensures.value in
    let on : c.has_room.result ≡ true = search rules in
    due_asked c.args.self.now.timing c.args.self.now.out _ row None was (sym c.has_room.ensures.room ∙ on) (sym c.in-None.is ∙ c.ask.ensures.question)

pub returns-in-None-clause-asked : goal.returns-in-None-clause-asked
returns-in-None-clause-asked c =
    let row = c.in-Some.row.now in
    let rows = rows_of c.args.self.now in
    let was = slice_get_read rows (length rows) c.args.place row refl c.in-Some.ensures.item.3.0 c.in-Some.ensures.value in
    kept_row rows c.args.place row c.ask.new.self was c.in-None.ensures.asked

pub returns-in-None-clause-meters : goal.returns-in-None-clause-meters
returns-in-None-clause-meters c =
    let row = c.in-Some.row.now in
    let rows = rows_of c.args.self.now in
    let was = slice_get_read rows (length rows) c.args.place row refl c.in-Some.ensures.item.3.0 c.in-Some.ensures.value in
    keeps_meters rows c.args.place row c.ask.new.self was c.ask.ensures.same

pub returns-in-None-clause-survey : goal.returns-in-None-clause-survey
returns-in-None-clause-survey c = λ s.
    let row = c.in-Some.row.now in
    let rows = rows_of c.args.self.now in
    let was = slice_get_read rows (length rows) c.args.place row refl c.in-Some.ensures.item.3.0 c.in-Some.ensures.value in
    none_out c.args.self.now _ c.args.place row c.ask.new.self s was refl c.ask.ensures.same refl refl c.in-None.ensures.count refl
