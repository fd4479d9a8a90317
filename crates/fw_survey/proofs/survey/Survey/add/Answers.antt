use Rattle.std.proofs.Common.{◌≡◌, ◌∙◌, length, refl, sym}
use Rattle.std.proofs.lemmas.List.{length-map}
use Rattle.fw_survey.specs.Survey.{addresses_of, rows_of}
use Rattle.fw_survey.specs.Rows.{Row}
use Rattle.fw_survey.proofs.Placing.{placed}
use Rattle.fw_survey.proofs.Surveys.{added, is_new, is_there}
use Rattle.fw_survey.proofs.survey.Survey.add.Goals as goal

pub returns-then-is_some-clause-added : goal.returns-then-is_some-clause-added
returns-then-is_some-clause-added c = λ s.
    (refl, is_there (rows_of c.args.self.now) c.args.address c.place_of.result (sym c.is_some.ensures ∙ c.if-is_some.true) (c.place_of.ensures.found s))

pub returns-clause-added : goal.returns-clause-added
returns-clause-added c = λ s. c.in_ok-push_new.ensures

pub returns-clause-survey : goal.returns-clause-survey
returns-clause-survey c = λ s.
    let old = c.args.self.now in
    let rows = rows_of old in
    let none = is_new rows c.args.address c.place_of.result (sym c.is_some.ensures ∙ c.if-is_some.false) (c.place_of.ensures.none s) in
    let place : c.len-place.result ≡ length (addresses_of rows) = c.len-place.ensures ∙ old.rows.ok.0 ∙ sym (length-map rows (λ (r : Row). r.address)) in
    added old _ c.args.meter c.args.address s none c.in_ok-push_new.ensures
    (placed old.places.entries c.insert.new.self.entries (addresses_of rows) c.args.address c.len-place.result c.in_ok-insert.field-0 s.addressed none place
    c.in_ok-insert.ensures.old c.in_ok-insert.ensures.entries)
    refl refl
