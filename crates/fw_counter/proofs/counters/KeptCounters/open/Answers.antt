use Rattle.std.proofs.Common.{rules, Err, ◌≡◌, Bool, IsTrue, ℕ, List, Vec, refl, sym, ◌∙◌, ap, subst}
use Rattle.std.specs.declared.alloc.Global.{Global}
use Rattle.fw_journal.specs.Book.{contents_of}
use Rattle.fw_counter.specs.Reserved.{AreReservations, reserved_by}
use Rattle.fw_counter.specs.declared.error.OpeningError.{OpeningError}
use Rattle.fw_counter.proofs.Records.{bad_of}
use Rattle.fw_counter.proofs.Telling.{told_more, opened_told, gathered_then_opened, gathered_is_good, gathered_is_fit, same_error}
use Rattle.fw_counter.proofs.counters.KeptCounters.open.Goals as goal

pub returns-in-Err-clause-none : goal.returns-in-Err-clause-none
returns-in-Err-clause-none g c = λ honest is. c.in-Err.ensures.none honest (ap (λ (e : OpeningError). Err e) is)

pub returns-in-Some-clause-reserved : goal.returns-in-Some-clause-reserved
returns-in-Some-clause-reserved g c = λ honest.
    let D = g.D.JournalDevice in
    let there : IsTrue (D.honest c.gather.new.device) = subst (λ (b : Bool). IsTrue b) (sym c.gather.ensures.kept.honesty) honest in
    let here : c.deref.result.now ≡ c.in-Ok.records.items = search rules in
    let found = c.in-Some.ensures.found ∙ ap (λ (l : List (Vec ℕ Global)). reserved_by (contents_of l)) here in
    opened_told c.one_reading.ensures (D.contents c.args.device) (D.contents c.gather.new.device) (contents_of c.in-Ok.records.items) c.in-Some.reserved (c.in_default.ensures.gathered honest) (c.in-Ok.ensures.records there) found

pub returns-in-Some-clause-goes : goal.returns-in-Some-clause-goes
returns-in-Some-clause-goes g c = λ honest used before has.
    let D = g.D.JournalDevice in
    let there : IsTrue (D.honest c.gather.new.device) = subst (λ (b : Bool). IsTrue b) (sym c.gather.ensures.kept.honesty) honest in
    let here : c.deref.result.now ≡ c.in-Ok.records.items = search rules in
    let found = c.in-Some.ensures.found ∙ ap (λ (l : List (Vec ℕ Global)). reserved_by (contents_of l)) here in
    let told = opened_told c.one_reading.ensures (D.contents c.args.device) (D.contents c.gather.new.device) (contents_of c.in-Ok.records.items) c.in-Some.reserved (c.in_default.ensures.gathered honest) (c.in-Ok.ensures.records there) found in
    (told_more c.one_reading.ensures (D.contents c.args.device) before.reserved c.in-Some.reserved told has, refl, refl)

pub returns-in-Some-clause-any_moment : goal.returns-in-Some-clause-any_moment
returns-in-Some-clause-any_moment g c = λ honest.
    let J = g.D.JournalDevice in
    let there : IsTrue (J.honest c.gather.new.device) = subst (λ (b : Bool). IsTrue b) (sym c.gather.ensures.kept.honesty) honest in
    gathered_then_opened J g.met.D.JournalDevice.counts_now c.args.device c.gather.new.device c.in-Ok.journal.device (c.in_default.ensures.gathered honest) (c.gather.ensures.any_moment honest) (c.in-Ok.ensures.any_moment there)

-- what was gathered is a journal of reservations
pub returns-in-Ok-clause-none : goal.returns-in-Ok-clause-none
returns-in-Ok-clause-none g c = λ honest is.
    let D = g.D.JournalDevice in
    let there : IsTrue (D.honest c.gather.new.device) = subst (λ (b : Bool). IsTrue b) (sym c.gather.ensures.kept.honesty) honest in
    let here : c.deref.result.now ≡ c.in-Ok.records.items = search rules in
    let fit = gathered_is_fit c.one_reading.ensures (D.contents c.args.device) (D.contents c.gather.new.device) (contents_of c.in-Ok.records.items) (c.in_default.ensures.gathered honest) (c.in-Ok.ensures.records there) in
    absurd (c.in-None.ensures.none (subst (λ (l : List (Vec ℕ Global)). AreReservations (contents_of l)) (sym here) fit))

pub returns-clause-none : goal.returns-clause-none
returns-clause-none g c = λ honest is.
    let D = g.D.JournalDevice in
    let there : IsTrue (D.honest c.gather.new.device) = subst (λ (b : Bool). IsTrue b) (sym c.gather.ensures.kept.honesty) honest in
    let error = same_error _ _ (sym c.from-in-Err-open-2.ensures ∙ is) in
    let bad = bad_of c.in-Err-open.refusal (sym c.from-in-Err-open.ensures ∙ error) in
    absurd
    (gathered_is_good c.bad_is_none.ensures (D.contents c.args.device) (D.contents c.gather.new.device) bad.0 (c.in_default.ensures.gathered honest) (c.in-Err-open.ensures.bad there bad.0 bad.1).0)

pub returns-clause-any_moment_err : goal.returns-clause-any_moment_err
returns-clause-any_moment_err g c = λ honest.
    let J = g.D.JournalDevice in
    let there : IsTrue (J.honest c.gather.new.device) = subst (λ (b : Bool). IsTrue b) (sym c.gather.ensures.kept.honesty) honest in
    gathered_then_opened J g.met.D.JournalDevice.counts_now c.args.device c.gather.new.device c.in-Err-open.device (c.in_default.ensures.gathered honest) (c.gather.ensures.any_moment honest) (c.in-Err-open.ensures.any_moment_err there)
