use Rattle.std.proofs.Common.{rules, ◌≡◌, max, ℕ, List, Vec, sym, ◌∙◌, ap, subst}
use Rattle.std.specs.declared.alloc.Global.{Global}
use Rattle.fw_journal.specs.Book.{contents_of}
use Rattle.fw_counter.specs.Reserved.{AreReservations, reserved_by}
use Rattle.fw_counter.specs.declared.error.CounterError.TheVariants.{NoCounter}
use Rattle.fw_counter.proofs.Records.{bad_of, bad_reserves_none, unfit_reserves_none}
use Rattle.fw_counter.proofs.Telling.{tells, told_as}
use Rattle.fw_counter.proofs.gathering.told_in.Goals as goal

-- the bytes are no journal's
pub returns-in_err-records-clause-none : goal.returns-in_err-records-clause-none
returns-in_err-records-clause-none c = λ is.
    let error = told_as c.from_residual.result _ NoCounter c.from_residual.ensures.1 is in
    let bad = bad_of c.in_err-records.field-0.0 error in
    bad_reserves_none c.bad_is_none.ensures _ bad.0 (c.in_err-records.ensures.bad bad.0 (cc bad.1))

-- another record stands there
pub returns-in_default-clause-none : goal.returns-in_default-clause-none
returns-in_default-clause-none c = λ is.
    let here : c.deref.result.now ≡ c.in_ok-records.records.items = search rules in
    unfit_reserves_none c.one_reading.ensures _ (contents_of c.in_ok-records.records.items) c.in_ok-records.ensures.records
    (λ fit. c.in_default.ensures.none (subst (λ (l : List (Vec ℕ Global)). AreReservations (contents_of l)) (sym here) fit))

pub returns-clause-told : goal.returns-clause-told
returns-clause-told c =
    let here : c.deref.result.now ≡ c.in_ok-records.records.items = search rules in
    let fit = subst (λ (l : List (Vec ℕ Global)). AreReservations (contents_of l)) here c.in-Some.ensures.fit in
    let found = c.in-Some.ensures.found ∙ ap (λ (l : List (Vec ℕ Global)). reserved_by (contents_of l)) here in
    let both : c.max.result ≡ max c.in-Some.reserved c.told_behind.result = search rules in
    tells c.args.bytes.now c.split_at.result.1.now (contents_of c.in_ok-records.records.items) c.in_ok-records.end c.in-Some.reserved c.told_behind.result c.max.result c.in_ok-records.ensures.records fit c.in_ok-records.ensures.end
    c.split_at.ensures.back found c.told_behind.ensures both
