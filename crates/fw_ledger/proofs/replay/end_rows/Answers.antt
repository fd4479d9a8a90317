use Rattle.std.proofs.Common.{◌-◌, ℕ, length, sym, ap, subst, ◌∙◌}
use Rattle.fw_book.specs.Contents.{Contents, offered_in}
use Rattle.fw_ledger.specs.Replay.{MakesNumbered, MakesEnded}
use Rattle.fw_ledger.proofs.Endings.{some_none, same_some, ended_long, ends_begin, meter_in, ends_next, any_err}
use Rattle.fw_ledger.proofs.replay.end_rows.Goals as goal

pub returns-then-not-has_rows-clause-refused : goal.returns-then-not-has_rows-clause-refused
returns-then-not-has_rows-clause-refused c = λ next makes.
    let long = ended_long c.args.book.now c.args.campaign c.args.numbers.now next makes in
    c.if-not-has_rows.ensures long.0 (ap (λ (b : Contents). offered_in b c.args.campaign) c.book.ensures ∙ long.1) long.2

pub loop-number-init : goal.loop-number-init
loop-number-init c =
    let has = c.if-not-has_rows.ensures in
    ends_begin c.args.book.now c.args.campaign c.args.numbers.now has.0 (ap (λ (b : Contents). offered_in b c.args.campaign) (sym c.book.ensures) ∙ has.1) has.2

pub returns-in_default-meter_at-clause-refused : goal.returns-in_default-meter_at-clause-refused
returns-in_default-meter_at-clause-refused c =
    let numbers = c.args.numbers.now in
    let rest = c.loop-number.rest.now in
    let next = ends_next c.args.book.now c.args.campaign numbers c.loop-number.book rest c.in-Some.number.now c.in-Some.others.now c.loop-number.invariant c.in-Some.ensures.cases.0 in
    let here = c.meter_at.ensures ∙ ap (λ (b : Contents). meter_in b c.args.campaign (length numbers - length rest)) c.book-in-Some.ensures ∙ next.is_meter in
    absurd (some_none next.meter (sym c.in_default-meter_at.is ∙ here))

pub returns-in_err-renumber-clause-refused : goal.returns-in_err-renumber-clause-refused
returns-in_err-renumber-clause-refused c =
    let numbers = c.args.numbers.now in
    let rest = c.loop-number.rest.now in
    let number = c.in-Some.number.now in
    let meter = c.in-Some-meter_at.meter in
    let next = ends_next c.args.book.now c.args.campaign numbers c.loop-number.book rest number c.in-Some.others.now c.loop-number.invariant c.in-Some.ensures.cases.0 in
    let here = c.meter_at.ensures ∙ ap (λ (b : Contents). meter_in b c.args.campaign (length numbers - length rest)) c.book-in-Some.ensures ∙ next.is_meter in
    let same = same_some meter next.meter (sym c.in-Some-meter_at.is ∙ here) in
    any_err c.from_residual.result ((next : Contents) → ¬ MakesEnded c.args.book.now c.args.campaign numbers next)
    (next.stops (subst (λ (m : ℕ). (next : Contents) → ¬ MakesNumbered c.loop-number.book c.args.campaign m number next) same c.in_err-renumber.ensures.refused))

pub loop-number-preserved : goal.loop-number-preserved
loop-number-preserved c =
    let numbers = c.args.numbers.now in
    let rest = c.loop-number.rest.now in
    let number = c.in-Some.number.now in
    let meter = c.in-Some-meter_at.meter in
    let next = ends_next c.args.book.now c.args.campaign numbers c.loop-number.book rest number c.in-Some.others.now c.loop-number.invariant c.in-Some.ensures.cases.0 in
    let here = c.meter_at.ensures ∙ ap (λ (b : Contents). meter_in b c.args.campaign (length numbers - length rest)) c.book-in-Some.ensures ∙ next.is_meter in
    let same = same_some meter next.meter (sym c.in-Some-meter_at.is ∙ here) in
    next.goes c.renumber.new.book (subst (λ (m : ℕ). MakesNumbered c.loop-number.book c.args.campaign m number c.renumber.new.book) same c.in_ok-renumber.ensures.made)
