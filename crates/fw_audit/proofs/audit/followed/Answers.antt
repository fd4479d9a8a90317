use Rattle.std.proofs.Common.{◌≡◌, ◌+◌, List, Err, take, slice_range, refl, sym, subst, ◌∙◌, arith}
use Rattle.std.proofs.lemmas.List.{take_all}
use Rattle.fw_image.specs.Meter.{reopened}
use Rattle.fw_audit.specs.Log.{Item, log_of}
use Rattle.fw_audit.specs.Stands.{ended}
use Rattle.fw_audit.specs.Departures.{IsDeparture}
use Rattle.fw_audit.specs.declared.error.Departure.{Departure}
use Rattle.fw_audit.specs.Private.{Adds, AllDepart, AreAllLeft, IsAllOutlived}
use Rattle.fw_audit.specs.declared.life.Stop.{Stop}
use Rattle.fw_audit.specs.declared.life.Left.{Left}
use Rattle.fw_audit.proofs.Audits.{begins, departs_in, life_of, lived_on, not_started}
use Rattle.fw_audit.proofs.Items.{log_size, part_goes}
use Rattle.fw_audit.proofs.Lives.{inside}
use Rattle.fw_audit.proofs.audit.followed.Goals as goal

pub returns-then-not-starts : goal.returns-then-not-starts
returns-then-not-starts c =
    let first = c.starts.ensures.other c.if-not-starts.true in
    not_started c.args.heads.now (reopened c.args.begin.meter) (log_of c.args.items.now) first.0 first.1 first.2

pub loop-at-init : goal.loop-at-init
loop-at-init c =
    let left = c.new-begins.result in (
      begins c.args.heads.now (reopened c.args.begin.meter) left c.in-Ok.lefts.items c.new-begins.ensures.meter (c.new-begins.ensures.images ∙ c.new.ensures.items) c.new-begins.ensures.rests
          (subst (λ (l : List Left). Adds l left c.in-Ok.lefts.items) c.new-2.ensures.items c.in-Ok.ensures),
      omega arith,
      c.starts.ensures.start c.if-not-starts.false,
    )

pub all_outlived-requires-clause-some : goal.all_outlived-requires-clause-some
all_outlived-requires-clause-some c = c.loop-at.invariant.0.some

pub all_outlived-requires-clause-rests : goal.all_outlived-requires-clause-rests
all_outlived-requires-clause-rests c k d inside = (c.loop-at.invariant.0.each k d inside).rests

pub all_outlived-requires-clause-going : goal.all_outlived-requires-clause-going
all_outlived-requires-clause-going c =
    part_goes c.args.items.now (c.loop-at.at + 1) c.next_start-end.result c.next_start-end.ensures.none c.next_start-end.ensures.within

pub loop-at-preserved : goal.loop-at-preserved
loop-at-preserved c =
    let items = c.args.items.now in
    let at = c.loop-at.at in
    let end = c.next_start-end.result in
    let before = c.loop-at.invariant in
    let there = before.2 (omega (arith, log_size items, c.loop-at-test.true)) in
    let life = life_of items at end c.next_start-end.ensures.later there in
    let body = log_of (slice_range items (at + 1) end) in (
      subst (λ (l : List Item). AreAllLeft c.args.heads.now (reopened c.args.begin.meter) l c.in-Ok-all_outlived.next.items) (sym life)
          (lived_on c.args.heads.now (reopened c.args.begin.meter) (take at (log_of items)) body c.loop-at.lefts.items c.in-Ok-all_outlived.next.items before.0 c.in-Ok-all_outlived.ensures),
      c.next_start-end.ensures.within,
      c.next_start-end.ensures.start,
    )

pub returns : goal.returns
returns c =
    let items = c.args.items.now in
    let at = c.loop-at.at in
    let whole : take at (log_of items) ≡ log_of items = take_all at (log_of items) (omega (arith, log_size items, c.loop-at-test.false)) in
    subst (λ (l : List Item). AreAllLeft c.args.heads.now (reopened c.args.begin.meter) l c.loop-at.lefts.items) whole c.loop-at.invariant.0

pub returns-in-Err-Departs : goal.returns-in-Err-Departs
returns-in-Err-Departs c =
    let items = c.args.items.now in
    let at = c.loop-at.at in
    let end = c.next_start-end.result in
    let before = c.loop-at.invariant in
    let there = before.2 (omega (arith, log_size items, c.loop-at-test.true)) in
    let body = log_of (slice_range items (at + 1) end) in
    let departs : AllDepart c.args.heads.now c.loop-at.lefts.items body c.in-Err-Departs.departure =
    subst (λ (s : Stop). IsAllOutlived c.args.heads.now c.loop-at.lefts.items body (Err s)) c.in-Err-Departs.field-0-is c.in-Err-Departs.ensures in
    subst (λ (d : Departure). IsDeparture c.args.heads.now (ended (reopened c.args.begin.meter)) (log_of items) (record { at = at + 1 + d.at; rule = d.rule })) (sym c.in-Err-Departs.departure-is)
    (departs_in c.args.heads.now (reopened c.args.begin.meter) (log_of items) body at end c.loop-at.lefts.items c.in-Err-Departs.departure _
    (omega (arith, log_size items, before.1)) before.0 departs (life_of items at end c.next_start-end.ensures.later there) refl refl)
