use Rattle.std.proofs.Common.{rules, ◌≡◌, ◌≤◌, ◌+◌, ◌++◌, List, length, map, ap, arith, sym, subst, ◌∙◌}
use Rattle.std.proofs.lemmas.List.Sorted.{length_permutation}
use Rattle.fw_air.specs.Events.{Receipt}
use Rattle.fw_world.specs.Runs.{events_of}
use Rattle.fw_world.specs.Step.{Event}
use Rattle.fw_accounts.specs.Accounts.{IsRecordOf, all_of}
use Rattle.fw_accounts.proofs.Recorded.{event_in, record_is}
use Rattle.fw_accounts.proofs.record.recorded_events.Goals as goal

pub returns-in_err-push_events-clause-memory : goal.returns-in_err-push_events-clause-memory
returns-in_err-push_events-clause-memory c =
    let all = all_of c.args.receipts.now in
    let some : 1 ≤ length all =
    omega (arith, c.in_err-push_events.ensures.memory, ap length c.deref.ensures.value, length_permutation all _ c.in_ok-made.ensures.same) in
    search rules

pub returns-clause-record : goal.returns-clause-record
returns-clause-record c =
    let given = events_of c.args.given.now in
    let whole : events_of c.push_events.new.events.items ≡ given ++ map event_in c.in_ok-made.made.items =
    c.in_ok-push_events.ensures.pushed
    ∙ ap (λ (l : List Event). l ++ map event_in c.deref.result.now) c.in_ok-events.ensures.copies
    ∙ ap (λ (l : List Receipt). given ++ map event_in l) c.deref.ensures.value in
    subst (IsRecordOf given c.args.receipts.now) (sym whole)
    (record_is given c.args.receipts.now c.in_ok-made.made.items c.in_ok-made.ensures.same c.in_ok-made.ensures.in_order)
