use Rattle.std.proofs.Common.{inl, inr, IsTrue, false, List, length, ◌-◌, drop, take, map, refl, sym, subst}
use Rattle.std.specs.List.Sorted.{IsPermutation}
use Rattle.fw_air.specs.Links.{link_of}
use Rattle.fw_air.specs.Logs.{Entry}
use Rattle.fw_air.specs.Rounds.{Link}
use Rattle.fw_world.specs.declared.event.Event.{Event as Given}
use Rattle.fw_world.specs.Runs.{events_of}
use Rattle.fw_world.specs.Setup.{opening_state}
use Rattle.fw_world.specs.State.{StateRun}
use Rattle.fw_world.specs.Step.{Event}
use Rattle.fw_accounts.specs.Accounts.{AreDealt, AreNumbered, IsAccounted, all_of, numbered}
use Rattle.fw_accounts.specs.Refusals.{AreOfWorkers}
use Rattle.fw_accounts.proofs.Accounting.{each_once, numbered_are}
use Rattle.fw_accounts.proofs.accounts.account.Goals as goal

pub returns-then-not-branch-clause-mismatch : goal.returns-then-not-branch-clause-mismatch
returns-then-not-branch-clause-mismatch c = λ _. inr (inl (λ are.
    let given = c.args.given.now in
    let events = c.in_ok-events.events.items in
    let receipts = c.args.left.receipts.items in
    let of_record : AreNumbered (events_of given) (events_of events) receipts =
    subst (λ (es : List Event). AreNumbered (events_of given) es receipts) (sym c.in_ok-events.ensures.events) are in
    let once : IsPermutation (all_of receipts) (numbered (length given) (events_of (take (length events - length given) (drop (length given) events)))) =
    each_once given events receipts of_record in
    let yes = c.in_ok-are_numbered.ensures.numbered.1 (rw (c.deref-3.ensures.value, c.deref-2.ensures.value) once) in
    absurd cc))

pub returns-then-not-are_dealt-clause-mismatch : goal.returns-then-not-are_dealt-clause-mismatch
returns-then-not-are_dealt-clause-mismatch c = λ _.
    let receipts = c.args.left.receipts.items in
    let run : StateRun (opening_state c.args.setup.now) (events_of c.in_ok-events.events.items) c.in_ok-world.world =
    subst (λ (es : List Given). StateRun (opening_state c.args.setup.now) (events_of es) c.in_ok-world.world) c.deref-4.ensures.value c.in_ok-world.ensures.runs in
    inr (inr (inr (inr (record {
      world = c.in_ok-world.world;
      run = subst (λ (es : List Event). StateRun (opening_state c.args.setup.now) es c.in_ok-world.world) c.in_ok-events.ensures.events run;
      other = inl (λ dealt.
          let on_links : AreDealt (map link_of c.in_ok-links.links.items) c.args.rounds c.args.workers receipts =
          subst (λ (ls : List Link). AreDealt ls c.args.rounds c.args.workers receipts) (sym c.in_ok-links.ensures.all) dealt in
          let yes : IsTrue false = c.if-not-are_dealt.ensures.1 (rw (c.deref-9.ensures.value, c.deref-8.ensures.value) on_links) in
          absurd cc);
    }))))

pub returns-then-not-is_count-clause-mismatch : goal.returns-then-not-is_count-clause-mismatch
returns-then-not-is_count-clause-mismatch c = λ _.
    let run : StateRun (opening_state c.args.setup.now) (events_of c.in_ok-events.events.items) c.in_ok-world.world =
    subst (λ (es : List Given). StateRun (opening_state c.args.setup.now) (events_of es) c.in_ok-world.world) c.deref-4.ensures.value c.in_ok-world.ensures.runs in
    inr (inr (inr (inr (record {
      world = c.in_ok-world.world;
      run = subst (λ (es : List Event). StateRun (opening_state c.args.setup.now) es c.in_ok-world.world) c.in_ok-events.ensures.events run;
      other = inr (λ same. (let yes : IsTrue false = c.if-not-is_count.ensures.1 same in absurd cc));
    }))))

pub returns-clause-reported : goal.returns-clause-reported
returns-clause-reported c =
    let given = c.args.given.now in
    let events = c.in_ok-events.events.items in
    let receipts = c.args.left.receipts.items in
    let once : IsPermutation (all_of receipts) (numbered (length given) (events_of (take (length events - length given) (drop (length given) events)))) =
    rw (sym c.deref-3.ensures.value, sym c.deref-2.ensures.value) (c.in_ok-are_numbered.ensures.numbered.0 c.if-not-branch.false) in
    let dealt : AreDealt (map link_of c.in_ok-links.links.items) c.args.rounds c.args.workers receipts =
    rw (sym c.deref-9.ensures.value, sym c.deref-8.ensures.value) (c.if-not-are_dealt.ensures.0 refl) in
    let are : AreNumbered (events_of given) (events_of events) receipts =
    numbered_are given events receipts (map (λ (entry : Entry). entry.event) (drop (length (events_of given)) c.args.left.entries.items), c.in_ok-events.ensures.events) once in
    let run : StateRun (opening_state c.args.setup.now) (events_of events) c.in_ok-world.world =
    subst (λ (es : List Given). StateRun (opening_state c.args.setup.now) (events_of es) c.in_ok-world.world) c.deref-4.ensures.value c.in_ok-world.ensures.runs in
    let of_workers : AreOfWorkers c.args.workers receipts = subst (AreOfWorkers c.args.workers) c.deref.ensures.value (c.if-not-are_of_workers.ensures.0 refl) in
    let accounted : IsAccounted c.args.setup.now (events_of given) c.args.rounds c.args.workers c.in_ok-world.world c.args.left.board receipts =
    record {
      events = events_of events;
      workers_are = of_workers.0;
      numbered_are = are;
      rising = of_workers.1;
      dealt = subst (λ (ls : List Link). AreDealt ls c.args.rounds c.args.workers receipts) c.in_ok-links.ensures.all dealt;
      run = run;
      board_is = c.if-not-is_count.ensures.0 refl;
    } in
    record {
      setup_is = c.in_ok-world.ensures.made;
      accounted = accounted;
      initiates = c.in_ok-world.ensures.initiates;
      names = c.in_ok-world.ensures.names;
      goals = c.in_ok-world.ensures.goals;
      activations = c.in_ok-world.ensures.activations;
      equal = c.in_ok-world.ensures.equal;
      releases = c.in_ok-world.ensures.releases;
    }

pub returns-clause-log : goal.returns-clause-log
returns-clause-log c =
    let given = c.args.given.now in
    let events = c.in_ok-events.events.items in
    let receipts = c.args.left.receipts.items in
    let once : IsPermutation (all_of receipts) (numbered (length given) (events_of (take (length events - length given) (drop (length given) events)))) =
    rw (sym c.deref-3.ensures.value, sym c.deref-2.ensures.value) (c.in_ok-are_numbered.ensures.numbered.0 c.if-not-branch.false) in
    let are : AreNumbered (events_of given) (events_of events) receipts =
    numbered_are given events receipts (map (λ (entry : Entry). entry.event) (drop (length (events_of given)) c.args.left.entries.items), c.in_ok-events.ensures.events) once in
    let run : StateRun (opening_state c.args.setup.now) (events_of events) c.in_ok-world.world =
    subst (λ (es : List Given). StateRun (opening_state c.args.setup.now) (events_of es) c.in_ok-world.world) c.deref-4.ensures.value c.in_ok-world.ensures.runs in
    record {
      run = subst (λ (es : List Event). StateRun (opening_state c.args.setup.now) es c.in_ok-world.world) c.in_ok-events.ensures.events run;
      numbered_are = subst (λ (es : List Event). AreNumbered (events_of given) es receipts) c.in_ok-events.ensures.events are;
    }
