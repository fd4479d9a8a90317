use Rattle.std.proofs.Common.{List, Result, Ok, Err, inr, subst}
use Rattle.std.specs.Prelude.{IfOk, string_bytes}
use Rattle.fw_world.specs.declared.event.Event.{Event as Given}
use Rattle.fw_cli.specs.Replaying.{TellsRun}
use Rattle.fw_cli.proofs.replay.replay.Goals as goal

-- what holds of a value, said otherwise
if_ok : {A B : Type 0} (r : Result A B) (P Q : A → Type 0) → ((x : A) → P x → Q x) → IfOk r P → IfOk r Q
if_ok (Ok x) P Q told h = told x h
if_ok (Err e) P Q told h = h

pub returns-clause-ok : goal.returns-clause-ok
returns-clause-ok g c =
    let script = c.in_ok-setup.field-0 in
    if_ok c.tell_run.result _ _
    (λ told tells. record {
      setup = script.setup;
      given = script.events.items;
      events = c.in_ok-events.events.items;
      spelled = c.in_ok-setup.ensures.ok;
      goes_on = c.in_ok-events.ensures.ok;
      run = subst (λ (all : List Given). TellsRun c.args.style script.setup all told.ended told.world (string_bytes told.text)) c.deref.ensures.value tells;
    })
    c.tell_run.ensures.ok

pub returns-clause-bad_setup : goal.returns-clause-bad_setup
returns-clause-bad_setup g c = λ bad. (c.in_ok-setup.field-0.setup, c.in_ok-setup.field-0.events.items, c.in_ok-setup.ensures.ok, c.tell_run.ensures.bad_setup bad)

pub returns-in_err-events-clause-memory : goal.returns-in_err-events-clause-memory
returns-in_err-events-clause-memory g c = λ _.
    inr (c.in_ok-setup.field-0.setup, c.in_ok-setup.field-0.events.items, c.in_ok-setup.ensures.ok, c.in_err-events.ensures.memory)

pub returns-clause-memory : goal.returns-clause-memory
returns-clause-memory g c = λ wanted.
    inr (c.in_ok-setup.field-0.setup, c.in_ok-setup.field-0.events.items, c.in_ok-setup.ensures.ok, c.tell_run.ensures.memory wanted)
