-- Why an audit is refused.
use Rattle.std.proofs.Common.{◌≡◌, ◌≢◌, List, slice_get, Some, Err, ap, sym, subst, ◌∙◌}
use Rattle.std.specs.Option.{option_map}
use Rattle.std.proofs.lemmas.List.{take-map}
use Rattle.std.proofs.lemmas.Option.{slice_get-map}
use Rattle.fw_world.specs.declared.error.SetupError.TheVariants as unmade
use Rattle.fw_world.specs.declared.error.StepError.TheVariants as step
use Rattle.fw_world.specs.declared.event.Event.{Event as Given}
use Rattle.fw_world.specs.declared.runs.RunError.{RunError}
use Rattle.fw_world.specs.declared.runs.RunError.TheVariants as stopped
use Rattle.fw_world.specs.declared.setup.Setup.{Setup}
use Rattle.fw_world.specs.Runs.{EndsIn, IsStopped, events_of}
use Rattle.fw_world.specs.Setup.{IsSetup, opening_state}
use Rattle.fw_world.specs.State.{StateRun}
use Rattle.fw_world.specs.View.{event_of}
use Rattle.fw_air.specs.declared.audits.AuditError.TheVariants as audit
use Rattle.fw_air.specs.Audits.{IsBrokenOff}
use Rattle.fw_air.specs.Private.{audit_error_of}

pub broken_off : (setup : Setup) (events : List Given) (error : RunError) → IsStopped setup events error → audit_error_of error ≡ audit.Mismatch → EndsIn (Err error) (λ w. IsSetup setup) → IsSetup setup × IsBrokenOff setup (events_of events)
broken_off setup events (stopped.Setup unmade.BadSetup) s is made = absurd cc
broken_off setup events (stopped.Setup unmade.OutOfMemory) s is made = absurd cc
broken_off setup events (stopped.Event number world cause) s is made =
    let there : slice_get (events_of events) number ≡ Some (event_of s.0) = slice_get-map event_of events number ∙ ap (option_map event_of) s.1 in
    let not_memory : cause ≢ step.OutOfMemory = λ e.
    let memory : audit.OutOfMemory ≡ audit.Mismatch = sym (ap (λ c. audit_error_of (stopped.Event number world c)) e) ∙ is in
    cc in (
      made,
      record {
        number = number;
        world = world;
        cause = cause;
        run = subst (λ given. StateRun (opening_state setup) given world) (sym (take-map event_of number events)) s.2;
        cut = record { event = event_of s.0; there = there; refused = s.3 };
        other_cause = not_memory;
      },
    )
