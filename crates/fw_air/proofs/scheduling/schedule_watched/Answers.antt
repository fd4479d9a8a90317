use Rattle.std.proofs.Common.{◌≡◌, refl, sym, ap, subst, ◌∙◌}
use Rattle.fw_world.specs.Runs.{events_of}
use Rattle.fw_air.specs.Schedules.{IsUnscheduled}
use Rattle.fw_world.specs.Setup.{opening_state}
use Rattle.fw_air.proofs.Present.{run_addressed, opening_addressed}
use Rattle.fw_air.proofs.Runs.{cut_behind, same_events, scheduled}
use Rattle.fw_air.proofs.scheduling.schedule_watched.Goals as goal

pub returns-in-Ok-make_rounds-clause-schedule : goal.returns-in-Ok-make_rounds-clause-schedule
returns-in-Ok-make_rounds-clause-schedule g c =
    let world = c.in_ok-world.world in
    let given = events_of c.args.events.now in
    let made : c.new-made.result ≡ record { world = world; events = given } = c.new-made.ensures ∙ ap (λ events. record { world = world; events = events }) (same_events c.args.events.now c.in-Ok.list.items c.in-Ok.ensures.ok) in
    (scheduled c.args.setup.now given c.args.rounds c.args.fates.now world _ c.new-made.result c.make_rounds.new.made made c.in_ok-world.ensures.run c.in-Ok-make_rounds.ensures.all c.into_events.ensures).0

pub returns-in-Ok-make_rounds-clause-fates : goal.returns-in-Ok-make_rounds-clause-fates
returns-in-Ok-make_rounds-clause-fates g c =
    let world = c.in_ok-world.world in
    let given = events_of c.args.events.now in
    let made : c.new-made.result ≡ record { world = world; events = given } = c.new-made.ensures ∙ ap (λ events. record { world = world; events = events }) (same_events c.args.events.now c.in-Ok.list.items c.in-Ok.ensures.ok) in
    (scheduled c.args.setup.now given c.args.rounds c.args.fates.now world _ c.new-made.result c.make_rounds.new.made made c.in_ok-world.ensures.run c.in-Ok-make_rounds.ensures.all c.into_events.ensures).1

pub returns-in-Ok-make_rounds-clause-runs : goal.returns-in-Ok-make_rounds-clause-runs
returns-in-Ok-make_rounds-clause-runs g c =
    let world = c.in_ok-world.world in
    let given = events_of c.args.events.now in
    let made : c.new-made.result ≡ record { world = world; events = given } = c.new-made.ensures ∙ ap (λ events. record { world = world; events = events }) (same_events c.args.events.now c.in-Ok.list.items c.in-Ok.ensures.ok) in
    (scheduled c.args.setup.now given c.args.rounds c.args.fates.now world _ c.new-made.result c.make_rounds.new.made made c.in_ok-world.ensures.run c.in-Ok-make_rounds.ensures.all c.into_events.ensures).2

pub returns-in-Err-clause-refused : goal.returns-in-Err-clause-refused
returns-in-Err-clause-refused g c =
    let world = c.in_ok-world.world in
    let given = events_of c.args.events.now in
    let made : c.new-made.result ≡ record { world = world; events = given } = c.new-made.ensures ∙ ap (λ events. record { world = world; events = events }) (same_events c.args.events.now c.in-Ok.list.items c.in-Ok.ensures.ok) in
    subst (IsUnscheduled c.args.setup.now given) (sym c.refused.ensures)
    (cut_behind c.args.setup.now given _ world c.in-Err.cause c.new-made.result c.make_rounds.new.made made c.in_ok-world.ensures.run c.in-Err.ensures.goes_on refl c.in-Err.ensures.memory)

pub new-made-requires : goal.new-made-requires
new-made-requires g c =
    let setup = c.args.setup.now in
    run_addressed c.sent_stays_addressed.ensures (opening_state setup) c.in_ok-world.world (events_of c.args.events.now) c.in_ok-world.ensures.run (opening_addressed setup)
