use Rattle.std.proofs.Common.{◌≡◌, ◌+◌, ◌-◌, ℕ, length, sym, ap, subst, ◌∙◌, arith}
use Rattle.fw_image.specs.Meter.{Meter, migrated}
use Rattle.fw_stored.specs.Stored.{IsSound}
use Rattle.fw_audit.specs.Log.{log_of}
use Rattle.fw_audit.specs.Stands.{waits}
use Rattle.fw_audit.specs.Private.{stand_of}
use Rattle.fw_audit.proofs.Items.{front_goes}
use Rattle.fw_audit.proofs.Lives.{died_of, past_as, some_last, stopped_cut, stopped_died}
use Rattle.fw_audit.proofs.life.Left.died.Goals as goal

pub overflow_sub-last : goal.overflow_sub-last
overflow_sub-last c = some_last c.args.items.now c.requires.open

pub run-requires-clause-sound : goal.run-requires-clause-sound
run-requires-clause-sound c = subst IsSound (sym c.started-whole.ensures.meter) c.in-Ok-started_twice.ensures.first_sound

pub run-requires-2-clause-sound : goal.run-requires-2-clause-sound
run-requires-2-clause-sound c = subst IsSound (sym c.started-cut.ensures.meter) c.in-Ok-started_twice.ensures.second_sound

pub run-requires-2-clause-going : goal.run-requires-2-clause-going
run-requires-2-clause-going c =
    let some = some_last c.args.items.now c.requires.open in
    front_goes c.args.items.now (length c.args.items.now - 1) c.requires.going (omega arith)

pub returns-in-Err : goal.returns-in-Err
returns-in-Err c =
    let self = c.args.self in
    let stands : stand_of c.started-whole.result ≡ waits (migrated self.meter.meter) =
    c.started-whole.ensures.stand ∙ ap (λ (m : Meter). waits m) c.in-Ok-started_twice.ensures.first ∙ ap (λ (m : Meter). waits (migrated m)) c.requires.rests in
    stopped_died c.args.heads.now c.started-whole.result.switched.items self.switched.items (stand_of c.started-whole.result) self.meter.meter (log_of c.args.items.now) c.in-Err.stop stands c.in-Err.ensures

pub returns-in-Err-run : goal.returns-in-Err-run
returns-in-Err-run c =
    let self = c.args.self in
    let items = c.args.items.now in
    let last : ℕ = length items - 1 in
    let stands : stand_of c.started-cut.result ≡ waits (migrated self.meter.meter) =
    c.started-cut.ensures.stand ∙ ap (λ (m : Meter). waits m) c.in-Ok-started_twice.ensures.second ∙ ap (λ (m : Meter). waits (migrated m)) c.requires.rests in
    stopped_cut c.args.heads.now c.started-cut.result.switched.items self.switched.items (stand_of c.started-cut.result) self.meter.meter items last c.in-Err-run.stop stands c.in-Err-run.ensures

pub returns : goal.returns
returns c =
    let self = c.args.self in
    let heads = c.args.heads.now in
    let items = c.args.items.now in
    let begin = self.meter.meter in
    let last : ℕ = length items - 1 in
    let some = some_last items c.requires.open in
    let size : last + 1 ≡ length items = omega arith in
    let stands : stand_of c.started-whole.result ≡ waits (migrated begin) =
    c.started-whole.ensures.stand ∙ ap (λ (m : Meter). waits m) c.in-Ok-started_twice.ensures.first ∙ ap (λ (m : Meter). waits (migrated m)) c.requires.rests in
    let others : stand_of c.started-cut.result ≡ waits (migrated begin) =
    c.started-cut.ensures.stand ∙ ap (λ (m : Meter). waits m) c.in-Ok-started_twice.ensures.second ∙ ap (λ (m : Meter). waits (migrated m)) c.requires.rests in
    died_of heads self.switched.items begin items last c.in-Ok-run.going c.in-Ok-run-2.going c.of-first.result c.of-second.result c.requires.open size
    (past_as heads c.started-whole.result.switched.items self.switched.items (stand_of c.started-whole.result) (waits (migrated begin)) (log_of items) c.in-Ok-run.going
    c.started-whole.ensures.images stands c.in-Ok-run.ensures)
    (past_as heads c.started-cut.result.switched.items self.switched.items (stand_of c.started-cut.result) (waits (migrated begin)) _ c.in-Ok-run-2.going
    (c.started-cut.ensures.images ∙ c.in-Ok.ensures ∙ c.deref.ensures.value) others c.in-Ok-run-2.ensures)
    c.of-first.ensures.left c.of-first.ensures.images c.of-first.ensures.rests c.of-first.ensures.size
    c.of-second.ensures.left c.of-second.ensures.images c.of-second.ensures.rests c.of-second.ensures.size
