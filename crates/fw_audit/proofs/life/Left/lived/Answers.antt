use Rattle.std.proofs.Common.{◌≡◌, sym, ap, subst, ◌∙◌}
use Rattle.fw_image.specs.Meter.{Meter, migrated}
use Rattle.fw_stored.specs.Stored.{IsSound}
use Rattle.fw_audit.specs.Log.{log_of}
use Rattle.fw_audit.specs.Stands.{waits}
use Rattle.fw_audit.specs.Private.{stand_of}
use Rattle.fw_audit.proofs.Items.{are_going}
use Rattle.fw_audit.proofs.Lives.{lived, past_as, stopped_lived}
use Rattle.fw_audit.proofs.life.Left.lived.Goals as goal

pub run-requires-clause-sound : goal.run-requires-clause-sound
run-requires-clause-sound c = subst IsSound (sym c.started-start.ensures.meter) c.started_again.ensures.sound

pub returns-in-Ok : goal.returns-in-Ok
returns-in-Ok c =
    let self = c.args.self in
    let start = c.started-start.result in
    let items = c.args.items.now in
    let stands : stand_of start ≡ waits (migrated self.meter.meter) =
    c.started-start.ensures.stand ∙ ap (λ (m : Meter). waits m) c.started_again.ensures.meter ∙ ap (λ (m : Meter). waits (migrated m)) c.requires.rests in
    lived c.args.heads.now self.switched.items self.meter.meter (log_of items) c.in-Ok.going c.of.result
    (past_as c.args.heads.now start.switched.items self.switched.items (stand_of start) (waits (migrated self.meter.meter)) (log_of items) c.in-Ok.going c.started-start.ensures.images stands c.in-Ok.ensures)
    (are_going items c.requires.going) c.requires.closed
    c.of.ensures.left c.of.ensures.images c.of.ensures.rests c.of.ensures.size

pub returns-in-Err : goal.returns-in-Err
returns-in-Err c =
    let self = c.args.self in
    let start = c.started-start.result in
    let stands : stand_of start ≡ waits (migrated self.meter.meter) =
    c.started-start.ensures.stand ∙ ap (λ (m : Meter). waits m) c.started_again.ensures.meter ∙ ap (λ (m : Meter). waits (migrated m)) c.requires.rests in
    stopped_lived c.args.heads.now start.switched.items self.switched.items (stand_of start) self.meter.meter (log_of c.args.items.now) c.in-Err.stop stands c.in-Err.ensures
