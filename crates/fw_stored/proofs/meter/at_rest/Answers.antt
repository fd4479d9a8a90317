use Rattle.std.proofs.Common.{refl}
use Rattle.std.specs.Prelude.{IsTrue}
use Rattle.fw_store.specs.Memory.{is_sound}
use Rattle.fw_image.specs.Meter.{reopened}
use Rattle.fw_stored.proofs.meter.at_rest.Goals as goal

pub unreachable-requires : goal.unreachable-requires
unreachable-requires c =
    let sound : IsTrue (is_sound c.into_store.result) = rw c.into_store.ensures.unfused refl in
    c.in-Err.ensures.again (reopened c.args.meter.meter) c.into_store.ensures.meter c.into_store.ensures.trusted refl sound

pub returns-clause-meter : goal.returns-clause-meter
returns-clause-meter c =
    let sound : IsTrue (is_sound c.into_store.result) = rw c.into_store.ensures.unfused refl in
    c.in-Ok.ensures.again (reopened c.args.meter.meter) c.into_store.ensures.meter c.into_store.ensures.trusted refl sound

pub returns-clause-sound : goal.returns-clause-sound
returns-clause-sound c =
    let sound : IsTrue (is_sound c.into_store.result) = rw c.into_store.ensures.unfused refl in
    record { honest = c.in-Ok.ensures.opened.honesty; sound = c.in-Ok.ensures.sound sound }
