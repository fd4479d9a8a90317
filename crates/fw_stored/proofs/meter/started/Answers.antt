use Rattle.std.proofs.Common.{refl}
use Rattle.std.specs.Prelude.{IsTrue}
use Rattle.fw_store.specs.Memory.{is_sound}
use Rattle.fw_stored.proofs.meter.started.Goals as goal

pub unreachable-requires : goal.unreachable-requires
unreachable-requires c =
    let sound : IsTrue (is_sound c.args.store) = rw c.requires.unfused refl in
    let there = c.requires.there in
    c.in-Err.ensures.again there.0 there.1 there.2 refl sound

pub returns-clause-meter : goal.returns-clause-meter
returns-clause-meter c meter is trusted =
    let sound : IsTrue (is_sound c.args.store) = rw c.requires.unfused refl in
    c.in-Ok.ensures.again meter is trusted refl sound

pub returns-clause-sound : goal.returns-clause-sound
returns-clause-sound c =
    let sound : IsTrue (is_sound c.args.store) = rw c.requires.unfused refl in
    record { honest = c.in-Ok.ensures.opened.honesty; sound = c.in-Ok.ensures.sound sound }
