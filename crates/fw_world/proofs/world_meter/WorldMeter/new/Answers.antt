use Rattle.std.proofs.Common.{refl}
use Rattle.std.specs.Prelude.{IsTrue}
use Rattle.fw_store.specs.Memory.{device_of, capacity_of, is_sound}
use Rattle.fw_image.specs.Fresh.{fresh_meter}
use Rattle.fw_world.proofs.NewStores.{holds_new}
use Rattle.fw_world.proofs.world_meter.WorldMeter.new.Goals as goal

pub unreachable-requires : goal.unreachable-requires
unreachable-requires c =
    let there =
    holds_new c.fresh_is_meter.ensures c.args.version c.args.block_size c.args.capacity c.args.factory.now (capacity_of c.in-Ok.store) (device_of c.in-Ok.store)
    c.in-Ok.ensures.setup c.in-Ok.ensures.size c.in-Ok.ensures.fresh in
    let sound : IsTrue (is_sound c.in-Ok.store) = rw c.in-Ok.ensures.unfused refl in
    c.in-Err.ensures.again (fresh_meter c.args.version c.args.block_size c.args.capacity c.args.factory.now) there.0 there.1 refl sound

pub returns-clause-fresh : goal.returns-clause-fresh
returns-clause-fresh c =
    let there =
    holds_new c.fresh_is_meter.ensures c.args.version c.args.block_size c.args.capacity c.args.factory.now (capacity_of c.in-Ok.store) (device_of c.in-Ok.store)
    c.in-Ok.ensures.setup c.in-Ok.ensures.size c.in-Ok.ensures.fresh in
    let sound : IsTrue (is_sound c.in-Ok.store) = rw c.in-Ok.ensures.unfused refl in
    c.in-Ok-open_kept.ensures.again (fresh_meter c.args.version c.args.block_size c.args.capacity c.args.factory.now) there.0 there.1 refl sound
