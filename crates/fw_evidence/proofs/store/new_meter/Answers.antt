use Rattle.std.proofs.Common.{refl}
use Rattle.std.specs.Prelude.{IsTrue}
use Rattle.fw_store.specs.Memory.{device_of, capacity_of, is_sound}
use Rattle.fw_store.specs.declared.version.HeaderVersion.TheVariants.{Two}
use Rattle.fw_image.specs.Fresh.{fresh_meter}
use Rattle.fw_evidence.proofs.Opening.{holds_new}
use Rattle.fw_evidence.proofs.store.new_meter.Goals as goal

pub unreachable-requires : goal.unreachable-requires
unreachable-requires c =
    let there =
    holds_new c.fresh_is_meter.ensures Two c.args.block_size c.args.capacity c.args.factory.now (capacity_of c.in-Ok.store) (device_of c.in-Ok.store)
    c.in-Ok.ensures.setup c.in-Ok.ensures.size c.in-Ok.ensures.fresh in
    let sound : IsTrue (is_sound c.in-Ok.store) = rw c.in-Ok.ensures.unfused refl in
    c.in-Err-open_kept.ensures.again (fresh_meter Two c.args.block_size c.args.capacity c.args.factory.now) there.0 there.1 refl sound

pub returns-clause-new : goal.returns-clause-new
returns-clause-new c =
    let there =
    holds_new c.fresh_is_meter.ensures Two c.args.block_size c.args.capacity c.args.factory.now (capacity_of c.in-Ok.store) (device_of c.in-Ok.store)
    c.in-Ok.ensures.setup c.in-Ok.ensures.size c.in-Ok.ensures.fresh in
    let sound : IsTrue (is_sound c.in-Ok.store) = rw c.in-Ok.ensures.unfused refl in
    c.in-Ok-open_kept.ensures.again (fresh_meter Two c.args.block_size c.args.capacity c.args.factory.now) there.0 there.1 refl sound
