use Rattle.std.proofs.Common.{◌≡◌, IfOk, sym, subst}
use Rattle.fw_store.specs.Fresh.{fresh_device}
use Rattle.fw_store.specs.Memory.{device_of}
use Rattle.fw_store.specs.declared.version.HeaderVersion.{HeaderVersion}
use Rattle.fw_world.proofs.world_meter.new_store.Goals as goal

pub returns-in-One-clause-fresh : goal.returns-in-One-clause-fresh
returns-in-One-clause-fresh c =
    let P : HeaderVersion → Type 0 = λ version. IfOk c.new_old.result (λ m. device_of m ≡ fresh_device version c.args.block_size c.args.capacity c.args.factory.now) in
    subst P (sym c.in-One.is) c.new_old.ensures.fresh

pub returns-in-Two-clause-fresh : goal.returns-in-Two-clause-fresh
returns-in-Two-clause-fresh c =
    let P : HeaderVersion → Type 0 = λ version. IfOk c.new.result (λ m. device_of m ≡ fresh_device version c.args.block_size c.args.capacity c.args.factory.now) in
    subst P (sym c.in-Two.is) c.new.ensures.fresh
