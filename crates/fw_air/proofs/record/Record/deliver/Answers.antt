use Rattle.std.proofs.Common.{subst}
use Rattle.fw_world.specs.State.{AreAddressed}
use Rattle.fw_air.proofs.Present.{delivery_admitted}
use Rattle.fw_air.proofs.record.Record.deliver.Goals as goal

pub admit-requires : goal.admit-requires
admit-requires c = delivery_admitted c.args.self.now.world c.args.datagram (subst AreAddressed c.world-world.ensures.value c.world-world.ensures.addressed) c.requires
