use Rattle.std.proofs.Common.{◌∙◌, ◌+◌, refl, length}
use Rattle.fw_store.proofs.Outcomes.{on_ok_too}
use Rattle.fw_store.proofs.SlotLemmas.{read_slot}
use Rattle.fw_store.proofs.device_store.DeviceStoreImageStore.read.Goals as goal

pub returns-clause-done : goal.returns-clause-done
returns-clause-done g c h =
    let bytes = g.D.ByteDevice.contents c.args.self.now.device in
    let count = length c.args.out.now in
    on_ok_too c.answer.result c.read_at-outcome.result c.answer.ensures.through
    (λ e. e ∙ read_slot c.args.self.now.capacity bytes c.args.slot c.args.at count c.place.result (c.place.result + count) c.requires c.place.ensures refl)
    (c.read_at-outcome.ensures.done h)
