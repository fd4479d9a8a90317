use Rattle.fw_store.proofs.SlotLemmas.{is_store}
use Rattle.fw_store.proofs.StoreByteLemmas.{holds}
use Rattle.fw_store.proofs.device_store.DeviceStore.into_device.Goals as goal

pub returns-clause-store : goal.returns-clause-store
returns-clause-store g c h =
    let s = c.args.self in
    let bytes = g.D.ByteDevice.contents s.device in
    holds s.capacity bytes (is_store s.tail s.capacity bytes (s.laid_out h))
