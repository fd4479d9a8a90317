use Rattle.std.proofs.Common.{IsTrue, ap, ◌∙◌, length, ℕ}
use Rattle.fw_store.specs.Device.{splice}
use Rattle.fw_store.specs.StoreBytes.{device_at}
use Rattle.fw_store.specs.Sizes.{slots_within}
use Rattle.fw_store.proofs.Outcomes.{on_ok_too, on_err_too}
use Rattle.fw_store.proofs.SlotLemmas.{write_slot, torn_slot, stays_laid}
use Rattle.fw_store.proofs.device_store.DeviceStoreImageStore.write.Goals as goal

pub invariant_of-self : goal.invariant_of-self
invariant_of-self g c = record {
  laid_out = λ h.
      let s = c.args.self.now in
      let was : IsTrue (g.D.ByteDevice.honest s.device) = rw (← c.write_at-outcome.ensures.kept.honesty) h in
      stays_laid s.tail s.capacity (g.D.ByteDevice.contents s.device) (g.D.ByteDevice.contents c.write_at-outcome.new.self)
      c.args.slot c.args.at c.args.bytes.now c.place.result c.requires c.place.ensures (s.laid_out was)
      c.write_at-outcome.result (c.write_at-outcome.ensures.done was) (c.write_at-outcome.ensures.torn was);
}

pub returns-clause-done : goal.returns-clause-done
returns-clause-done g c h =
    let s = c.args.self.now in
    let old = g.D.ByteDevice.contents s.device in
    on_ok_too c.answer.result c.write_at-outcome.result c.answer.ensures.through
    (λ e. ap (device_at s.capacity) (e ∙ ap (λ (n : ℕ). splice old n c.args.bytes.now) c.place.ensures)
    ∙ write_slot s.capacity old c.args.slot c.args.at c.args.bytes.now c.requires (slots_within s.tail s.capacity old (s.laid_out h)))
    (c.write_at-outcome.ensures.done h)

pub returns-clause-torn : goal.returns-clause-torn
returns-clause-torn g c h =
    let s = c.args.self.now in
    let old = g.D.ByteDevice.contents s.device in
    let new = g.D.ByteDevice.contents c.write_at-outcome.new.self in
    on_err_too c.answer.result c.write_at-outcome.result c.answer.ensures.through
    (torn_slot s.capacity old new c.args.slot c.args.at (length c.args.bytes.now) c.place.result c.requires c.place.ensures
    (slots_within s.tail s.capacity old (s.laid_out h)))
    (c.write_at-outcome.ensures.torn h)
