use Rattle.std.proofs.Common.{◌≡◌, sym, ap, ◌∙◌, arith}
use Rattle.fw_store.specs.Device.{slot_bytes}
use Rattle.fw_store.specs.Header.{goal_count}
use Rattle.fw_store.specs.Slot.{other}
use Rattle.fw_image.specs.Stored.{seen}
use Rattle.fw_image.proofs.Same.{cells_past}
use Rattle.fw_image.proofs.held.Held.block_count.Goals as goal

pub returns-in-Some-clause-past : goal.returns-in-Some-clause-past
returns-in-Some-clause-past g c = λ number past.
    let known = g.S.ImageStore.known in
    let store = known c.self.inside.store in
    let h = c.self.inside.header in
    let count : goal_count h.block_size h.goal ≡ c.div_ceil.result = ap (goal_count h.block_size) c.in-Some.is ∙ sym c.div_ceil.ensures in
    rw (← c.self.view_is) (cells_past h.block_size h.marks (slot_bytes (seen store.honest store.capacity store.device) (other h.running_slot)) h.goal number (omega arith))

pub returns-in-None-clause-past : goal.returns-in-None-clause-past
returns-in-None-clause-past g c = λ number past.
    let known = g.S.ImageStore.known in
    let store = known c.self.inside.store in
    let h = c.self.inside.header in
    let count : goal_count h.block_size h.goal ≡ 0 = ap (goal_count h.block_size) c.in-None.is in
    rw (← c.self.view_is) (cells_past h.block_size h.marks (slot_bytes (seen store.honest store.capacity store.device) (other h.running_slot)) h.goal number (omega arith))
