use Rattle.std.proofs.Common.{◌≡◌, ◌≤◌, true, Option, Some, length, take, sym, ap, subst, ◌∙◌, arith}
use Rattle.std.specs.Prelude.{IfSome}
use Rattle.std.specs.Option.{option_copied}
use Rattle.fw_blocks.specs.Cuts.{Partition}
use Rattle.fw_blocks.specs.Members.{has}
use Rattle.fw_store.specs.Device.{slot_bytes}
use Rattle.fw_store.specs.Header.{goal_count, IsGoal}
use Rattle.fw_store.specs.Memory.{capacity_of, device_of, slot_size}
use Rattle.fw_store.specs.Slot.{other}
use Rattle.fw_store.specs.Versions.{block_limit}
use Rattle.fw_store.specs.declared.header.Goal.{Goal}
use Rattle.fw_image.proofs.Same.{cells_past, cells_unmarked, cell_is}
use Rattle.fw_image.proofs.held.Held+MemoryStore.cell.Goals as goal

pub returns-in_err-goal : goal.returns-in_err-goal
returns-in_err-goal c =
    let store = c.self.inside.store in
    let h = c.self.inside.header in
    let count : goal_count h.block_size h.goal ≡ 0 = ap (goal_count h.block_size) c.in_err-goal.was in
    rw (c.from_residual.ensures, ← c.self.view_is) (sym (cells_past h.block_size h.marks (slot_bytes (device_of store) (other h.running_slot)) h.goal c.args.number (omega arith)))

pub returns-then-not-has : goal.returns-then-not-has
returns-then-not-has c =
    let store = c.self.inside.store in
    let h = c.self.inside.header in
    rw (← c.self.view_is) (sym (cells_unmarked h.block_size h.marks (slot_bytes (device_of store) (other h.running_slot)) h.goal c.args.number (sym c.has.ensures ∙ c.if-not-has.true)))

pub returns : goal.returns
returns c =
    let store = c.self.inside.store in
    let h = c.self.inside.header in
    let has_goal : h.goal ≡ Some c.in_ok-goal.goal = c.in_ok-goal.was in
    let goal_is : IsGoal (block_limit h.version) (capacity_of store) h.block_size h.running_name.release c.in_ok-goal.goal =
    subst (λ (g : Option Goal). IfSome g (IsGoal (block_limit h.version) (capacity_of store) h.block_size h.running_name.release)) has_goal c.self.invariant.held.valid.goal in
    let spare = slot_bytes (device_of store) (other h.running_slot) in
    let fits : c.in_ok-goal.goal.size ≤ capacity_of store = goal_is.fits in
    let size : length spare ≡ capacity_of store = slot_size store (other h.running_slot) in
    let within : c.in_ok-goal.goal.size ≤ length spare = omega arith in
    let read : c.slot-spare.result.now ≡ spare = c.slot-spare.ensures ∙ ap (slot_bytes (device_of store)) c.other.ensures in
    let image : take c.in_ok-goal.goal.size c.slot-spare.result.now ≡ take c.in_ok-goal.goal.size spare = ap (take c.in_ok-goal.goal.size) read in
    let blocks : c.in_ok-new.field-0.block_size ≡ h.block_size = ap (λ (p : Partition). p.block_size) c.in_ok-new.ensures.value.1 in
    let marked : has h.marks c.args.number ≡ true = sym c.has.ensures ∙ c.if-not-has.false in
    rw (← c.self.view_is) (cell_is (option_copied c.cut.result) h.block_size c.in_ok-new.field-0.block_size h.marks spare (take c.in_ok-goal.goal.size c.slot-spare.result.now) h.goal c.in_ok-goal.goal c.args.number has_goal blocks image within marked c.cut.ensures.value)
