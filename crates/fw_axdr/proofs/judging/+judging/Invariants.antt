use Rattle.std.proofs.Common.{◌≡◌, ◌+◌, ◌*◌, drop}
use Rattle.fw_axdr.specs.View.{values_of}
use Rattle.fw_axdr.specs.Fault.{first_unwritable}
use Rattle.fw_axdr.proofs.judging.+judging.Given as goal

abbrev pub decreases-unwritable_items : goal.decreases-unwritable_items
decreases-unwritable_items l = 3 * l.levels + 2

abbrev pub decreases-first_unwritable : goal.decreases-first_unwritable
decreases-first_unwritable l = 3 * l.levels + 1

abbrev pub decreases-unwritable_data : goal.decreases-unwritable_data
decreases-unwritable_data l = 3 * l.levels

abbrev pub invariant-first_unwritable-loop-item : goal.invariant-first_unwritable-loop-item
invariant-first_unwritable-loop-item l = first_unwritable (values_of (drop l.item-index l.items)) l.levels ≡ first_unwritable (values_of l.items) l.levels
