use Rattle.std.proofs.Common.{◌+◌, ◌*◌}
use Rattle.fw_axdr.specs.View.{values_of}
use Rattle.fw_axdr.proofs.Wants.{ItemsRead}
use Rattle.fw_axdr.proofs.reading.+reading.Given as goal

abbrev pub decreases-items : goal.decreases-items
decreases-items l = 3 * l.levels + 1

abbrev pub decreases-contents : goal.decreases-contents
decreases-contents l = 3 * l.levels + 2

abbrev pub decreases-data : goal.decreases-data
decreases-data l = 3 * l.levels

abbrev pub invariant-items-loop : goal.invariant-items-loop
invariant-items-loop l = ItemsRead l.levels l.count l.counter (values_of l.items.items) l.initial.reader l.reader
