use Rattle.std.proofs.Common.{◌≡◌, ◌≤◌, nat_eq, ◌++◌, drop, length}
use Rattle.std.specs.List.{IsDistinct}
use Rattle.std.specs.Map.{keys_of}
use Rattle.indexmap.specs.IndexMap.{spare}
use Rattle.fw_head.specs.Head.{new_rows}
use Rattle.fw_head.proofs.rows.Rows.add.Given as goal

-- the rows that are there and those that are still to be added are the whole
abbrev pub invariant-loop-meter : goal.invariant-loop-meter
invariant-loop-meter l =
    (l.self.rows.entries ++ new_rows l.name l.size (drop l.meter-index l.meters) ≡ l.fn.self.rows.entries ++ new_rows l.name l.size l.meters)
    × IsDistinct nat_eq (keys_of l.self.rows.entries ++ drop l.meter-index l.meters)
    × (length (drop l.meter-index l.meters) ≤ spare l.self.rows)
