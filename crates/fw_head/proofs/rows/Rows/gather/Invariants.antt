use Rattle.std.proofs.Common.{◌≡◌, ◌≤◌, nat_eq, ◌++◌, length}
use Rattle.std.specs.List.{IsDistinct}
use Rattle.std.specs.Map.{keys_of}
use Rattle.std.specs.Vec.Iter.{into_iter_items, into_iter_len}
use Rattle.indexmap.specs.IndexMap.{spare}
use Rattle.fw_head.specs.Parts.{by_meter}
use Rattle.fw_head.proofs.rows.Rows.gather.Given as goal

-- the rows that are there and those that are left are all, and no two that are there are of one meter
abbrev pub invariant-loop-row : goal.invariant-loop-row
invariant-loop-row l =
    (l.self.rows.entries ++ by_meter (into_iter_items l.row-iterator) ≡ by_meter l.fn.rows.items)
    × IsDistinct nat_eq (keys_of l.self.rows.entries)
    × (into_iter_len l.row-iterator ≡ length (into_iter_items l.row-iterator))
    × (length (into_iter_items l.row-iterator) ≤ spare l.self.rows)
