use Rattle.std.proofs.Common.{◌≡◌, nat_eq, true, ◌++◌, drop}
use Rattle.std.specs.List.{IsDistinct}
use Rattle.std.specs.Map.{keys_of}
use Rattle.fw_book.specs.Rows.{has_live}
use Rattle.fw_head.specs.Head.{reopened_rows}
use Rattle.fw_head.specs.Private.{live_meters}
use Rattle.fw_head.proofs.rows.Rows.add_live.Given as goal

-- the rows that are there and those that are still to be added are the whole
abbrev pub invariant-loop-row : goal.invariant-loop-row
invariant-loop-row l =
    (l.self.rows.entries ++ reopened_rows l.name l.size (live_meters (drop l.row-index l.rows)) ≡ l.fn.self.rows.entries ++ reopened_rows l.name l.size (live_meters l.rows))
    × IsDistinct nat_eq (keys_of l.self.rows.entries ++ live_meters (drop l.row-index l.rows))
    × (has_live (drop l.row-index l.rows) ≡ true → has_live l.rows ≡ true)
