use Rattle.std.proofs.Common.{◌≡◌, ◌||◌, ◌-◌, ◌≤◌, ℕ, take, length}
use Rattle.std.specs.HashSet.{spare}
use Rattle.fw_book.specs.Rows.{is_live_in}
use Rattle.fw_book.specs.Private.{has_live_meter}
use Rattle.fw_book.proofs.live.LiveMeters.add.Given as goal

-- the meters of the rows so far are there, and there is room for the others
abbrev pub invariant-loop-row : goal.invariant-loop-row
invariant-loop-row l =
    record {
      added : (meter : ℕ) → has_live_meter l.self meter ≡ (has_live_meter l.fn.self meter || is_live_in (take l.row-index l.rows) meter);
      room : length l.rows - l.row-index ≤ spare l.self.numbers;
    }
