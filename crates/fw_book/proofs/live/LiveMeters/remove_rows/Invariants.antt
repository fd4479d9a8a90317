use Rattle.std.proofs.Common.{◌≡◌, ◌&&◌, ℕ, not, take}
use Rattle.fw_book.specs.Rows.{is_live_in}
use Rattle.fw_book.specs.Private.{has_live_meter}
use Rattle.fw_book.proofs.live.LiveMeters.remove_rows.Given as goal

abbrev pub invariant-loop-row : goal.invariant-loop-row
invariant-loop-row l = (meter : ℕ) → has_live_meter l.self meter ≡ (has_live_meter l.fn.self meter && not (is_live_in (take l.row-index l.rows) meter))
