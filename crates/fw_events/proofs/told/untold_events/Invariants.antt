use Rattle.std.proofs.Common.{◌≡◌, flat_map, take}
use Rattle.fw_book.specs.declared.row.Row.{Row}
use Rattle.fw_events.specs.Told.{untold_event}
use Rattle.fw_events.proofs.told.untold_events.Given as goal

abbrev pub invariant-loop-row : goal.invariant-loop-row
invariant-loop-row l = l.events.items ≡ flat_map (λ (row : Row). untold_event l.told l.notes l.campaign row) (take l.row-index l.rows)
