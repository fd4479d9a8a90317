use Rattle.std.proofs.Common.{take}
use Rattle.std.specs.Prelude.{All}
use Rattle.fw_fleet_audit.specs.Rows.{IsBorneOut}
use Rattle.fw_fleet_audit.proofs.rows.first_lacking.Given as goal

-- the rows so far are borne out
abbrev pub invariant-loop-row : goal.invariant-loop-row
invariant-loop-row l = All (IsBorneOut l.meters l.name) (take l.row-index l.rows)
