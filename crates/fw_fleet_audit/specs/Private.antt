-- For private members alone: no public clause cites it.
use Rattle.std.specs.Prelude.{◌≡◌, List}
use Rattle.fw_names.specs.Name.{Name}
use Rattle.fw_book.specs.declared.row.Row.{Row}
use Rattle.fw_book.specs.declared.row.RowState.TheVariants.{Done}
use Rattle.fw_fleet_audit.specs.Rows.{Audited, HasSwitched}

-- a row that is done, and no audited meter of its number switched to an image of this name
abbrev pub IsUnborne : List Audited → Name → Row → Type 0
IsUnborne meters name row = (row.state ≡ Done) × (HasSwitched meters row.meter name → ⊥)
