use Rattle.std.proofs.Common.{take}
use Rattle.std.specs.Prelude.{string_bytes}
use Rattle.fw_status.specs.Page.{IsLineOf}
use Rattle.fw_status.proofs.Told.{Behind}
use Rattle.fw_status.proofs.page.append_lines.Given as goal

abbrev pub invariant-loop-row : goal.invariant-loop-row
invariant-loop-row l = Behind (IsLineOf l.state) (take l.row-index l.rows) (string_bytes l.initial.text) (string_bytes l.text)
