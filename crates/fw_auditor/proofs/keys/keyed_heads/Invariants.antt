use Rattle.std.proofs.Common.{take}
use Rattle.std.specs.List.{AllZip}
use Rattle.fw_auditor.specs.Keyed.{IsKeyFileOf}
use Rattle.fw_auditor.proofs.keys.keyed_heads.Given as goal

-- the files so far
abbrev pub invariant-loop-option : goal.invariant-loop-option
invariant-loop-option g l = AllZip IsKeyFileOf (take l.option-index l.options) l.heads.items
