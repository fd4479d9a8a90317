use Rattle.std.proofs.Common.{take}
use Rattle.fw_keys.specs.Links.{HasNoEnd}
use Rattle.fw_keys.proofs.file.find.Given as goal

-- none so far is with the end of this name
abbrev pub invariant-loop-entry : goal.invariant-loop-entry
invariant-loop-entry g l = HasNoEnd (take l.entry-index l.entries) l.end
