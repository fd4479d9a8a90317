use Rattle.std.proofs.Common.{take}
use Rattle.fw_keys.specs.Links.{HasNoKey}
use Rattle.fw_keys.proofs.file.has_key.Given as goal

-- none so far has the key
abbrev pub invariant-loop-entry : goal.invariant-loop-entry
invariant-loop-entry g l = HasNoKey (take l.entry-index l.entries) l.key
