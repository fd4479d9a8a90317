use Rattle.std.proofs.Common.{◌≡◌, drop, map, ◌++◌}
use Rattle.fw_world.specs.Setup.{head_entry}
use Rattle.fw_world.specs.Parts.{head_behind}
use Rattle.fw_world.proofs.opening.heads_of.Given as goal

-- what is made and what is left are the whole
abbrev pub invariant-loop-head : goal.invariant-loop-head
invariant-loop-head l = map head_behind l.made.items ++ map head_entry (drop l.head-index l.heads) ≡ map head_entry l.heads
