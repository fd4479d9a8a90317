-- Public vocabulary: what a port in memory lets through.
use Rattle.std.specs.Prelude.{◌≡◌, List}
use Rattle.fw_rollout.specs.Acts.{Act}
use Rattle.fw_rollout.specs.Leading.{Leader, Leading, Step, acts_of}

-- this is what some head end does
abbrev pub IsOfSome : List Act → Type 0
IsOfSome done = (start : Leader) × (steps : List Step) × (now : Leader) × Leading start steps now × (done ≡ acts_of steps)
