-- Public vocabulary: a leg of a rollout, after which a head end leads no further for now.
use Rattle.std.specs.Prelude.{ℕ}
use Rattle.fw_rollout.specs.declared.daemon.HeadDaemon.{HeadDaemon}
use Rattle.fw_rollout.specs.declared.link.Listed.{Listed}
use Rattle.fw_rollout.specs.declared.serving.Leg.{Leg}
use Rattle.fw_rollout.specs.declared.serving.Leg.TheVariants.{Over, Silent}
use Rattle.fw_rollout.specs.Plans.{IsSilent}

-- what is known if all is over
abbrev pub IfOver : Leg → Type 0 → Type 0
IfOver Over known = known
IfOver (Silent at) known = Unit {0}

-- what is known if a meter is silent for too long
abbrev pub IfSilent : Leg → (Listed → Type 0) → Type 0
IfSilent Over known = Unit {0}
IfSilent (Silent at) known = known at

-- this meter of the list was silent for too long at some time
abbrev pub WasSilent : {D : Type 0} → HeadDaemon D → Listed → Type 0
WasSilent daemon at = (time : ℕ) × IsSilent daemon time at
