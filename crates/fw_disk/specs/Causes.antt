-- Public vocabulary: which causes the system gives.
use Rattle.fw_disk.specs.declared.cause.Cause.{Cause}
use Rattle.fw_disk.specs.declared.cause.Cause.TheVariants.{NotAlone, Foreign}
use Rattle.fw_disk.specs.declared.cause.NamingError.{NamingError}
use Rattle.fw_disk.specs.declared.cause.NamingError.TheVariants.{NotNamed, NotSynced}

-- a call of the system failed: it is no refusal of a file that isn't ours
abbrev pub IsOfSystem : Cause → Type 0
IsOfSystem NotAlone = ⊥
IsOfSystem Foreign = ⊥
IsOfSystem _ = Unit {0}

-- why a file hasn't got its name for good
abbrev pub cause_of : NamingError → Cause
cause_of (NotNamed cause) = cause
cause_of (NotSynced cause) = cause
