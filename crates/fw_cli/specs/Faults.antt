-- Public vocabulary: which faults come before a command reads or writes anything, and which counters the options of a daemon want.
use Rattle.std.specs.Prelude.{◌≡◌, Option, None, Some, IsTrue, false}
use Rattle.fw_faults.specs.declared.fault.Fault.{Fault}
use Rattle.fw_faults.specs.declared.fault.Fault.TheVariants.{BadSetup, StoreFault, Device, BadFile, BadHeader, BadImage, BadLine, BadCapture, Output}
use Rattle.fw_host.specs.declared.sealing.SealingOptions.{SealingOptions}

-- the faults that come before anything is read
abbrev pub ComesBeforeInput : Fault → Type 0
ComesBeforeInput BadSetup = Unit {0}
ComesBeforeInput StoreFault = Unit {0}
ComesBeforeInput Device = Unit {0}
ComesBeforeInput BadFile = Unit {0}
ComesBeforeInput BadHeader = Unit {0}
ComesBeforeInput BadImage = Unit {0}
ComesBeforeInput fault = ⊥

-- the faults that come before anything is written
abbrev pub ComesBeforeOutput : Fault → Type 0
ComesBeforeOutput (BadLine number) = ⊥
ComesBeforeOutput (BadCapture error) = ⊥
ComesBeforeOutput Output = ⊥
ComesBeforeOutput fault = Unit {0}

-- ---- sealed links

-- keys are given, and new counters are made, or those that are there are gone on with
abbrev pub MakesCounter : Option SealingOptions → Type 0
MakesCounter None = ⊥
MakesCounter (Some sealing) = IsTrue sealing.makes_counter

abbrev pub FindsCounter : Option SealingOptions → Type 0
FindsCounter None = ⊥
FindsCounter (Some sealing) = sealing.makes_counter ≡ false
