-- For private clauses alone: the links that a meter and a head end are served over, where their options give keys, and their counters.
use Rattle.std.specs.Prelude.{◌≡◌, ℕ, List, Option, None, Some, IsTrue, is_some}
use Rattle.std.specs.Option.{option_map}
use Rattle.std.specs.declared.net.socket_addr.SocketAddr.{SocketAddr}
use Rattle.fw_host.specs.Sealings.{HasHeadLinks, HasMeterLinks}
use Rattle.fw_host.specs.declared.error.CounterFileError.{CounterFileError}
use Rattle.fw_host.specs.declared.error.CounterFileError.TheVariants as old_counter
use Rattle.fw_host.specs.declared.error.NewCounterError.{NewCounterError}
use Rattle.fw_host.specs.declared.error.NewCounterError.TheVariants as new_counter
use Rattle.fw_host.specs.declared.sealing.Sealing.{Sealing}
use Rattle.fw_host.specs.declared.sealing.SealingOptions.{SealingOptions}
use Rattle.fw_rollout.specs.declared.link.Listed.{Listed}
use Rattle.fw_sealport.specs.declared.links.Links.{Links}
use Rattle.fw_cli.specs.Faults.{FindsCounter, MakesCounter}
use Rattle.fw_cli.specs.declared.error.SealingError.{SealingError}
use Rattle.fw_cli.specs.declared.error.SealingError.TheVariants.{NoCounter, CounterExists, CounterLocked, CounterFault, OutOfMemory}
use Rattle.fw_cli.specs.declared.sealing.JudgedSealing.{JudgedSealing}
use Rattle.fw_cli.specs.declared.sealing.JudgedSealing.TheVariants.{Plain, Found, New}
use Rattle.fw_cli.specs.declared.sealing.Keyed.{Keyed}

-- A meter without keys has no links. With keys it has, at its own address, those of a file that the order of its counters goes with.
abbrev pub IsMeterSealing : SocketAddr → Option SealingOptions → Option Links → Type 0
IsMeterSealing own None links = links ≡ None
IsMeterSealing own (Some options) links = (them : Links) × (links ≡ Some them) × HasMeterLinks own options.order them

-- So it is with the head end of this number, with the meters of its list.
abbrev pub IsHeadSealing : Option SealingOptions → ℕ → List Listed → Option Links → Type 0
IsHeadSealing None head list links = links ≡ None
IsHeadSealing (Some options) head list links = (them : Links) × (links ≡ Some them) × HasHeadLinks options.order head list them

-- ---- before files are made, and then

abbrev pub options_of : Option Keyed → Option SealingOptions
options_of keyed = option_map (λ (k : Keyed). k.options) keyed

abbrev pub links_of : Option Keyed → Option Links
links_of keyed = option_map (λ (k : Keyed). k.links) keyed

abbrev pub links_judged : JudgedSealing → Option Links
links_judged Plain = None
links_judged (Found sealing) = Some sealing.links
links_judged (New keyed) = Some keyed.links

abbrev pub links_in : Option Sealing → Option Links
links_in sealing = option_map (λ (s : Sealing). s.links) sealing

-- the file of the counters is to be made
abbrev pub AreMade : JudgedSealing → Type 0
AreMade (New keyed) = Unit {0}
AreMade judged = ⊥

-- what is of counters comes where keys are given, and these counters are wanted
abbrev pub IsKeyed : Option SealingOptions → SealingError → Type 0
IsKeyed options NoCounter = FindsCounter options
IsKeyed options CounterExists = MakesCounter options
IsKeyed options CounterLocked = IsTrue (is_some options)
IsKeyed options CounterFault = IsTrue (is_some options)
IsKeyed options OutOfMemory = Unit {0}

-- why there are no counters, if they are to be made, or to be there
abbrev pub sealing_of_new : NewCounterError → SealingError
sealing_of_new new_counter.CounterExists = CounterExists
sealing_of_new new_counter.CounterLocked = CounterLocked
sealing_of_new new_counter.CounterFault = CounterFault
sealing_of_new new_counter.OutOfMemory = OutOfMemory

abbrev pub sealing_of_old : CounterFileError → SealingError
sealing_of_old old_counter.NoCounter = NoCounter
sealing_of_old old_counter.CounterLocked = CounterLocked
sealing_of_old old_counter.CounterFault = CounterFault
sealing_of_old old_counter.OutOfMemory = OutOfMemory
