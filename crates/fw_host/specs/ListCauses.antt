-- Public vocabulary: why a text is no list of meters.
use Rattle.std.specs.Prelude.{◌≡◌, ◌≢◌, ◌⊎◌, ℕ, ◌<◌, ◌≤◌, ◌^◌, List, ◌∷◌, ◌++◌, Some, Contains, IsUtf8, length}
use Rattle.std.specs.declared.net.socket_addr.SocketAddr.{SocketAddr}
use Rattle.std.specs.Net.Addr.{is_ipv4}
use Rattle.std.specs.Net.Grammar.{IsSocketText}
use Rattle.std.specs.Net.Socket.{socket_ip, socket_port}
use Rattle.csv.specs.Reading.{AreRecords, default_config, strip_bom}
use Rattle.csv.specs.Records.{field_at}
use Rattle.csv.specs.declared.parser.State.TheVariants as state
use Rattle.fw_rollout.specs.Daemon.{IsList}
use Rattle.fw_rollout.specs.declared.link.Listed.{Listed}
use Rattle.fw_host.specs.declared.list_cause.ListCause.{ListCause}
use Rattle.fw_host.specs.declared.list_cause.ListCause.TheVariants as cause
use Rattle.fw_host.specs.declared.wave_list.Planned.{Planned}
use Rattle.fw_host.specs.Lists.{IsHost, IsNoAddress, SpellsAll, SpellsNumber, SpellsPlanned}
use Rattle.fw_host.specs.Waves.{listed_in}

-- the field at this index is there, and this holds of it
pub record HasField (fields : List (List ℕ)) (at : ℕ) (P : List ℕ → Type 0) : Type 0 where
  pub field : List ℕ
  pub is : field_at fields at ≡ Some field
  pub holds : P field

-- two fields and three are right
abbrev pub RefusesCount : List (List ℕ) → ListCause → Type 0
RefusesCount fields cause.OneField = length fields < 2
RefusesCount fields cause.MoreFields = 3 < length fields
RefusesCount fields other = ⊥

-- it is no number of a meter, or one of 64 bits that is too large for one
abbrev pub RefusesNumber : List ℕ → ListCause → Type 0
RefusesNumber field cause.NoText = ¬ IsUtf8 field
RefusesNumber field cause.NoNumber = (number : ℕ) → ¬ SpellsNumber 32 field number
RefusesNumber field cause.NumberTooLarge = (number : ℕ) × SpellsNumber 64 field number × (2 ^ 32 ≤ number)
RefusesNumber field other = ⊥

abbrev pub RefusesWave : List ℕ → ListCause → Type 0
RefusesWave field cause.NoText = ¬ IsUtf8 field
RefusesWave field cause.NoWave = (wave : ℕ) → ¬ SpellsNumber 8 field wave
RefusesWave field other = ⊥

-- It spells no address. Of what the system has for the name of a host nothing is known.
abbrev pub SpellsNone : List ℕ → ListCause → Type 0
SpellsNone field cause.NoText = ¬ IsUtf8 field
SpellsNone field cause.NoAddress = IsNoAddress field
SpellsNone field cause.UnknownHost = IsNoAddress field
SpellsNone field other = ⊥

-- a head end at its own address can't ask at the other one
abbrev pub CantBeAsked : SocketAddr → SocketAddr → ListCause → Type 0
CantBeAsked own address cause.NoPort = socket_port address ≡ 0
CantBeAsked own address cause.OtherFamily = is_ipv4 (socket_ip address) ≢ is_ipv4 (socket_ip own)
CantBeAsked own address cause.NoHost = ¬ IsHost (socket_ip address)
CantBeAsked own address other = ⊥

-- it spells no address, or one that can't be asked
abbrev pub RefusesAddress : SocketAddr → List ℕ → ListCause → Type 0
RefusesAddress own field cause = SpellsNone field cause ⊎ ((address : SocketAddr) × IsSocketText field address × CantBeAsked own address cause)

-- a record of which the number of fields, or one of them, is refused
abbrev pub RefusesFields : SocketAddr → List (List ℕ) → ListCause → Type 0
RefusesFields own fields cause =
    RefusesCount fields cause
    ⊎ (HasField fields 0 (λ field. RefusesNumber field cause)
    ⊎ (HasField fields 1 (λ field. RefusesAddress own field cause)
    ⊎ HasField fields 2 (λ field. RefusesWave field cause)))

-- one of these meters has this number, and one this address
abbrev pub HasNumber : List Listed → ℕ → Type 0
HasNumber list meter = (other : Listed) × Contains list other × (other.meter ≡ meter)

abbrev pub HasAddress : List Listed → SocketAddr → Type 0
HasAddress list address = (other : Listed) × Contains list other × (other.address ≡ address)

abbrev pub StandsIn : List Listed → Listed → ListCause → Type 0
StandsIn list at (cause.NumberTwice line) = HasNumber list at.meter
StandsIn list at (cause.AddressTwice line) = HasAddress list at.address
StandsIn list at other = ⊥

-- the meter of a record has a number or an address that stands in the list
abbrev pub StandsTwice : SocketAddr → List Planned → List (List ℕ) → ListCause → Type 0
StandsTwice own list fields cause = (planned : Planned) × SpellsPlanned own fields planned × StandsIn (listed_in list) planned.at cause

-- why a record can't follow those of a list
abbrev pub Explains : SocketAddr → List Planned → List (List ℕ) → ListCause → Type 0
Explains own list fields cause = RefusesFields own fields cause ⊎ StandsTwice own list fields cause

-- A record of the text isn't taken for this cause. Those before it are a list for a head end at its own address.
pub record HasCause (own : SocketAddr) (text : List ℕ) (cause : ListCause) : Type 0 where
  pub before : List (List (List ℕ))
  pub bad : List (List ℕ)
  pub rest : List (List (List ℕ))
  pub are : AreRecords default_config state.StartRecord (strip_bom text) (before ++ bad ∷ rest)
  pub list : List Planned
  pub spells : SpellsAll own before list
  pub once : IsList (listed_in list)
  pub explains : Explains own list bad cause
