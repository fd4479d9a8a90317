-- Public vocabulary: lists of meters with their waves, as comma-separated values (RFC 4180) without a header line.
use Rattle.std.specs.Prelude.{◌≡◌, ◌≢◌, ◌⊎◌, ℕ, ◌<◌, ◌^◌, List, [], ◌∷◌, ◌++◌}
use Rattle.std.specs.Str.Parse.{IsNumeral, digits_value, without_leading_plus}
use Rattle.std.specs.declared.net.ip_addr.IpAddr.{IpAddr}
use Rattle.std.specs.declared.net.ip_addr.IpAddr.TheVariants as ip
use Rattle.std.specs.declared.net.socket_addr.SocketAddr.{SocketAddr}
use Rattle.std.specs.Net.Addr.{IsMulticastV4, IsMulticastV6, IsUnspecifiedV4, IsUnspecifiedV6, ipv4_octets, is_ipv4}
use Rattle.std.specs.Net.Grammar.{IsSocketText}
use Rattle.std.specs.Net.Socket.{socket_ip, socket_port}
use Rattle.csv.specs.Reading.{AreRecords, default_config, strip_bom}
use Rattle.csv.specs.Records.{AllText}
use Rattle.csv.specs.declared.parser.State.TheVariants as state
use Rattle.fw_rollout.specs.Daemon.{IsList}
use Rattle.fw_host.specs.declared.wave_list.Planned.{Planned}
use Rattle.fw_host.specs.Waves.{listed_in}

-- a decimal number of so many bits, behind a plus or not
pub record SpellsNumber (bits : ℕ) (text : List ℕ) (number : ℕ) : Type 0 where
  pub numeral : IsNumeral 10 (without_leading_plus text)
  pub value : number ≡ digits_value 10 (without_leading_plus text)
  pub fits : number < 2 ^ bits

-- a text that spells no address, as the name of a host doesn't
abbrev pub IsNoAddress : List ℕ → Type 0
IsNoAddress text = (address : SocketAddr) → ¬ IsSocketText text address

-- The address that a text spells. A text that spells none may be the name of a host, and of the address that the system has for it nothing
-- is known.
abbrev pub IsAddressOf : List ℕ → SocketAddr → Type 0
IsAddressOf text address = IsSocketText text address ⊎ IsNoAddress text

-- the address of one host: neither unspecified, multicast nor the limited broadcast (RFC 1122, 3.2.1.3; RFC 4291, 2.5.2 and 2.7)
abbrev pub IsHost : IpAddr → Type 0
IsHost (ip.V4 a) = (¬ IsUnspecifiedV4 a) × (¬ IsMulticastV4 a) × (ipv4_octets a ≢ 255 ∷ 255 ∷ 255 ∷ 255 ∷ [])
IsHost (ip.V6 a) = (¬ IsUnspecifiedV6 a) × (¬ IsMulticastV6 a)

-- a head end at its own address can ask a meter at the other one: it is a host's, of the same family, and its port isn't 0
pub record CanBeAsked (own address : SocketAddr) : Type 0 where
  pub port : socket_port address ≢ 0
  pub family : is_ipv4 (socket_ip address) ≡ is_ipv4 (socket_ip own)
  pub host : IsHost (socket_ip address)

-- the fields behind an address: none in the first wave, or one with the number of the wave, of 8 bits
abbrev pub SpellsWave : List (List ℕ) → ℕ → Type 0
SpellsWave [] wave = wave ≡ 0
SpellsWave (field ∷ []) wave = SpellsNumber 8 field wave
SpellsWave (field ∷ other ∷ fields) wave = ⊥

-- The fields of a line, in UTF-8: the number of a meter, of 32 bits, the text of its address, at which a head end at its own address can ask
-- it, and its wave, which may be left out if it is the first one.
pub record SpellsPlanned (own : SocketAddr) (fields : List (List ℕ)) (planned : Planned) : Type 0 where
  pub number : List ℕ
  pub address : List ℕ
  pub rest : List (List ℕ)
  pub are : fields ≡ number ∷ address ∷ rest
  pub text : AllText fields
  pub is_number : SpellsNumber 32 number planned.at.meter
  pub is_address : IsAddressOf address planned.at.address
  pub is_asked : CanBeAsked own planned.at.address
  pub is_wave : SpellsWave rest planned.wave

-- two fields, of which the second spells no address, and perhaps a wave behind them
pub record NamesHost (fields : List (List ℕ)) : Type 0 where
  pub number : List ℕ
  pub address : List ℕ
  pub rest : List (List ℕ)
  pub wave : ℕ
  pub are : fields ≡ number ∷ address ∷ rest
  pub named : IsNoAddress address
  pub is_wave : SpellsWave rest wave

-- each record of the text has a meter, its address, and its wave
abbrev pub SpellsAll : SocketAddr → List (List (List ℕ)) → List Planned → Type 0
SpellsAll own [] [] = Unit {0}
SpellsAll own [] (planned ∷ list) = ⊥
SpellsAll own (fields ∷ records) [] = ⊥
SpellsAll own (fields ∷ records) (planned ∷ list) = SpellsPlanned own fields planned × SpellsAll own records list

-- the text is a list of these meters for a head end at its own address, each number and each address once
pub record SpellsList (own : SocketAddr) (text : List ℕ) (list : List Planned) : Type 0 where
  pub records : List (List (List ℕ))
  pub are : AreRecords default_config state.StartRecord (strip_bom text) records
  pub spells : SpellsAll own records list
  pub once : IsList (listed_in list)

-- A record of the text is the first with which they are no list: it spells no meter that can be asked, or one whose number or address an
-- earlier one has. Or it names a host, of which the system may have no address that can be asked, or one that an earlier record has.
pub record IsNoList (own : SocketAddr) (text : List ℕ) : Type 0 where
  pub before : List (List (List ℕ))
  pub bad : List (List ℕ)
  pub rest : List (List (List ℕ))
  pub are : AreRecords default_config state.StartRecord (strip_bom text) (before ++ bad ∷ rest)
  pub list : List Planned
  pub spells : SpellsAll own before list
  pub once : IsList (listed_in list)
  pub none : NamesHost bad ⊎ ((planned : Planned) → SpellsPlanned own bad planned → ¬ IsList (listed_in (list ++ planned ∷ [])))
