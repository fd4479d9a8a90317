-- Public vocabulary: who is a stranger to a daemon: who has none of the addresses that it is asked or answered from.
use Rattle.std.specs.Prelude.{◌≡◌, ◌==◌, ◌||◌, Bool, false, not, List, length, Option, Some, None}
use Rattle.std.specs.List.{list_any}
use Rattle.std.specs.HashSet.{HashSet, contains}
use Rattle.std.specs.declared.net.socket_addr.SocketAddr.{SocketAddr}
use Rattle.std.specs.contracts.net.socket_addr.SocketAddrPartialEq.TheImpl as socket_eq
use Rattle.fw_rollout.specs.declared.link.Listed.{Listed}

-- whether an address is among these, or that of one of these meters
abbrev pub is_among : List SocketAddr → SocketAddr → Bool
is_among addresses address = list_any (λ (other : SocketAddr). socket_eq.ghosts.eq other address) addresses

abbrev pub is_listed_at : List Listed → SocketAddr → Bool
is_listed_at list address = list_any (λ (at : Listed). socket_eq.ghosts.eq at.address address) list

-- whether who has an address is a stranger to a meter that these may ask, and anybody if there are none
abbrev pub is_strange : List SocketAddr → SocketAddr → Bool
is_strange heads address = not (length heads == 0 || is_among heads address)

-- a set has just these addresses, or those of just these meters
abbrev pub AreAddresses : {S : Type 0} → HashSet SocketAddr S → List SocketAddr → Type 0
AreAddresses known addresses = (address : SocketAddr) → contains socket_eq.ghosts.eq known address ≡ is_among addresses address

abbrev pub AreAddressesOf : {S : Type 0} → HashSet SocketAddr S → List Listed → Type 0
AreAddressesOf known list = (address : SocketAddr) → contains socket_eq.ghosts.eq known address ≡ is_listed_at list address

-- whether who has an address is a stranger where these are known
abbrev pub is_stranger : {S : Type 0} → Option (HashSet SocketAddr S) → SocketAddr → Bool
is_stranger None address = false
is_stranger (Some known) address = not (contains socket_eq.ghosts.eq known address)
