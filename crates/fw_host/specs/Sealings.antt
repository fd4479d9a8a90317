-- Public vocabulary: the links and the counter of a daemon whose datagrams are sealed, from its files.
use Rattle.std.specs.Prelude.{◌≡◌, ℕ, ◌++◌, List, ◌∷◌, [], All, Contains, MatchOption}
use Rattle.std.specs.Net.Addr.{MatchIp, embedded_segments, ipv6_segments}
use Rattle.std.specs.Net.Socket.{IsPlainSocket, socket_ip, v4_ip, v4_port}
use Rattle.std.specs.declared.net.socket_addr.SocketAddr.{SocketAddr}
use Rattle.std.specs.declared.net.socket_addr.SocketAddr.TheVariants as socket
use Rattle.std.specs.declared.net.socket_addr.SocketAddrV4.{SocketAddrV4}
use Rattle.fw_counter.specs.Reserved.{Reserves}
use Rattle.fw_keys.specs.declared.entry.Entry.{Entry}
use Rattle.fw_keys.specs.KeyFiles.{SpellsHeadKeys, SpellsMeterKeys}
use Rattle.fw_keys.specs.Links.{Links as KeyLinks, HasNoEnd, ends_of}
use Rattle.fw_rollout.specs.declared.link.Listed.{Listed}
use Rattle.fw_sealport.specs.Peers.{peer_at}
use Rattle.fw_sealport.specs.Windows.{Remembers}
use Rattle.fw_sealport.specs.declared.links.Links.{Links}
use Rattle.fw_sealport.specs.declared.peer.Peer.{Peer}
use Rattle.fw_sealport.specs.declared.window.Order.{Order}

-- ---- links

-- The peer of an end of this name, as a key file has its link. Nothing came from it yet.
pub record IsPeerOf {N : Type 0} (file : KeyLinks N) (end : N) (peer : Peer) : Type 0 where
  pub entry : Entry N
  pub within : Contains file.entries entry
  pub named : entry.end ≡ end
  pub link : peer.link ≡ ends_of file.own entry.keys
  pub none_came : Remembers peer.window []

-- one of these links is with the end of this name
abbrev pub HasLink : {N : Type 0} → List (Entry N) → N → Type 0
HasLink {N} entries end = (entry : Entry N) × Contains entries entry × (entry.end ≡ end)

-- Links with just the ends that have an address, each at its address and as a key file has it. What comes is taken in this order.
pub record AreLinksOf {N : Type 0} (order : Order) (file : KeyLinks N) (HasAddress : N → SocketAddr → Type 0) (links : Links) : Type 0 where
  pub order_is : links.order ≡ order
  pub peers : (address : SocketAddr) → MatchOption (peer_at links address) ((end : N) → ¬ HasAddress end address)
      (λ peer. (end : N) × HasAddress end address × IsPeerOf file end peer)

-- the list has the meter of this number at this address
abbrev pub IsListedAt : List Listed → ℕ → SocketAddr → Type 0
IsListedAt list meter address = Contains list (record { meter = meter; address = address })

-- this address is an IPv4 one as IPv6 has it: IPv4-mapped (RFC 4291, 2.5.5.2)
pub record IsMapped (v4 : SocketAddrV4) (address : SocketAddr) : Type 0 where
  pub ip : MatchIp (socket_ip address) (λ _. ⊥) (λ ip. ipv6_segments ip ≡ embedded_segments 0xffff (v4_ip v4))
  pub plain : IsPlainSocket address (v4_port v4)

-- what comes from an end shows this address to a socket at its own one
abbrev pub Shows : SocketAddr → SocketAddr → SocketAddr → Type 0
Shows (socket.V6 own) (socket.V4 end) address = IsMapped end address
Shows own end address = address ≡ end

-- one of these links is with the head end of this name, which shows this address to a meter at its own one
abbrev pub IsNamed : SocketAddr → List (Entry SocketAddr) → SocketAddr → SocketAddr → Type 0
IsNamed own entries end address = Shows own end address × HasLink entries end

-- the links of a head end with just the meters of a list, as a text spells them
pub record HasHeadLinks (order : Order) (head : ℕ) (list : List Listed) (links : Links) : Type 0 where
  pub text : List ℕ
  pub file : KeyLinks ℕ
  pub spells : SpellsHeadKeys text head file
  pub are : AreLinksOf order file (IsListedAt list) links

-- the links of a meter at its own address with all head ends that a text has
pub record HasMeterLinks (own : SocketAddr) (order : Order) (links : Links) : Type 0 where
  pub text : List ℕ
  pub file : KeyLinks SocketAddr
  pub spells : SpellsMeterKeys text file
  pub are : AreLinksOf order file (IsNamed own file.entries) links

-- this meter is the first of a list with which a key file has no link
pub record IsFirstWithout (file : KeyLinks ℕ) (list : List Listed) (meter : ℕ) : Type 0 where
  pub before : List Listed
  pub at : Listed
  pub behind : List Listed
  pub are : list ≡ before ++ at ∷ behind
  pub is_meter : meter ≡ at.meter
  pub none : HasNoEnd file.entries at.meter
  pub others : All (λ (other : Listed). HasLink file.entries other.meter) before

-- the key file of a head end is there, and this meter of its list is the first that it has no link with
abbrev pub LacksKey : ℕ → List Listed → ℕ → Type 0
LacksKey head list meter = (text : List ℕ) × (file : KeyLinks ℕ) × SpellsHeadKeys text head file × IsFirstWithout file list meter

-- ---- counters

-- every power cut leaves a counter of which nothing is reserved
abbrev pub LeavesNewCounter : {D : Type 0} → (D → List ℕ → Type 0) → D → Type 0
LeavesNewCounter may_leave device = (left : List ℕ) → may_leave device left → Reserves left 0
