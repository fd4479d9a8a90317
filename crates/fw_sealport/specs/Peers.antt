-- Public vocabulary: the other ends of a port's links, and what is let through of what comes from one of them.
use Rattle.std.specs.Prelude.{◌≡◌, ℕ, List, [], ◌∷◌, Option, Some, MatchOption, false}
use Rattle.std.specs.HashMap.{get}
use Rattle.std.specs.Option.{option_map}
use Rattle.std.specs.declared.net.socket_addr.SocketAddr.{SocketAddr}
use Rattle.std.specs.contracts.net.socket_addr.SocketAddrPartialEq.TheImpl as socket_eq
use Rattle.fw_seal.specs.Sealing.{Ends}
use Rattle.fw_sealport.specs.Sealed.{MayOpen, Opens, OpensNot, SealsPlain, plain_of}
use Rattle.fw_sealport.specs.Windows.{IsNew, Remembers, width_of}
use Rattle.fw_sealport.specs.declared.dropped.Unopened.{Unopened}
use Rattle.fw_sealport.specs.declared.dropped.Unopened.TheVariants.{Stranger, NotSealed, Repeated, OutOfMemory}
use Rattle.fw_sealport.specs.declared.links.Links.{Links}
use Rattle.fw_sealport.specs.declared.peer.Peer.{Peer}

-- Of a datagram that came from a peer this is let through: the plain datagram of what the peer sealed, with a counter that is new, and isn't
-- from then on.
pub record LetsThrough (width : ℕ) (old : Peer) (wire plain : List ℕ) (new : Peer) : Type 0 where
  pub counter : ℕ
  pub apdu : List ℕ
  pub opens : Opens old.link.keys old.link.other counter apdu wire
  pub plain_is : plain ≡ plain_of apdu
  pub is_new : (seen : List ℕ) → Remembers old.window seen → IsNew width seen counter
  pub remembers : (seen : List ℕ) → Remembers old.window seen → Remembers new.window (counter ∷ seen)
  pub link : new.link ≡ old.link

-- the peer sealed what came, with a counter that isn't new
pub record Repeats (width : ℕ) (peer : Peer) (wire : List ℕ) : Type 0 where
  pub counter : ℕ
  pub apdu : List ℕ
  pub opens : Opens peer.link.keys peer.link.other counter apdu wire
  pub not_new : (seen : List ℕ) → Remembers peer.window seen → ¬ IsNew width seen counter

-- why nothing is let through of what came from a peer
abbrev pub Refuses : ℕ → Peer → List ℕ → Unopened → Type 0
Refuses width peer wire Stranger = ⊥
Refuses width peer wire NotSealed = OpensNot peer.link.keys peer.link.other wire
Refuses width peer wire Repeated = Repeats width peer wire
Refuses width peer wire OutOfMemory = MayOpen wire

-- ---- the links of a port

-- the peer that has an address, and the link with it
abbrev pub peer_at : Links → SocketAddr → Option Peer
peer_at links address = get socket_eq.ghosts.eq links.peers address

abbrev pub link_at : Links → SocketAddr → Option Ends
link_at links address = option_map (λ (peer : Peer). peer.link) (peer_at links address)

-- no address has another link than before
abbrev pub SameLinks : Links → Links → Type 0
SameLinks old new = (address : SocketAddr) → link_at new address ≡ link_at old address

-- The same of what came from an address, which is only a claim: the peer with that address, and no other, has it sealed.
pub record LetsThroughFrom (old : Links) (from : SocketAddr) (wire plain : List ℕ) (new : Links) : Type 0 where
  pub before : Peer
  pub after : Peer
  pub there : peer_at old from ≡ Some before
  pub lets : LetsThrough (width_of old.order) before wire plain after
  pub now : peer_at new from ≡ Some after
  pub others : (other : SocketAddr) → socket_eq.ghosts.eq from other ≡ false → peer_at new other ≡ peer_at old other
  pub links : SameLinks old new

-- who has no such address is a stranger, and nothing of his is let through
abbrev pub RefusesFrom : Links → SocketAddr → List ℕ → Unopened → Type 0
RefusesFrom links from wire reason =
    MatchOption (peer_at links from) (reason ≡ Stranger) (λ peer. Refuses (width_of links.order) peer wire reason)

-- all peers are as before
abbrev pub SamePeers : Links → Links → Type 0
SamePeers old new = (address : SocketAddr) → peer_at new address ≡ peer_at old address

-- a link is there at an address, of which nothing came yet, and the others as before
pub record Adds (old : Links) (at : SocketAddr) (ends : Ends) (new : Links) : Type 0 where
  pub peer : Peer
  pub there : peer_at new at ≡ Some peer
  pub link : peer.link ≡ ends
  pub none_came : Remembers peer.window []
  pub others : (other : SocketAddr) → socket_eq.ghosts.eq at other ≡ false → peer_at new other ≡ peer_at old other
  pub order : new.order ≡ old.order

-- These bytes are what an end sends to an address: under the link of that, with some counter, in place of some plain datagram.
pub record IsSealedFor (links : Links) (to : SocketAddr) (wire : List ℕ) : Type 0 where
  pub ends : Ends
  pub there : link_at links to ≡ Some ends
  pub counter : ℕ
  pub datagram : List ℕ
  pub seals : SealsPlain ends counter datagram wire
