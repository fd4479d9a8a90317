-- Public vocabulary: ports that open what comes and seal what is sent, as the daemons behind them see it.
use Rattle.std.specs.Prelude.{◌≡◌, ℕ, List, Contains}
use Rattle.std.specs.declared.net.socket_addr.SocketAddr.{SocketAddr}
use Rattle.fw_seal.specs.Sealing.{Ends}
use Rattle.fw_wrapper.specs.Wrapper.{wrapped, wport}
use Rattle.fw_port.specs.Acts.{Act, came, sent}
use Rattle.fw_daemon.specs.Acts as daemon
use Rattle.fw_rollout.specs.Leading.{IsListed, Leader, Step, sends}
use Rattle.fw_world.specs.declared.datagram.Direction.TheVariants.{ToMeter, ToHead}
use Rattle.fw_sealed.specs.Links.{Links, Opens, Seal, head_end, meter_end}

-- who is at the other end of a link: the address that the port has of him, and what this end knows of the link
pub record Peer : Type 0 where
  pub address : SocketAddr
  pub ends : Ends

-- Bytes that came, from wherever, carry a sealing by this peer, and this datagram is its APDU in plain words.
pub record OpensAs (peer : Peer) (wires : List (List ℕ)) (datagram : List ℕ) : Type 0 where
  pub wire : List ℕ
  pub there : Contains wires wire
  pub counter : ℕ
  pub apdu : List ℕ
  pub opens : Opens peer.ends.keys peer.ends.other counter apdu wire
  pub plain : datagram ≡ wrapped wport wport apdu

-- Of these bytes that came, a port let through only what opened: each datagram that came to its daemon, from the address of a peer, is the
-- APDU of a sealing by that peer.
abbrev pub OpensOnly : {Report : Type 0} → List Peer → List (List ℕ) → List (Act Report) → Type 0
OpensOnly {Report} peers wires acts =
    (from : SocketAddr) (datagram : List ℕ) → Contains acts (came from datagram)
    → (peer : Peer) × Contains peers peer × (from ≡ peer.address) × OpensAs peer wires datagram

-- the peers of a meter's port are head ends: each is at an address of one, with what the meter knows of their link
abbrev pub ArePeersOfMeter : (ℕ → List SocketAddr) → Links → ℕ → List Peer → Type 0
ArePeersOfMeter addresses links number peers =
    (peer : Peer) → Contains peers peer → (head : ℕ) × Contains (addresses head) peer.address × (peer.ends ≡ meter_end links head number)

-- the peers of a head end's port are the meters of its list: each has the address of one, with what the head end knows of their link
abbrev pub ArePeersOfHead : Links → ℕ → Leader → List Peer → Type 0
ArePeersOfHead links number leader peers =
    (peer : Peer) → Contains peers peer → (meter : ℕ) → IsListed leader meter peer.address → peer.ends ≡ head_end links number meter

-- the port of a meter sealed this, which its daemon sent to an address of that head end, and of no other
pub record IsSealedAnswer (addresses : ℕ → List SocketAddr) (number : ℕ) (acts : List daemon.Act) (s : Seal) : Type 0 where
  pub meter_is : s.meter ≡ number
  pub way : s.direction ≡ ToHead
  pub to : SocketAddr
  pub only : (head : ℕ) → Contains (addresses head) to → head ≡ s.head
  pub was_sent : Contains acts (sent to (wrapped wport wport s.apdu))

-- the port of a head end sealed this, which the head end sent to the address of that meter, and of no other
pub record IsSealedRequest (number : ℕ) (leader : Leader) (steps : List Step) (s : Seal) : Type 0 where
  pub head_is : s.head ≡ number
  pub way : s.direction ≡ ToMeter
  pub to : SocketAddr
  pub only : (meter : ℕ) → IsListed leader meter to → meter ≡ s.meter
  pub was_sent : Contains steps (sends to (wrapped wport wport s.apdu))
