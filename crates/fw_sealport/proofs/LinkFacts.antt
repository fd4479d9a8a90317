-- What is let through of what came from a peer, and how the links are then.
use Rattle.std.proofs.Common.{◌≡◌, ℕ, Bool, true, false, cond, List, [], ◌∷◌, Option, Some, IsSome, option_map, refl, sym, subst, ap, ◌∙◌}
use Rattle.std.specs.HashMap.{WritesThrough}
use Rattle.std.specs.Map.{lookup, set_value}
use Rattle.std.proofs.lemmas.Map.Steps.{set_value_same}
use Rattle.std.specs.declared.net.socket_addr.SocketAddr.{SocketAddr}
use Rattle.std.specs.contracts.net.socket_addr.SocketAddrPartialEq.TheImpl as socket_eq
use Rattle.fw_seal.specs.Refusal.{IfRefused}
use Rattle.fw_seal.specs.Sealing.{Ends}
use Rattle.fw_seal.specs.declared.error.OpenError.{OpenError}
use Rattle.fw_seal.specs.declared.error.OpenError.TheVariants as opening
use Rattle.fw_sealport.specs.Counts.{opening_error}
use Rattle.fw_sealport.specs.Peers.{LetsThrough, LetsThroughFrom, Refuses, SamePeers, peer_at}
use Rattle.fw_sealport.specs.Sealed.{MayOpen, OpensNot}
use Rattle.fw_sealport.specs.Windows.{width_of}
use Rattle.fw_sealport.specs.declared.links.Links.{Links}
use Rattle.fw_sealport.specs.declared.peer.Peer.{Peer}

pub peer_refuses : (width : ℕ) (peer : Peer) (wire : List ℕ) (error : OpenError) → IfRefused error (OpensNot peer.link.keys peer.link.other wire) (MayOpen wire)
    → Refuses width peer wire (opening_error error)
peer_refuses width peer wire opening.NotSealed none = none
peer_refuses width peer wire opening.OutOfMemory form = form

-- ---- a peer is written over by one with the same link

abbrev link_of : Peer → Ends
link_of peer = peer.link

some_is : (x y : Peer) → Some x ≡ Some y → x ≡ y
some_is x y e = cc

at_head : (here : Bool) (x y : Peer) (rest : Option Peer) → x.link ≡ y.link → option_map link_of (cond here (Some x) rest) ≡ option_map link_of (cond here (Some y) rest)
at_head true x y rest e = ap (λ (l : Ends). Some l) e
at_head false x y rest e = refl

behind : (here : Bool) (x : Peer) (old new : Option Peer) → option_map link_of new ≡ option_map link_of old
    → option_map link_of (cond here (Some x) new) ≡ option_map link_of (cond here (Some x) old)
behind true x old new e = refl
behind false x old new e = e

links_step : (test : SocketAddr → Bool) (e : SocketAddr × Peer) (old new : List (SocketAddr × Peer)) (before after : Peer) (found : Option Peer) (here : Bool)
    → cond here (Some e.1) found ≡ Some before → after.link ≡ before.link
    → (found ≡ Some before → option_map link_of (lookup test new) ≡ option_map link_of (lookup test old))
    → option_map link_of (lookup test (cond here ((e.0, after) ∷ old) (e ∷ new))) ≡ option_map link_of (lookup test (e ∷ old))
links_step test e old new before after found true is same rest = at_head (test e.0) after e.1 (lookup test old) (same ∙ sym (ap link_of (some_is e.1 before is)))
links_step test e old new before after found false is same rest = behind (test e.0) e.1 (lookup test old) (lookup test new) (rest is)

same_links : (at test : SocketAddr → Bool) (es : List (SocketAddr × Peer)) (before after : Peer) → lookup at es ≡ Some before → after.link ≡ before.link
    → option_map link_of (lookup test (set_value at es after)) ≡ option_map link_of (lookup test es)
same_links at test [] before after found same = refl
same_links at test (e ∷ es) before after found same =
    links_step test e es (set_value at es after) before after (lookup at es) (at e.0) found same (λ there. same_links at test es before after there same)

-- the peer that has an address is written through
module _ (old new : Links) (from : SocketAddr) (before after : Peer) (there : peer_at old from ≡ Some before)
    (written : WritesThrough socket_eq.ghosts.eq (socket_eq.ghosts.eq from) old.peers after new.peers) where
  pub lets_from : (wire plain : List ℕ) → LetsThrough (width_of old.order) before wire plain after → LetsThroughFrom old from wire plain new
  lets_from wire plain lets =
      let updates = written.3 (subst (λ (o : Option Peer). IsSome o) (sym there) refl) in
      record {
        before = before;
        after = after;
        there = there;
        lets = lets;
        now = updates.1;
        others = λ other apart. updates.2 other apart;
        links = λ address.
            ap (λ (es : List (SocketAddr × Peer)). option_map link_of (lookup (socket_eq.ghosts.eq address) es)) written.0
            ∙ same_links (socket_eq.ghosts.eq from) (socket_eq.ghosts.eq address) old.peers.entries before after there lets.link;
      }

  -- with what it was
  pub same_peers : after ≡ before → SamePeers old new
  same_peers same address =
      let entries = written.0 ∙ set_value_same (socket_eq.ghosts.eq from) old.peers.entries after (there ∙ ap (λ (p : Peer). Some p) (sym same)) in
      ap (λ (es : List (SocketAddr × Peer)). lookup (socket_eq.ghosts.eq address) es) entries
