-- The links of a daemon, one more beside others.
use Rattle.std.proofs.Common.{rules, ◌≡◌, ◌⊎◌, ℕ, ◌+◌, ◌<◌, Bool, true, false, List, [], ◌∷◌, ◌++◌, Option, Some, None, All, Contains, drop, take, take-append-drop, length, refl, sym, ap, subst, ◌∙◌, inl, inr, arith}
use Rattle.std.specs.Prelude.{MatchOption, slice_index_or}
use Rattle.std.specs.Net.Addr.{ipv6_segments}
use Rattle.std.specs.Net.Socket.{v6_flowinfo, v6_ip, v6_port, v6_scope_id}
use Rattle.std.specs.declared.net.socket_addr.SocketAddr.{SocketAddr}
use Rattle.std.specs.declared.net.socket_addr.SocketAddr.TheVariants as socket
use Rattle.std.specs.declared.net.socket_addr.SocketAddrV4.{SocketAddrV4}
use Rattle.std.specs.declared.net.socket_addr.SocketAddrV6.{SocketAddrV6}
use Rattle.std.specs.contracts.net.socket_addr.SocketAddrPartialEq.TheImpl as socket_eq
use Rattle.std.proofs.lemmas.Bool.{false≢true}
use Rattle.std.proofs.lemmas.List.{drop_more, take_more}
use Rattle.std.proofs.lemmas.List.Elements.{All-nil, All-push, Contains-append_left, Contains-push, Contains-push_cases}
use Rattle.fw_seal.specs.Sealing.{Ends}
use Rattle.fw_keys.specs.declared.entry.Entry.{Entry}
use Rattle.fw_keys.specs.Links.{Links as KeyLinks, HasNoEnd, ends_of}
use Rattle.fw_rollout.proofs.Placing.{equal_sockets, exact_socket}
use Rattle.fw_rollout.specs.declared.link.Listed.{Listed}
use Rattle.fw_sealport.specs.Peers.{Adds, peer_at}
use Rattle.fw_sealport.specs.declared.links.Links.{Links}
use Rattle.fw_sealport.specs.declared.peer.Peer.{Peer}
use Rattle.fw_sealport.specs.declared.window.Order.{Order}
use Rattle.fw_host.specs.Sealings.{AreLinksOf, HasLink, IsFirstWithout, IsListedAt, IsMapped, IsNamed, IsPeerOf, Shows}

-- what is said of an address, where these ends have one
abbrev At : {N : Type 0} → KeyLinks N → (N → SocketAddr → Type 0) → SocketAddr → Option Peer → Type 0
At {N} file HasAddress address o = MatchOption o ((end : N) → ¬ HasAddress end address) (λ peer. (end : N) × HasAddress end address × IsPeerOf file end peer)

-- an address of which nothing else is said
beside : {N : Type 0} (file : KeyLinks N) (Old New : N → SocketAddr → Type 0) (address : SocketAddr) (o : Option Peer) → At file Old address o
    → ((end : N) → Old end address → New end address) → ((end : N) → New end address → Old end address) → At file New address o
beside file Old New address None none on back = λ end has. none end (back end has)
beside file Old New address (Some peer) some on back = (some.0, on some.0 some.1, some.2)

itself : (x y : SocketAddr) → x ≡ y → socket_eq.ghosts.eq x y ≡ true
itself x y same = subst (λ z. socket_eq.ghosts.eq x z ≡ true) same (equal_sockets.refl x)

module _ {N : Type 0} (order : Order) (file : KeyLinks N) (Old New : N → SocketAddr → Type 0) (links more : Links) (at : SocketAddr) (ends : Ends) (entry : Entry N)
    (are : AreLinksOf order file Old links) (adds : Adds links at ends more) (within : Contains file.entries entry) (link : ends ≡ ends_of file.own entry.keys)
    (on : (end : N) (address : SocketAddr) → Old end address → New end address) (here : New entry.end at)
    (back : (end : N) (address : SocketAddr) → New end address → Old end address ⊎ (at ≡ address)) where
  at_address : (address : SocketAddr) (same : Bool) → socket_eq.ghosts.eq at address ≡ same → At file New address (peer_at more address)
  at_address address true is =
      subst (λ a. At file New a (peer_at more a)) (exact_socket at address is)
      (subst (λ o. At file New at o) (sym adds.there)
      (entry.end, here, record { entry = entry; within = within; named = refl; link = adds.link ∙ link; none_came = adds.none_came }))
  at_address address false is =
      subst (λ o. At file New address o) (sym (adds.others address is))
      (beside file Old New address (peer_at links address) (are.peers address) (λ end. on end address)
      (λ end has. elim (back end address has) [
        | inl old ↦ old
        | inr same ↦ absurd (false≢true (sym is ∙ itself at address same))
      ]))

  -- a link more, whose end is at an address now
  pub links_more : AreLinksOf order file New more
  links_more = record { order_is = adds.order ∙ are.order_is; peers = λ address. at_address address (socket_eq.ghosts.eq at address) refl }

-- no link
pub no_links : {N : Type 0} (order : Order) (file : KeyLinks N) (HasAddress : N → SocketAddr → Type 0) (links : Links) → ((address : SocketAddr) → peer_at links address ≡ None) → links.order ≡ order
    → ((end : N) (address : SocketAddr) → ¬ HasAddress end address) → AreLinksOf order file HasAddress links
no_links order file HasAddress links none is nobody = record {
  order_is = is;
  peers = λ address. subst (λ o. At file HasAddress address o) (sym (none address)) (λ end. nobody end address);
}

nothing_in : {X : Type 0} (x : X) → ¬ Contains [] x
nothing_in x has = absurd (omega (arith, has.1))

pub no_meters : (order : Order) (file : KeyLinks ℕ) (links : Links) → ((address : SocketAddr) → peer_at links address ≡ None) → links.order ≡ order
    → AreLinksOf order file (IsListedAt []) links × All (λ (l : Listed). HasLink file.entries l.meter) []
no_meters order file links none is =
    (no_links order file (IsListedAt []) links none is (λ end address has. nothing_in (record { meter = end; address = address }) has), All-nil (λ (l : Listed). HasLink file.entries l.meter))

pub no_heads : (own : SocketAddr) (order : Order) (file : KeyLinks SocketAddr) (links : Links) → ((address : SocketAddr) → peer_at links address ≡ None) → links.order ≡ order
    → AreLinksOf order file (IsNamed own []) links
no_heads own order file links none is = no_links order file (IsNamed own []) links none is (λ end address has. nothing_in has.1.0 has.1.1)

-- ---- the address that an end shows is one

same_v6 : (x y : SocketAddrV6) → ipv6_segments (v6_ip x) ≡ ipv6_segments (v6_ip y) → v6_port x ≡ v6_port y → v6_flowinfo x ≡ v6_flowinfo y
    → v6_scope_id x ≡ v6_scope_id y → x ≡ y
same_v6 x y ip port flowinfo scope = search rules

one_mapped : (v4 : SocketAddrV4) (a b : SocketAddr) → IsMapped v4 a → IsMapped v4 b → a ≡ b
one_mapped v4 (socket.V6 x) (socket.V6 y) is also =
    ap socket.V6 (same_v6 x y (is.ip ∙ sym also.ip) (is.plain.0 ∙ sym also.plain.0) (is.plain.1 ∙ sym also.plain.1) (is.plain.2 ∙ sym also.plain.2))
one_mapped v4 (socket.V4 x) b is also = absurd is.ip
one_mapped v4 (socket.V6 x) (socket.V4 y) is also = absurd also.ip

one_shown : (own end a b : SocketAddr) → Shows own end a → Shows own end b → a ≡ b
one_shown (socket.V6 own) (socket.V4 end) a b is also = one_mapped end a b is also
one_shown (socket.V6 own) (socket.V6 end) a b is also = is ∙ sym also
one_shown (socket.V4 own) (socket.V4 end) a b is also = is ∙ sym also
one_shown (socket.V4 own) (socket.V6 end) a b is also = is ∙ sym also

-- ---- an element more

module _ {X : Type 0} (xs : List X) (i : ℕ) (x : X) (within : i < length xs) (is : slice_index_or xs i x ≡ x) where
  pub one_more : take (i + 1) xs ≡ take i xs ++ x ∷ []
  one_more = take_more xs i x within ∙ ap (λ y. take i xs ++ y ∷ []) is

  pub stays : (y : X) → Contains (take i xs) y → Contains (take (i + 1) xs) y
  stays y has = subst (λ ys. Contains ys y) (sym one_more) (Contains-append_left (take i xs) (x ∷ []) y has)

  pub comes : Contains (take (i + 1) xs) x
  comes = subst (λ ys. Contains ys x) (sym one_more) (Contains-push (take i xs) x)

  pub parted : xs ≡ take i xs ++ x ∷ drop (i + 1) xs
  parted = sym (take-append-drop i xs) ∙ ap (λ ys. take i xs ++ ys) (drop_more xs i x within ∙ ap (λ y. y ∷ drop (i + 1) xs) is)

  pub cases : (y : X) → Contains (take (i + 1) xs) y → Contains (take i xs) y ⊎ (x ≡ y)
  cases y has = Contains-push_cases (take i xs) x y (subst (λ ys. Contains ys y) one_more has)

-- ---- a meter of a list more

module _ (list : List Listed) (i : ℕ) (at : Listed) (within : i < length list) (is : slice_index_or list i at ≡ at) where
  pub meter_more : (order : Order) (file : KeyLinks ℕ) (links more : Links) (ends : Ends) (entry : Entry ℕ) → AreLinksOf order file (IsListedAt (take i list)) links
      → Adds links at.address ends more → Contains file.entries entry → entry.end ≡ at.meter → ends ≡ ends_of file.own entry.keys
      → AreLinksOf order file (IsListedAt (take (i + 1) list)) more
  meter_more order file links more ends entry are adds in_file named link =
      links_more order file (IsListedAt (take i list)) (IsListedAt (take (i + 1) list)) links more at.address ends entry are adds in_file link
      (λ end address has. stays list i at within is (record { meter = end; address = address }) has)
      (subst (λ m. IsListedAt (take (i + 1) list) m at.address) (sym named) (comes list i at within is))
      (λ end address has. elim (cases list i at within is (record { meter = end; address = address }) has) [
        | inl old ↦ inl old
        | inr same ↦ inr (ap (λ (l : Listed). l.address) same)
      ])

  pub keyed_more : (file : KeyLinks ℕ) → All (λ (l : Listed). HasLink file.entries l.meter) (take i list) → HasLink file.entries at.meter
      → All (λ (l : Listed). HasLink file.entries l.meter) (take (i + 1) list)
  keyed_more file all one = subst (λ ls. All (λ (l : Listed). HasLink file.entries l.meter) ls) (sym (one_more list i at within is))
      (All-push (λ (l : Listed). HasLink file.entries l.meter) (take i list) at all one)

  pub first_without : (file : KeyLinks ℕ) → HasNoEnd file.entries at.meter → All (λ (l : Listed). HasLink file.entries l.meter) (take i list) → (meter : ℕ) → meter ≡ at.meter
      → IsFirstWithout file list meter
  first_without file none others meter is_meter = record {
    before = take i list;
    at = at;
    behind = drop (i + 1) list;
    are = parted list i at within is;
    is_meter = is_meter;
    none = none;
    others = others;
  }

-- ---- a head end of a file more

module _ (own : SocketAddr) (file : KeyLinks SocketAddr) (i : ℕ) (entry : Entry SocketAddr) (within : i < length file.entries)
    (is : slice_index_or file.entries i entry ≡ entry) where
  pub head_more : (order : Order) (links more : Links) (at : SocketAddr) (ends : Ends) (found : Entry SocketAddr)
      → AreLinksOf order file (IsNamed own (take i file.entries)) links → Shows own entry.end at → Adds links at ends more → Contains file.entries found
      → found.end ≡ entry.end → ends ≡ ends_of file.own found.keys → AreLinksOf order file (IsNamed own (take (i + 1) file.entries)) more
  head_more order links more at ends found are shows adds in_file named link =
      links_more order file (IsNamed own (take i file.entries)) (IsNamed own (take (i + 1) file.entries)) links more at ends found are adds in_file link
      (λ end address has. (has.0, (has.1.0, stays file.entries i entry within is has.1.0 has.1.1, has.1.2)))
      (subst (λ e. Shows own e at) (sym named) shows, (entry, comes file.entries i entry within is, sym named))
      (λ end address has. elim (cases file.entries i entry within is has.1.0 has.1.1) [
        | inl old ↦ inl (has.0, (has.1.0, old, has.1.2))
        | inr same ↦ inr (one_shown own entry.end at address shows
            (subst (λ e. Shows own e address) (sym has.1.2 ∙ sym (ap (λ (e : Entry SocketAddr). e.end) same)) has.0))
      ])
