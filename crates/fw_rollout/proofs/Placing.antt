-- The place of each address.
use Rattle.std.proofs.Common.{◌≡◌, ◌↔◌, ◌⊎◌, ℕ, ◌<◌, true, List, [], ◌∷◌, Contains, Option, Some, None, inl, inr, sym, ap, subst, ◌∙◌, rules, arith, ⊎_elim}
use Rattle.std.specs.Prelude.{IfNone, IfSome, IsSome, MatchOption}
use Rattle.std.specs.Cmp.{IsEquivalence}
use Rattle.std.specs.List.Sorted.{IsPermutation}
use Rattle.std.specs.Map.{keys_of, lookup, set_value}
use Rattle.std.specs.declared.net.ipv4_addr.Ipv4Addr.{Ipv4Addr}
use Rattle.std.specs.declared.net.ipv6_addr.Ipv6Addr.{Ipv6Addr}
use Rattle.std.specs.declared.net.socket_addr.SocketAddr.{SocketAddr}
use Rattle.std.specs.declared.net.socket_addr.SocketAddr.TheVariants as socket
use Rattle.std.specs.declared.net.socket_addr.SocketAddrV4.{SocketAddrV4}
use Rattle.std.specs.declared.net.socket_addr.SocketAddrV6.{SocketAddrV6}
use Rattle.std.specs.contracts.net.ipv4_addr.Ipv4AddrPartialEq.TheImpl as ip4_eq
use Rattle.std.specs.contracts.net.ipv6_addr.Ipv6AddrPartialEq.TheImpl as ip6_eq
use Rattle.std.specs.contracts.net.socket_addr.SocketAddrPartialEq.TheImpl as socket_eq
use Rattle.std.specs.contracts.net.socket_addr.SocketAddrV4PartialEq.TheImpl as v4_eq
use Rattle.std.specs.contracts.net.socket_addr.SocketAddrV6PartialEq.TheImpl as v6_eq
use Rattle.std.specs.contracts.net.socket_addr.SocketAddrEq.TheImpl.Laws.{laws-law}
use Rattle.std.proofs.lemmas.Bool.{false≢true}
use Rattle.std.proofs.lemmas.List.{get_or-map, length-map}
use Rattle.std.proofs.lemmas.List.Elements.{Contains-append_left, Contains-append_right, Contains-append_cases, Contains-push, Contains-push_cases}
use Rattle.std.proofs.lemmas.List.Sorted.{Contains-permutation, IsPermutation-sym}
use Rattle.std.proofs.lemmas.Map.Views.{Contains-from_lookup, IsSome-lookup_from_Contains, exact_unsigned_eq}
use Rattle.fw_rollout.specs.Schedule.{HasAddress, IsPlaceOf, IsSchedule, links_of}
use Rattle.fw_rollout.specs.declared.schedule.Schedule.{Schedule}

-- ---- addresses that are equal are the same

exact_ipv4 : (x y : Ipv4Addr) → ip4_eq.ghosts.eq x y ≡ true → x ≡ y
exact_ipv4 x y e = search rules

exact_ipv6 : (x y : Ipv6Addr) → ip6_eq.ghosts.eq x y ≡ true → x ≡ y
exact_ipv6 x y e = search rules

exact_v4 : (x y : SocketAddrV4) → v4_eq.ghosts.eq x y ≡ true → x ≡ y
exact_v4 x y e = search (rules, exact_ipv4, exact_unsigned_eq)

exact_v6 : (x y : SocketAddrV6) → v6_eq.ghosts.eq x y ≡ true → x ≡ y
exact_v6 x y e = search (rules, exact_ipv6, exact_unsigned_eq)

pub exact_socket : (x y : SocketAddr) → socket_eq.ghosts.eq x y ≡ true → x ≡ y
exact_socket (socket.V4 x) (socket.V4 y) e = ap socket.V4 (exact_v4 x y e)
exact_socket (socket.V6 x) (socket.V6 y) e = ap socket.V6 (exact_v6 x y e)
exact_socket (socket.V4 x) (socket.V6 y) e = absurd (false≢true e)
exact_socket (socket.V6 x) (socket.V4 y) e = absurd (false≢true e)

pub equal_sockets : IsEquivalence socket_eq.ghosts.eq
equal_sockets = laws-law

-- ---- what a look-up finds

key_of : {K X : Type 0} (es : List (K × X)) (k : K) (x : X) → Contains es (k, x) → Contains (keys_of es) k
key_of {K} {X} es k x (i, within, is) = (
  i,
  subst (λ n. i < n) (sym (length-map es (λ (e : K × X). e.0))) within,
  get_or-map (λ (e : K × X). e.0) es i (k, x) k within ∙ ap (λ (e : K × X). e.0) is,
)

never_some : {X : Type 0} (o : Option X) → o ≡ None → ¬ IsSome o
never_some o e h = false≢true (subst IsSome e h)

pub is_found : (s : Schedule) (address : SocketAddr) (place : ℕ) → lookup (socket_eq.ghosts.eq address) s.places.entries ≡ Some place → IsSchedule s → IsPlaceOf (links_of s) address place
is_found s address place e i = (i.addressed address place).0 (Contains-from_lookup exact_socket address place s.places.entries e)

pub is_nowhere : (s : Schedule) (address : SocketAddr) → lookup (socket_eq.ghosts.eq address) s.places.entries ≡ None → IsSchedule s → ¬ HasAddress (links_of s) address
is_nowhere s address e i has =
    never_some (lookup (socket_eq.ghosts.eq address) s.places.entries) e
    (IsSome-lookup_from_Contains equal_sockets address s.places.entries (key_of s.places.entries address has.0 ((i.addressed address has.0).1 has.1)))

-- ---- what is put in

abbrev pub Entries : Type 0
Entries = List (SocketAddr × ℕ)

pub is_put : (es fs : Entries) (address : SocketAddr) (place : ℕ) (old : Option ℕ) → old ≡ lookup (socket_eq.ghosts.eq address) es
    → MatchOption old (IsPermutation ((address, place) ∷ es) fs) (λ _. fs ≡ set_value (socket_eq.ghosts.eq address) es place)
    → ((other : ℕ) → ¬ Contains es (address, other)) → IsPermutation ((address, place) ∷ es) fs
is_put es fs address place None e put new = put
is_put es fs address place (Some other) e put new = absurd (new other (Contains-from_lookup exact_socket address other es (sym e)))

abbrev pub PutsPlace : Entries → SocketAddr → ℕ → Entries → Type 0
PutsPlace es address place fs = (a : SocketAddr) (p : ℕ) → Contains fs (a, p) ↔ (((a ≡ address) × (p ≡ place)) ⊎ Contains es (a, p))

no_element : {X : Type 0} (x : X) → ¬ Contains [] x
no_element x within = absurd (omega (arith, within.1))

same_entry : (a b : SocketAddr) (p q : ℕ) → a ≡ b → p ≡ q → ◌≡◌ {A = SocketAddr × ℕ} (a, p) (b, q)
same_entry a b p q e f = cc

pub puts_place : (es fs : Entries) (address : SocketAddr) (place : ℕ) → IsPermutation ((address, place) ∷ es) fs → PutsPlace es address place fs
puts_place es fs address place perm a p = (
  λ (h : Contains fs (a, p)). ⊎_elim
      (λ (g : Contains ((address, place) ∷ []) (a, p)). ⊎_elim
      (λ (none : Contains [] (a, p)). absurd (no_element (a, p) none))
      (λ (same : ◌≡◌ {A = SocketAddr × ℕ} (address, place) (a, p)). inl (ap (λ (e : SocketAddr × ℕ). e.0) (sym same), ap (λ (e : SocketAddr × ℕ). e.1) (sym same)))
      (Contains-push_cases [] (address, place) (a, p) g))
      (λ (g : Contains es (a, p)). inr g)
      (Contains-append_cases ((address, place) ∷ []) es (a, p) (Contains-permutation fs ((address, place) ∷ es) (a, p) (IsPermutation-sym _ _ perm) h)),
  λ (h : ((a ≡ address) × (p ≡ place)) ⊎ Contains es (a, p)). Contains-permutation ((address, place) ∷ es) fs (a, p) perm (⊎_elim
      (λ (e : (a ≡ address) × (p ≡ place)). subst (λ (k : SocketAddr × ℕ). Contains ((address, place) ∷ es) k) (same_entry address a place p (sym e.0) (sym e.1))
      (Contains-append_left ((address, place) ∷ []) es (address, place) (Contains-push [] (address, place))))
      (λ (g : Contains es (a, p)). Contains-append_right ((address, place) ∷ []) es (a, p) g) h),
)

-- ---- what a call gives

pub place_found : (s : Schedule) (address : SocketAddr) (r : Option ℕ) → r ≡ lookup (socket_eq.ghosts.eq address) s.places.entries → IsSchedule s → IfSome r (IsPlaceOf (links_of s) address)
place_found s address None e i = tt
place_found s address (Some place) e i = is_found s address place (sym e) i

pub place_missed : (s : Schedule) (address : SocketAddr) (r : Option ℕ) → r ≡ lookup (socket_eq.ghosts.eq address) s.places.entries → IsSchedule s → IfNone r (¬ HasAddress (links_of s) address)
place_missed s address None e i = is_nowhere s address (sym e) i
place_missed s address (Some place) e i = tt
