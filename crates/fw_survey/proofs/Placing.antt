-- The place of each address.
use Rattle.std.proofs.Common.{◌≡◌, ◌↔◌, ◌⊎◌, ℕ, zero, suc, ◌<◌, true, List, [], ◌∷◌, ◌++◌, length, Contains, Option, Some, None, inl, inr, refl, sym, ap, subst, ◌∙◌, rules, arith, ⊎_elim}
use Rattle.std.specs.Prelude.{IfNone, IfSome, IsSome, MatchOption, slice_get}
use Rattle.std.specs.Cmp.{IsEquivalence}
use Rattle.std.specs.List.Sorted.{IsPermutation}
use Rattle.std.specs.Map.{keys_of, lookup, set_value}
use Rattle.std.specs.declared.net.ipv4_addr.Ipv4Addr.{Ipv4Addr}
use Rattle.std.specs.declared.net.ipv6_addr.Ipv6Addr.{Ipv6Addr}
use Rattle.std.specs.declared.net.socket_addr.SocketAddr.{SocketAddr}
use Rattle.std.specs.declared.net.socket_addr.SocketAddr.TheVariants as socket
use Rattle.std.specs.declared.net.socket_addr.SocketAddrV4.{SocketAddrV4}
use Rattle.std.specs.declared.net.socket_addr.SocketAddrV6.{SocketAddrV6}
use Rattle.std.specs.contracts.net.ipv4_addr.Ipv4AddrPartialEq.TheImpl as ip4_eq
use Rattle.std.specs.contracts.net.ipv6_addr.Ipv6AddrPartialEq.TheImpl as ip6_eq
use Rattle.std.specs.contracts.net.socket_addr.SocketAddrPartialEq.TheImpl as socket_eq
use Rattle.std.specs.contracts.net.socket_addr.SocketAddrV4PartialEq.TheImpl as v4_eq
use Rattle.std.specs.contracts.net.socket_addr.SocketAddrV6PartialEq.TheImpl as v6_eq
use Rattle.std.specs.contracts.net.socket_addr.SocketAddrEq.TheImpl.Laws.{laws-law}
use Rattle.std.proofs.lemmas.Bool.{false≢true}
use Rattle.std.proofs.lemmas.List.{get_or-map, length-map}
use Rattle.std.proofs.lemmas.List.Elements.{Contains-append_left, Contains-append_right, Contains-append_cases, Contains-push, Contains-push_cases}
use Rattle.std.proofs.lemmas.List.Sorted.{Contains-permutation, IsPermutation-sym}
use Rattle.std.proofs.lemmas.Map.Views.{Contains-from_lookup, IsSome-lookup_from_Contains, exact_unsigned_eq}
use Rattle.std.proofs.lemmas.Option.{none-some, same_Some}

-- ---- addresses that are equal are the same

exact_ipv4 : (x y : Ipv4Addr) → ip4_eq.ghosts.eq x y ≡ true → x ≡ y
exact_ipv4 x y e = search rules

exact_ipv6 : (x y : Ipv6Addr) → ip6_eq.ghosts.eq x y ≡ true → x ≡ y
exact_ipv6 x y e = search rules

exact_v4 : (x y : SocketAddrV4) → v4_eq.ghosts.eq x y ≡ true → x ≡ y
exact_v4 x y e = search (rules, exact_ipv4, exact_unsigned_eq)

exact_v6 : (x y : SocketAddrV6) → v6_eq.ghosts.eq x y ≡ true → x ≡ y
exact_v6 x y e = search (rules, exact_ipv6, exact_unsigned_eq)

exact_socket : (x y : SocketAddr) → socket_eq.ghosts.eq x y ≡ true → x ≡ y
exact_socket (socket.V4 x) (socket.V4 y) e = ap socket.V4 (exact_v4 x y e)
exact_socket (socket.V6 x) (socket.V6 y) e = ap socket.V6 (exact_v6 x y e)
exact_socket (socket.V4 x) (socket.V6 y) e = absurd (false≢true e)
exact_socket (socket.V6 x) (socket.V4 y) e = absurd (false≢true e)

equal_sockets : IsEquivalence socket_eq.ghosts.eq
equal_sockets = laws-law

-- ---- what a look-up finds

abbrev pub Entries : Type 0
Entries = List (SocketAddr × ℕ)

-- these addresses stand there, each with its place
abbrev pub AreAt : Entries → List SocketAddr → Type 0
AreAt entries addresses = (address : SocketAddr) (place : ℕ) → Contains entries (address, place) ↔ (slice_get addresses place ≡ Some address)

key_of : {K X : Type 0} (es : List (K × X)) (k : K) (x : X) → Contains es (k, x) → Contains (keys_of es) k
key_of {K} {X} es k x (i, within, is) = (
  i,
  subst (λ n. i < n) (sym (length-map es (λ (e : K × X). e.0))) within,
  get_or-map (λ (e : K × X). e.0) es i (k, x) k within ∙ ap (λ (e : K × X). e.0) is,
)

never_some : {X : Type 0} (o : Option X) → o ≡ None → ¬ IsSome o
never_some o e h = false≢true (subst IsSome e h)

pub place_found : (es : Entries) (addresses : List SocketAddr) (address : SocketAddr) (r : Option ℕ) → r ≡ lookup (socket_eq.ghosts.eq address) es → AreAt es addresses
    → IfSome r (λ place. slice_get addresses place ≡ Some address)
place_found es addresses address None e at = tt
place_found es addresses address (Some place) e at = (at address place).0 (Contains-from_lookup exact_socket address place es (sym e))

pub place_missed : (es : Entries) (addresses : List SocketAddr) (address : SocketAddr) (r : Option ℕ) → r ≡ lookup (socket_eq.ghosts.eq address) es → AreAt es addresses
    → IfNone r (¬ ((place : ℕ) × (slice_get addresses place ≡ Some address)))
place_missed es addresses address None e at = λ has.
    never_some (lookup (socket_eq.ghosts.eq address) es) (sym e)
    (IsSome-lookup_from_Contains equal_sockets address es (key_of es address has.0 ((at address has.0).1 has.1)))
place_missed es addresses address (Some place) e at = tt

-- ---- what is put in

no_entry : (es : Entries) (addresses : List SocketAddr) (address : SocketAddr) → AreAt es addresses → ¬ ((place : ℕ) × (slice_get addresses place ≡ Some address))
    → (other : ℕ) → ¬ Contains es (address, other)
no_entry es addresses address at none other within = none (other, (at address other).0 within)

is_put : (es fs : Entries) (address : SocketAddr) (place : ℕ) (old : Option ℕ) → old ≡ lookup (socket_eq.ghosts.eq address) es
    → MatchOption old (IsPermutation ((address, place) ∷ es) fs) (λ _. fs ≡ set_value (socket_eq.ghosts.eq address) es place)
    → ((other : ℕ) → ¬ Contains es (address, other)) → IsPermutation ((address, place) ∷ es) fs
is_put es fs address place None e put new = put
is_put es fs address place (Some other) e put new = absurd (new other (Contains-from_lookup exact_socket address other es (sym e)))

abbrev PutsPlace : Entries → SocketAddr → ℕ → Entries → Type 0
PutsPlace es address place fs = (a : SocketAddr) (p : ℕ) → Contains fs (a, p) ↔ (((a ≡ address) × (p ≡ place)) ⊎ Contains es (a, p))

no_element : {X : Type 0} (x : X) → ¬ Contains [] x
no_element x within = absurd (omega (arith, within.1))

same_entry : (a b : SocketAddr) (p q : ℕ) → a ≡ b → p ≡ q → ◌≡◌ {A = SocketAddr × ℕ} (a, p) (b, q)
same_entry a b p q e f = cc

puts_place : (es fs : Entries) (address : SocketAddr) (place : ℕ) → IsPermutation ((address, place) ∷ es) fs → PutsPlace es address place fs
puts_place es fs address place perm a p = (
  λ (h : Contains fs (a, p)). ⊎_elim
      (λ (g : Contains ((address, place) ∷ []) (a, p)). ⊎_elim
      (λ (none : Contains [] (a, p)). absurd (no_element (a, p) none))
      (λ (same : ◌≡◌ {A = SocketAddr × ℕ} (address, place) (a, p)). inl (ap (λ (e : SocketAddr × ℕ). e.0) (sym same), ap (λ (e : SocketAddr × ℕ). e.1) (sym same)))
      (Contains-push_cases [] (address, place) (a, p) g))
      (λ (g : Contains es (a, p)). inr g)
      (Contains-append_cases ((address, place) ∷ []) es (a, p) (Contains-permutation fs ((address, place) ∷ es) (a, p) (IsPermutation-sym _ _ perm) h)),
  λ (h : ((a ≡ address) × (p ≡ place)) ⊎ Contains es (a, p)). Contains-permutation ((address, place) ∷ es) fs (a, p) perm (⊎_elim
      (λ (e : (a ≡ address) × (p ≡ place)). subst (λ (k : SocketAddr × ℕ). Contains ((address, place) ∷ es) k) (same_entry address a place p (sym e.0) (sym e.1))
      (Contains-append_left ((address, place) ∷ []) es (address, place) (Contains-push [] (address, place))))
      (λ (g : Contains es (a, p)). Contains-append_right ((address, place) ∷ []) es (a, p) g) h),
)

-- ---- one more address

at_front : {X : Type 0} (xs : List X) (y : X) (k : ℕ) (z : X) → slice_get xs k ≡ Some z → slice_get (xs ++ y ∷ []) k ≡ Some z
at_front [] y k z h = absurd (none-some z h)
at_front (x ∷ xs) y zero z h = h
at_front (x ∷ xs) y (suc k) z h = at_front xs y k z h

at_end : {X : Type 0} (xs : List X) (y : X) → slice_get (xs ++ y ∷ []) (length xs) ≡ Some y
at_end [] y = refl
at_end (x ∷ xs) y = at_end xs y

front_or_end : {X : Type 0} (xs : List X) (y : X) (k : ℕ) (z : X) → slice_get (xs ++ y ∷ []) k ≡ Some z → (slice_get xs k ≡ Some z) ⊎ ((k ≡ length xs) × (y ≡ z))
front_or_end [] y zero z h = inr (refl, same_Some y z h)
front_or_end [] y (suc k) z h = absurd (none-some z h)
front_or_end (x ∷ xs) y zero z h = inl h
front_or_end (x ∷ xs) y (suc k) z h = ⊎_elim (λ f. inl f) (λ e. inr (ap suc e.0, e.1)) (front_or_end xs y k z h)

at_more : (es fs : Entries) (addresses : List SocketAddr) (address : SocketAddr) → AreAt es addresses → PutsPlace es address (length addresses) fs
    → AreAt fs (addresses ++ address ∷ [])
at_more es fs addresses address at puts a p = (
  λ (h : Contains fs (a, p)). ⊎_elim
      (λ (e : (a ≡ address) × (p ≡ length addresses)).
      subst (λ (x : SocketAddr). slice_get (addresses ++ address ∷ []) p ≡ Some x) (sym e.0)
      (subst (λ (n : ℕ). slice_get (addresses ++ address ∷ []) n ≡ Some address) (sym e.1) (at_end addresses address)))
      (λ (g : Contains es (a, p)). at_front addresses address p a ((at a p).0 g))
      ((puts a p).0 h),
  λ (h : slice_get (addresses ++ address ∷ []) p ≡ Some a). (puts a p).1 (⊎_elim
      (λ (g : slice_get addresses p ≡ Some a). inr ((at a p).1 g))
      (λ (e : (p ≡ length addresses) × (address ≡ a)). inl (sym e.1, e.0))
      (front_or_end addresses address p a h)),
)

-- no address has two places
abbrev pub AreApart : List SocketAddr → Type 0
AreApart addresses = (address : SocketAddr) (place other : ℕ) → slice_get addresses place ≡ Some address → slice_get addresses other ≡ Some address → place ≡ other

pub apart_more : (addresses : List SocketAddr) (new : SocketAddr) → AreApart addresses → ¬ ((place : ℕ) × (slice_get addresses place ≡ Some new)) → AreApart (addresses ++ new ∷ [])
apart_more addresses new apart none address place other h g = ⊎_elim
    (λ (a : slice_get addresses place ≡ Some address). ⊎_elim
    (λ (b : slice_get addresses other ≡ Some address). apart address place other a b)
    (λ (e : (other ≡ length addresses) × (new ≡ address)). absurd (none (place, subst (λ (x : SocketAddr). slice_get addresses place ≡ Some x) (sym e.1) a)))
    (front_or_end addresses new other address g))
    (λ (e : (place ≡ length addresses) × (new ≡ address)). ⊎_elim
    (λ (b : slice_get addresses other ≡ Some address). absurd (none (other, subst (λ (x : SocketAddr). slice_get addresses other ≡ Some x) (sym e.1) b)))
    (λ (f : (other ≡ length addresses) × (new ≡ address)). e.0 ∙ sym f.0)
    (front_or_end addresses new other address g))
    (front_or_end addresses new place address h)

-- an address that has no place is put in
pub placed : (es fs : Entries) (addresses : List SocketAddr) (address : SocketAddr) (place : ℕ) (old : Option ℕ) → AreAt es addresses
    → ¬ ((other : ℕ) × (slice_get addresses other ≡ Some address)) → place ≡ length addresses → old ≡ lookup (socket_eq.ghosts.eq address) es
    → MatchOption old (IsPermutation ((address, place) ∷ es) fs) (λ _. fs ≡ set_value (socket_eq.ghosts.eq address) es place) → AreAt fs (addresses ++ address ∷ [])
placed es fs addresses address place old at none e was put =
    let perm = is_put es fs address place old was put (no_entry es addresses address at none) in
    at_more es fs addresses address at (subst (λ (n : ℕ). PutsPlace es address n fs) e (puts_place es fs address place perm))
