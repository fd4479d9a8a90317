-- Datagrams in a set.
use Rattle.std.proofs.Common.{◌≡◌, ◌↔◌, ◌⊎◌, ℕ, ◌<◌, Bool, true, false, eqb, not, ◌&&◌, List, [], ◌∷◌, length, inl, inr, refl, sym, ap, subst, ◌∙◌, rules, arith, ⊎_elim}
use Rattle.std.specs.Prelude.{Contains}
use Rattle.std.specs.List.{list_any}
use Rattle.std.specs.List.Sorted.{IsPermutation}
use Rattle.std.specs.HashSet.{HashSet, PutsKey, contains, keys}
use Rattle.std.specs.Cmp.{IsEquivalence}
use Rattle.std.specs.Cmp.Lexicographic.{pointwise, same_text}
use Rattle.std.specs.declared.net.ipv4_addr.Ipv4Addr.{Ipv4Addr}
use Rattle.std.specs.declared.net.ipv6_addr.Ipv6Addr.{Ipv6Addr}
use Rattle.std.specs.declared.net.socket_addr.SocketAddr.{SocketAddr}
use Rattle.std.specs.declared.net.socket_addr.SocketAddr.TheVariants as socket
use Rattle.std.specs.declared.net.socket_addr.SocketAddrV4.{SocketAddrV4}
use Rattle.std.specs.declared.net.socket_addr.SocketAddrV6.{SocketAddrV6}
use Rattle.std.specs.contracts.net.ipv4_addr.Ipv4AddrPartialEq.TheImpl as ip4_eq
use Rattle.std.specs.contracts.net.ipv6_addr.Ipv6AddrPartialEq.TheImpl as ip6_eq
use Rattle.std.specs.contracts.net.socket_addr.SocketAddrPartialEq.TheImpl as socket_eq
use Rattle.std.specs.contracts.net.socket_addr.SocketAddrV4PartialEq.TheImpl as v4_eq
use Rattle.std.specs.contracts.net.socket_addr.SocketAddrV6PartialEq.TheImpl as v6_eq
use Rattle.std.specs.contracts.net.socket_addr.SocketAddrEq.TheImpl.Laws.{laws-law}
use Rattle.std.proofs.lemmas.Bool.{and_from, and_parts, false≢true, or_cases, or_left, or_right}
use Rattle.std.proofs.lemmas.Cmp.{nat_list_eq_equiv}
use Rattle.std.proofs.lemmas.List.Elements.{Contains-append_cases}
use Rattle.std.proofs.lemmas.List.Sorted.{Contains-permutation, IsPermutation-sym}
use Rattle.std.proofs.lemmas.Map.Views.{exact_unsigned_eq}
use Rattle.fw_order.specs.Private.{Adds, Has, IsDatagram}
use Rattle.fw_order.specs.contracts.sent.DatagramPartialEq.TheImpl as datagram_eq
use Rattle.fw_order.specs.declared.sent.Datagram.{Datagram}
use Rattle.fw_order.specs.declared.sent.Sent.{Sent}
use Rattle.fw_order.proofs.Lists.{first_in, in_rest, none_in, one_in}

-- ---- datagrams that are equal

exact_ipv4 : (x y : Ipv4Addr) → ip4_eq.ghosts.eq x y ≡ true → x ≡ y
exact_ipv4 x y e = search rules

exact_ipv6 : (x y : Ipv6Addr) → ip6_eq.ghosts.eq x y ≡ true → x ≡ y
exact_ipv6 x y e = search rules

exact_v4 : (x y : SocketAddrV4) → v4_eq.ghosts.eq x y ≡ true → x ≡ y
exact_v4 x y e = search (rules, exact_ipv4, exact_unsigned_eq)

exact_v6 : (x y : SocketAddrV6) → v6_eq.ghosts.eq x y ≡ true → x ≡ y
exact_v6 x y e = search (rules, exact_ipv6, exact_unsigned_eq)

pub exact_socket : (x y : SocketAddr) → socket_eq.ghosts.eq x y ≡ true → x ≡ y
exact_socket (socket.V4 x) (socket.V4 y) e = ap socket.V4 (exact_v4 x y e)
exact_socket (socket.V6 x) (socket.V6 y) e = ap socket.V6 (exact_v6 x y e)
exact_socket (socket.V4 x) (socket.V6 y) e = absurd (false≢true e)
exact_socket (socket.V6 x) (socket.V4 y) e = absurd (false≢true e)

equal_sockets : IsEquivalence socket_eq.ghosts.eq
equal_sockets = laws-law

pub same_socket : (x y : SocketAddr) → x ≡ y → socket_eq.ghosts.eq x y ≡ true
same_socket x y e = subst (λ (z : SocketAddr). socket_eq.ghosts.eq x z ≡ true) e (equal_sockets.refl x)

same_bytes : (xs ys : List ℕ) → xs ≡ ys → pointwise eqb xs ys ≡ true
same_bytes xs ys e = subst (λ (zs : List ℕ). pointwise eqb xs zs ≡ true) e (nat_list_eq_equiv.refl xs)

equal_is : (x y : Datagram) → datagram_eq.ghosts.eq x y ≡ true → IsDatagram x.from x.to x.bytes.now y
equal_is x y e =
    let first = and_parts (socket_eq.ghosts.eq x.from y.from) (socket_eq.ghosts.eq x.to y.to && pointwise eqb x.bytes.now y.bytes.now) e in
    let second = and_parts (socket_eq.ghosts.eq x.to y.to) (pointwise eqb x.bytes.now y.bytes.now) first.1 in
    (sym (exact_socket x.from y.from first.0), (sym (exact_socket x.to y.to second.0), sym (same_text x.bytes.now y.bytes.now (sym second.1))))

is_equal : (x y : Datagram) → IsDatagram x.from x.to x.bytes.now y → datagram_eq.ghosts.eq x y ≡ true
is_equal x y is =
    and_from (socket_eq.ghosts.eq x.from y.from) (socket_eq.ghosts.eq x.to y.to && pointwise eqb x.bytes.now y.bytes.now) (same_socket x.from y.from (sym is.0))
    (and_from (socket_eq.ghosts.eq x.to y.to) (pointwise eqb x.bytes.now y.bytes.now) (same_socket x.to y.to (sym is.1.0)) (same_bytes x.bytes.now y.bytes.now (sym is.1.1)))

-- ---- what a look-up finds

any_found : {X : Type 0} (test : X → Bool) (xs : List X) → list_any test xs ≡ true → (x : X) × Contains xs x × (test x ≡ true)
any_found test [] e = absurd (false≢true e)
any_found test (x ∷ xs) e =
    ⊎_elim (λ (here : test x ≡ true). (x, first_in x xs, here))
    (λ (later : list_any test xs ≡ true). let found = any_found test xs later in (found.0, in_rest x found.0 xs found.1, found.2)) (or_cases (test x) (list_any test xs) e)

any_there : {X : Type 0} (test : X → Bool) (xs : List X) (x : X) → Contains xs x → test x ≡ true → list_any test xs ≡ true
any_there test [] x c is = absurd (none_in x c)
any_there test (y ∷ xs) x c is =
    ⊎_elim (λ (one : Contains (y ∷ []) x). or_left (test y) (list_any test xs) (ap test (one_in y x one) ∙ is))
    (λ (later : Contains xs x). or_right (test y) (list_any test xs) (any_there test xs x later is)) (Contains-append_cases (y ∷ []) xs x c)

pub has_it : (set : Sent) (key : Datagram) → contains datagram_eq.ghosts.eq set.datagrams key ≡ true → Has set key.from key.to key.bytes.now
has_it set key e =
    let found = any_found (datagram_eq.ghosts.eq key) (keys set.datagrams) e in (found.0, found.1, equal_is key found.0 found.2)

pub lacks_it : (set : Sent) (key : Datagram) → contains datagram_eq.ghosts.eq set.datagrams key ≡ false → Has set key.from key.to key.bytes.now → ⊥
lacks_it set key e (other, there, is) =
    false≢true (sym e ∙ any_there (datagram_eq.ghosts.eq key) (keys set.datagrams) other there (is_equal key other is))

-- ---- what is put in

not_false : (b : Bool) → not b ≡ false → b ≡ true
not_false true e = refl
not_false false e = absurd (false≢true (sym e))

pub adds_it : (old new : Sent) (key : Datagram) (added : Bool) → added ≡ not (contains datagram_eq.ghosts.eq old.datagrams key) → PutsKey old.datagrams new.datagrams key added
    → Adds old key.from key.to key.bytes.now new
adds_it old new key true known puts f t b = (
  λ (h : Has new f t b). ⊎_elim (λ (one : Contains (key ∷ []) h.0).
      let same : key ≡ h.0 = one_in key h.0 one in
      inr (sym h.2.0 ∙ ap (λ (d : Datagram). d.from) (sym same), (sym h.2.1.0 ∙ ap (λ (d : Datagram). d.to) (sym same), sym h.2.1.1 ∙ ap (λ (d : Datagram). d.bytes.now) (sym same))))
      (λ (early : Contains (keys old.datagrams) h.0). inl (h.0, early, h.2))
      (Contains-append_cases (key ∷ []) (keys old.datagrams) h.0 (Contains-permutation (keys new.datagrams) (key ∷ keys old.datagrams) h.0 (IsPermutation-sym _ _ puts) h.1)),
  λ (h : Has old f t b ⊎ ((f ≡ key.from) × ((t ≡ key.to) × (b ≡ key.bytes.now)))). ⊎_elim
      (λ (early : Has old f t b). (early.0, Contains-permutation (key ∷ keys old.datagrams) (keys new.datagrams) early.0 puts (in_rest key early.0 (keys old.datagrams) early.1), early.2))
      (λ (late : (f ≡ key.from) × ((t ≡ key.to) × (b ≡ key.bytes.now))).
      (key, Contains-permutation (key ∷ keys old.datagrams) (keys new.datagrams) key puts (first_in key (keys old.datagrams)), (sym late.0, (sym late.1.0, sym late.1.1)))) h,
)
adds_it old new key false known puts f t b =
    let there : contains datagram_eq.ghosts.eq old.datagrams key ≡ true = not_false (contains datagram_eq.ghosts.eq old.datagrams key) (sym known) in
    let has = has_it old key there in (
      λ (h : Has new f t b). inl (h.0, subst (λ (l : List Datagram). Contains l h.0) puts h.1, h.2),
      λ (h : Has old f t b ⊎ ((f ≡ key.from) × ((t ≡ key.to) × (b ≡ key.bytes.now)))). ⊎_elim
          (λ (early : Has old f t b). (early.0, subst (λ (l : List Datagram). Contains l early.0) (sym puts) early.1, early.2))
          (λ (late : (f ≡ key.from) × ((t ≡ key.to) × (b ≡ key.bytes.now))).
          (has.0, subst (λ (l : List Datagram). Contains l has.0) (sym puts) has.1, (has.2.0 ∙ sym late.0, (has.2.1.0 ∙ sym late.1.0, has.2.1.1 ∙ sym late.1.1)))) h,
    )
