-- Addresses that are equal are the same.
use Rattle.std.proofs.Common.{◌≡◌, true, ap, subst, rules}
use Rattle.std.specs.Cmp.{IsEquivalence}
use Rattle.std.specs.declared.net.ipv4_addr.Ipv4Addr.{Ipv4Addr}
use Rattle.std.specs.declared.net.ipv6_addr.Ipv6Addr.{Ipv6Addr}
use Rattle.std.specs.declared.net.socket_addr.SocketAddr.{SocketAddr}
use Rattle.std.specs.declared.net.socket_addr.SocketAddr.TheVariants as socket
use Rattle.std.specs.declared.net.socket_addr.SocketAddrV4.{SocketAddrV4}
use Rattle.std.specs.declared.net.socket_addr.SocketAddrV6.{SocketAddrV6}
use Rattle.std.specs.contracts.net.ipv4_addr.Ipv4AddrPartialEq.TheImpl as ip4_eq
use Rattle.std.specs.contracts.net.ipv6_addr.Ipv6AddrPartialEq.TheImpl as ip6_eq
use Rattle.std.specs.contracts.net.socket_addr.SocketAddrPartialEq.TheImpl as socket_eq
use Rattle.std.specs.contracts.net.socket_addr.SocketAddrV4PartialEq.TheImpl as v4_eq
use Rattle.std.specs.contracts.net.socket_addr.SocketAddrV6PartialEq.TheImpl as v6_eq
use Rattle.std.specs.contracts.net.socket_addr.SocketAddrEq.TheImpl.Laws.{laws-law}
use Rattle.std.proofs.lemmas.Bool.{false≢true}
use Rattle.std.proofs.lemmas.Map.Views.{exact_unsigned_eq}

exact_ipv4 : (x y : Ipv4Addr) → ip4_eq.ghosts.eq x y ≡ true → x ≡ y
exact_ipv4 x y e = search rules

exact_ipv6 : (x y : Ipv6Addr) → ip6_eq.ghosts.eq x y ≡ true → x ≡ y
exact_ipv6 x y e = search rules

exact_v4 : (x y : SocketAddrV4) → v4_eq.ghosts.eq x y ≡ true → x ≡ y
exact_v4 x y e = search (rules, exact_ipv4, exact_unsigned_eq)

exact_v6 : (x y : SocketAddrV6) → v6_eq.ghosts.eq x y ≡ true → x ≡ y
exact_v6 x y e = search (rules, exact_ipv6, exact_unsigned_eq)

pub exact_socket : (x y : SocketAddr) → socket_eq.ghosts.eq x y ≡ true → x ≡ y
exact_socket (socket.V4 x) (socket.V4 y) e = ap socket.V4 (exact_v4 x y e)
exact_socket (socket.V6 x) (socket.V6 y) e = ap socket.V6 (exact_v6 x y e)
exact_socket (socket.V4 x) (socket.V6 y) e = absurd (false≢true e)
exact_socket (socket.V6 x) (socket.V4 y) e = absurd (false≢true e)

equal_sockets : IsEquivalence socket_eq.ghosts.eq
equal_sockets = laws-law

pub equal_itself : (x y : SocketAddr) → x ≡ y → socket_eq.ghosts.eq x y ≡ true
equal_itself x y e = subst (λ (z : SocketAddr). socket_eq.ghosts.eq x z ≡ true) e (equal_sockets.refl x)
