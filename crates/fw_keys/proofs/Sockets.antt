-- Addresses: equal ones are the same, and what is written of one spells it.
use Rattle.std.proofs.Common.{◌≡◌, true, List, [], ◌∷◌, decimal, ap, append_assoc, subst, rules}
use Rattle.std.specs.declared.net.ipv4_addr.Ipv4Addr.{Ipv4Addr}
use Rattle.std.specs.declared.net.ipv6_addr.Ipv6Addr.{Ipv6Addr}
use Rattle.std.specs.declared.net.socket_addr.SocketAddr.{SocketAddr}
use Rattle.std.specs.declared.net.socket_addr.SocketAddr.TheVariants as socket
use Rattle.std.specs.declared.net.socket_addr.SocketAddrV4.{SocketAddrV4}
use Rattle.std.specs.declared.net.socket_addr.SocketAddrV6.{SocketAddrV6}
use Rattle.std.specs.contracts.net.ipv4_addr.Ipv4AddrPartialEq.TheImpl as ip4_eq
use Rattle.std.specs.contracts.net.ipv6_addr.Ipv6AddrPartialEq.TheImpl as ip6_eq
use Rattle.std.specs.contracts.net.socket_addr.SocketAddrPartialEq.TheImpl as socket_eq
use Rattle.std.specs.contracts.net.socket_addr.SocketAddrV4PartialEq.TheImpl as v4_eq
use Rattle.std.specs.contracts.net.socket_addr.SocketAddrV6PartialEq.TheImpl as v6_eq
use Rattle.std.specs.contracts.net.socket_addr.SocketAddrEq.TheImpl.Laws.{laws-law}
use Rattle.std.specs.Cmp.{IsEquivalence}
use Rattle.std.specs.Net.Addr.{ipv4_octets, ipv6_segments}
use Rattle.std.specs.Net.Grammar.{IsSocketText, IsSocketV4Text, IsSocketV6Text}
use Rattle.std.specs.Net.Socket.{IsSocketAddr, IsSocketAddrV4, IsSocketAddrV6, socket_flowinfo, v4_ip, v4_port, v6_flowinfo, v6_ip, v6_port, v6_scope_id}
use Rattle.std.specs.Net.Text.{ipv4_text, ipv6_text, scope_text, socket_text, socket_v4_text, socket_v6_text}
use Rattle.std.proofs.NetLemmas.Texts.{IsColonHex-ipv6_text, IsDotted-ipv4_text, IsPortText-decimal, IsScopeText-scope_text}
use Rattle.std.proofs.lemmas.Bool.{false≢true}
use Rattle.std.proofs.lemmas.Map.Views.{exact_unsigned_eq}

exact_ipv4 : (x y : Ipv4Addr) → ip4_eq.ghosts.eq x y ≡ true → x ≡ y
exact_ipv4 x y e = search rules

exact_ipv6 : (x y : Ipv6Addr) → ip6_eq.ghosts.eq x y ≡ true → x ≡ y
exact_ipv6 x y e = search rules

exact_v4 : (x y : SocketAddrV4) → v4_eq.ghosts.eq x y ≡ true → x ≡ y
exact_v4 x y e = search (rules, exact_ipv4, exact_unsigned_eq)

exact_v6 : (x y : SocketAddrV6) → v6_eq.ghosts.eq x y ≡ true → x ≡ y
exact_v6 x y e = search (rules, exact_ipv6, exact_unsigned_eq)

pub exact_socket : (x y : SocketAddr) → socket_eq.ghosts.eq x y ≡ true → x ≡ y
exact_socket (socket.V4 x) (socket.V4 y) e = ap socket.V4 (exact_v4 x y e)
exact_socket (socket.V6 x) (socket.V6 y) e = ap socket.V6 (exact_v6 x y e)
exact_socket (socket.V4 x) (socket.V6 y) e = absurd (false≢true e)
exact_socket (socket.V6 x) (socket.V4 y) e = absurd (false≢true e)

equal_sockets : IsEquivalence socket_eq.ghosts.eq
equal_sockets = laws-law

pub equal_itself : (x y : SocketAddr) → x ≡ y → socket_eq.ghosts.eq x y ≡ true
equal_itself x y same = subst (λ z. socket_eq.ghosts.eq x z ≡ true) same (equal_sockets.refl x)

-- ---- what is written

spells_v4 : (a : SocketAddrV4) → IsSocketAddrV4 a → IsSocketV4Text (socket_v4_text a) a
spells_v4 a h = (
  ipv4_text (ipv4_octets (v4_ip a)),
  58 ∷ decimal (v4_port a),
  append_assoc (ipv4_text (ipv4_octets (v4_ip a))) (58 ∷ []) (decimal (v4_port a)),
  IsDotted-ipv4_text (ipv4_octets (v4_ip a)) h.0.0 h.0.1,
  IsPortText-decimal (v4_port a) h.1,
)

spells_v6 : (a : SocketAddrV6) → IsSocketAddrV6 a → v6_flowinfo a ≡ 0 → IsSocketV6Text (socket_v6_text a) a
spells_v6 a h none = record {
  ip = ipv6_text (ipv6_segments (v6_ip a));
  scope = scope_text (v6_scope_id a);
  port = 58 ∷ decimal (v6_port a);
  spelled = simp append_assoc;
  ip_text = IsColonHex-ipv6_text (ipv6_segments (v6_ip a)) h.0.0 h.0.1;
  scope_text = IsScopeText-scope_text (v6_scope_id a) h.2;
  port_text = IsPortText-decimal (v6_port a) h.1;
  no_flowinfo = none;
}

pub spells_socket : (a : SocketAddr) → IsSocketAddr a → socket_flowinfo a ≡ 0 → IsSocketText (socket_text a) a
spells_socket (socket.V4 a) h none = spells_v4 a h
spells_socket (socket.V6 a) h none = spells_v6 a h none
