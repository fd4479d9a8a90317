-- Texts without a line feed.
use Rattle.std.proofs.Common.{◌≡◌, ◌<◌, ◌≤◌, ◌^◌, ℕ, Bool, true, false, List, [], ◌∷◌, ◌++◌, All, decimal, Ok, refl, sym, subst, arith, inl, inr}
use Rattle.std.specs.Prelude.{◌≢◌, IsOk, codes}
use Rattle.std.specs.Char.{digit_value}
use Rattle.std.specs.Str.Parse.{AllDigits}
use Rattle.std.specs.declared.net.socket_addr.SocketAddr.{SocketAddr}
use Rattle.std.specs.declared.net.socket_addr.SocketAddr.TheVariants as Socket
use Rattle.std.specs.declared.net.socket_addr.SocketAddrV4.{SocketAddrV4}
use Rattle.std.specs.declared.net.socket_addr.SocketAddrV6.{SocketAddrV6}
use Rattle.std.specs.Net.Addr.{ipv4_octets, ipv6_segments}
use Rattle.std.specs.Net.Socket.{v4_ip, v4_port, v6_ip, v6_port, v6_scope_id}
use Rattle.std.specs.Net.Grammar.{IsColonHex, IsDotted, IsGroupsAfter, IsPortText, IsScopeText, IsSocketText, IsSocketV4Text, IsSocketV6Text}
use Rattle.std.specs.Net.Text.{dotted_text}
use Rattle.std.proofs.lemmas.Bool.{false≢true}
use Rattle.std.proofs.lemmas.Fmt.{decimal_is_IsNumeral}
use Rattle.std.proofs.lemmas.List.Elements.{All-append, All-cons, All-nil}
use Rattle.hex.specs.Hex.{decode_sized, is_hex_digit}
use Rattle.hex.proofs.HexLemmas.{IsOk-decode_sized}
use Rattle.fw_text.specs.Laws.{IsLine}

-- `IsLine`, in a record so that antt reads the lists off a goal
record Each (text : List ℕ) : Type 0 where
  all : IsLine text

nil : Each []
nil = record { all = All-nil (λ (byte : ℕ). byte ≢ 10) }

and : (xs ys : List ℕ) → Each xs → Each ys → Each (xs ++ ys)
and xs ys h k = record { all = All-append (λ (byte : ℕ). byte ≢ 10) xs ys h.all k.all }

one : (byte : ℕ) → byte ≢ 10 → Each (byte ∷ [])
one byte other = record { all = All-cons (λ (b : ℕ). b ≢ 10) byte [] other (All-nil (λ (b : ℕ). b ≢ 10)) }

-- ---- numbers

digit : (radix c : ℕ) → radix ≤ 36 → digit_value c < radix → c ≢ 10
digit radix c fits is ten =
    let large : 36 < radix = subst (λ x. digit_value x < radix) ten is in
    absurd (omega (arith, large, fits))

digits : (radix : ℕ) (text : List ℕ) → radix ≤ 36 → AllDigits radix text → IsLine text
digits radix [] fits all = All-nil (λ (b : ℕ). b ≢ 10)
digits radix (c ∷ text) fits all = All-cons (λ (b : ℕ). b ≢ 10) c text (digit radix c fits all.0) (digits radix text fits all.1)

each_digit : (radix : ℕ) (text : List ℕ) → radix ≤ 36 → AllDigits radix text → Each text
each_digit radix text fits all = record { all = digits radix text fits all }

each_decimal : (n : ℕ) → n < 2 ^ 64 → Each (decimal n)
each_decimal n fits = each_digit 10 (decimal n) (omega arith) (decimal_is_IsNumeral n fits).0.1

pub plain_decimal : (n : ℕ) → n < 2 ^ 64 → IsLine (decimal n)
plain_decimal n fits = (each_decimal n fits).all

-- ---- addresses

dot : Each (46 ∷ [])
dot = one 46 (λ e. absurd (omega (arith, e)))

colon : Each (58 ∷ [])
colon = one 58 (λ e. absurd (omega (arith, e)))

octet : (n : ℕ) → n < 256 → Each (decimal n)
octet n fits = each_decimal n (omega arith)

dotted : (text octets : List ℕ) → IsDotted text octets → Each text
dotted text octets d =
    let first = and (decimal d.a ++ 46 ∷ []) (decimal d.b) (and (decimal d.a) (46 ∷ []) (octet d.a d.fit.0) dot) (octet d.b d.fit.1) in
    let second = and (decimal d.a ++ 46 ∷ [] ++ decimal d.b ++ 46 ∷ []) (decimal d.c) (and (decimal d.a ++ 46 ∷ [] ++ decimal d.b) (46 ∷ []) first dot) (octet d.c d.fit.2) in
    let third = and (decimal d.a ++ 46 ∷ [] ++ decimal d.b ++ 46 ∷ [] ++ decimal d.c ++ 46 ∷ []) (decimal d.d)
    (and (decimal d.a ++ 46 ∷ [] ++ decimal d.b ++ 46 ∷ [] ++ decimal d.c) (46 ∷ []) second dot) (octet d.d d.fit.3) in
    subst (λ t. Each t) (sym d.spelled) third

groups : (ipv4 : Bool) (segments lead text : List ℕ) → Each lead → IsGroupsAfter ipv4 lead text segments → Each text
groups ipv4 [] lead text led is = subst (λ t. Each t) (sym is) nil
groups ipv4 (s ∷ segments) lead text led (inl h) =
    let (group, rest, is, number, more) = h in
    subst (λ t. Each t) (sym is)
    (and (lead ++ group) rest (and lead group led (each_digit 16 group (omega arith) number.0.0.1)) (groups ipv4 segments (58 ∷ []) rest colon more))
groups ipv4 (s ∷ segments) lead text led (inr h) =
    let (last, octets, four, is, ip, same) = h in
    subst (λ t. Each t) (sym is) (and lead last led (dotted last octets ip))

colon_hex : (text segments : List ℕ) → IsColonHex text segments → Each text
colon_hex text segments (inl h) = groups true segments [] text nil h.0
colon_hex text segments (inr e) =
    let head = groups false e.head [] e.head_text nil e.head_groups in
    let tail = groups true e.tail [] e.tail_text nil e.tail_groups in
    subst (λ t. Each t) (sym e.spelled)
    (and (e.head_text ++ 58 ∷ 58 ∷ []) e.tail_text (and e.head_text (58 ∷ 58 ∷ []) head (and (58 ∷ []) (58 ∷ []) colon colon)) tail)

port_text : (text : List ℕ) (port : ℕ) → IsPortText text port → Each text
port_text text port h =
    let (ds, is, number, fits) = h in
    subst (λ t. Each t) (sym is) (and (58 ∷ []) ds colon (each_digit 10 ds (omega arith) number.0.1))

scope_text : (text : List ℕ) (scope : ℕ) → IsScopeText text scope → Each text
scope_text text scope (inl h) = subst (λ t. Each t) (sym h.0) nil
scope_text text scope (inr h) =
    let (ds, is, number, fits) = h in
    subst (λ t. Each t) (sym is) (and (37 ∷ []) ds (one 37 (λ e. absurd (omega (arith, e)))) (each_digit 10 ds (omega arith) number.0.1))

v4_text : (text : List ℕ) (a : SocketAddrV4) → IsSocketV4Text text a → Each text
v4_text text a h =
    let (ip, port, is, is_ip, is_port) = h in
    subst (λ t. Each t) (sym is) (and ip port (dotted ip (ipv4_octets (v4_ip a)) is_ip) (port_text port (v4_port a) is_port))

v6_text : (text : List ℕ) (a : SocketAddrV6) → IsSocketV6Text text a → Each text
v6_text text a h =
    let opened = one 91 (λ e. absurd (omega (arith, e))) in
    let close = one 93 (λ e. absurd (omega (arith, e))) in
    let ip = and (91 ∷ []) h.ip opened (colon_hex h.ip (ipv6_segments (v6_ip a)) h.ip_text) in
    let scope = and (91 ∷ [] ++ h.ip) h.scope ip (scope_text h.scope (v6_scope_id a) h.scope_text) in
    let closed = and (91 ∷ [] ++ h.ip ++ h.scope) (93 ∷ []) scope close in
    subst (λ t. Each t) (sym h.spelled) (and (91 ∷ [] ++ h.ip ++ h.scope ++ 93 ∷ []) h.port closed (port_text h.port (v6_port a) h.port_text))

pub plain_socket : (text : List ℕ) (a : SocketAddr) → IsSocketText text a → IsLine text
plain_socket text (Socket.V4 a) h = (v4_text text a h).all
plain_socket text (Socket.V6 a) h = (v6_text text a h).all

-- ---- lines

pub plain_hex : (text : List ℕ) (size : ℕ) (bytes : List ℕ) → decode_sized text size ≡ Ok bytes → IsLine text
plain_hex text size bytes is = λ k d within ten.
    let ok : IsOk (decode_sized text size) = subst (λ r. IsOk r) (sym is) refl in
    let pass = ((IsOk-decode_sized text size).0 ok).1 k d within in
    absurd (false≢true (subst (λ c. is_hex_digit c ≡ true) ten pass))

comma : (text : List ℕ) → IsLine text → Each (44 ∷ text)
comma text plain = and (44 ∷ []) text (one 44 (λ e. absurd (omega (arith, e)))) (record { all = plain })

pub plain_line : (name title encryption authentication : List ℕ) → IsLine name → IsLine title → IsLine encryption → IsLine authentication
    → IsLine (name ++ 44 ∷ title ++ 44 ∷ encryption ++ 44 ∷ authentication)
plain_line name title encryption authentication n t e a =
    let named : Each name = record { all = n } in
    (and (name ++ 44 ∷ title ++ 44 ∷ encryption) (44 ∷ authentication)
    (and (name ++ 44 ∷ title) (44 ∷ encryption) (and name (44 ∷ title) named (comma title t)) (comma encryption e)) (comma authentication a)).all
