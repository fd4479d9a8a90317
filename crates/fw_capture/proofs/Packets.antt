-- Packets that are written in parts.
use Rattle.std.proofs.Common.{◌≡◌, ℕ, ◌+◌, ◌*◌, List, [], ◌∷◌, ◌++◌, length, sym, ap, ◌∙◌, append_assoc, arith}
use Rattle.std.specs.Int.{w16, to_be_bytes}
use Rattle.std.proofs.lemmas.List.{length-append}
use Rattle.fw_capture.specs.Checksum.{word_sum, checksum, checksum_of}
use Rattle.fw_capture.specs.View.{ipv4, ipv6, datagram}
use Rattle.fw_capture.specs.Spelling.{udp_header, sent_checksum, udp_datagram, ipv4_header, ipv4_packet, ipv4_pseudo, ipv6_header, ipv6_packet, ipv6_pseudo, record_header, packet_bytes}
use Rattle.fw_capture.specs.Private.{udp_summed}
use Rattle.fw_capture.proofs.Sums.{word_sum-append}

-- a datagram by the sum of its pseudo header is the datagram
pub udp_is : (k : ℕ) (pseudo : List ℕ) (from to : ℕ) (bytes : List ℕ) → length pseudo ≡ 2 * k → udp_summed (word_sum pseudo) from to bytes ≡ udp_datagram pseudo from to bytes
udp_is k pseudo from to bytes e =
    ap (λ (n : ℕ). udp_header from to (8 + length bytes) (sent_checksum (checksum_of n)) ++ bytes) (sym (word_sum-append k pseudo (udp_header from to (8 + length bytes) 0 ++ bytes) e))

pub udp_length : (pseudo : List ℕ) (from to : ℕ) (bytes : List ℕ) → length (udp_datagram pseudo from to bytes) ≡ 8 + length bytes
udp_length pseudo from to bytes = omega arith

pub ipv4_length : (protocol size : ℕ) (from to : List ℕ) (sum : ℕ) (rest : List ℕ) → length from ≡ 4 → length to ≡ 4 → length (ipv4_header protocol size from to sum ++ rest) ≡ 20 + length rest
ipv4_length protocol size from to sum rest e f = omega (arith, length-append (from ++ to) rest, length-append from to)

pub ipv6_length : (protocol size : ℕ) (from to rest : List ℕ) → length from ≡ 16 → length to ≡ 16 → length (ipv6_header protocol size from to ++ rest) ≡ 40 + length rest
ipv6_length protocol size from to rest e f = omega (arith, length-append (from ++ to) rest, length-append from to)

pub ipv4_pseudo_length : (from to : List ℕ) (size : ℕ) → length from ≡ 4 → length to ≡ 4 → length (ipv4_pseudo from to size) ≡ 2 * 6
ipv4_pseudo_length from to size e f = simp length-append (omega arith)

pub ipv6_pseudo_length : (from to : List ℕ) (size : ℕ) → length from ≡ 16 → length to ≡ 16 → length (ipv6_pseudo from to size) ≡ 2 * 20
ipv6_pseudo_length from to size e f = simp length-append (omega arith)

-- three parts that were appended one after another
pub joined : (old r h u q a b c : List ℕ) → a ≡ old ++ r → b ≡ a ++ h → c ≡ b ++ u → r ++ (h ++ u) ≡ q → c ≡ old ++ q
joined old r h u q a b c p1 p2 p3 e =
    p3 ∙ ap (λ (x : List ℕ). x ++ u) (p2 ∙ ap (λ (x : List ℕ). x ++ h) p1) ∙ append_assoc (old ++ r) h u ∙ append_assoc old r (h ++ u) ∙ ap (λ (x : List ℕ). old ++ x) e

-- the parts of a record of IPv4
pub ipv4_record : (time m n : ℕ) (from to bytes : List ℕ) → length from ≡ 4 → length to ≡ 4
    → record_header time (20 + (8 + length bytes)) ++ (ipv4_header 17 (20 + (8 + length bytes)) from to (checksum (ipv4_header 17 (20 + (8 + length bytes)) from to 0)) ++ udp_summed (word_sum (ipv4_pseudo from to (8 + length bytes))) m n bytes)
    ≡ packet_bytes time (datagram (ipv4 from m) (ipv4 to n) bytes)
unfolding packet_bytes
ipv4_record time m n from to bytes e f =
    let pseudo : List ℕ = ipv4_pseudo from to (8 + length bytes) in
    let udp : List ℕ = udp_datagram pseudo m n bytes in
    let size : ℕ = 20 + (8 + length bytes) in
    let same : udp_summed (word_sum pseudo) m n bytes ≡ udp = udp_is 6 pseudo m n bytes (ipv4_pseudo_length from to (8 + length bytes) e f) in
    let inner : size ≡ 20 + length udp = ap (λ (k : ℕ). 20 + k) (sym (udp_length pseudo m n bytes)) in
    let outer : size ≡ length (ipv4_packet 17 from to udp) = inner ∙ sym (ipv4_length 17 (20 + length udp) from to (checksum (ipv4_header 17 (20 + length udp) from to 0)) udp e f) in
    ap (λ (u : List ℕ). record_header time size ++ (ipv4_header 17 size from to (checksum (ipv4_header 17 size from to 0)) ++ u)) same
    ∙ ap (λ (k : ℕ). record_header time size ++ (ipv4_header 17 k from to (checksum (ipv4_header 17 k from to 0)) ++ udp)) inner
    ∙ ap (λ (k : ℕ). record_header time k ++ ipv4_packet 17 from to udp) outer

-- the parts of a record of IPv6
pub ipv6_record : (time m n : ℕ) (from to bytes : List ℕ) → length from ≡ 16 → length to ≡ 16
    → record_header time (40 + (8 + length bytes)) ++ (ipv6_header 17 (8 + length bytes) from to ++ udp_summed (word_sum (ipv6_pseudo from to (8 + length bytes))) m n bytes)
    ≡ packet_bytes time (datagram (ipv6 from m) (ipv6 to n) bytes)
unfolding packet_bytes
ipv6_record time m n from to bytes e f =
    let pseudo : List ℕ = ipv6_pseudo from to (8 + length bytes) in
    let udp : List ℕ = udp_datagram pseudo m n bytes in
    let size : ℕ = 8 + length bytes in
    let same : udp_summed (word_sum pseudo) m n bytes ≡ udp = udp_is 20 pseudo m n bytes (ipv6_pseudo_length from to (8 + length bytes) e f) in
    let inner : size ≡ length udp = sym (udp_length pseudo m n bytes) in
    let outer : 40 + size ≡ length (ipv6_packet 17 from to udp) = ap (λ (k : ℕ). 40 + k) inner ∙ sym (ipv6_length 17 (length udp) from to udp e f) in
    ap (λ (u : List ℕ). record_header time (40 + size) ++ (ipv6_header 17 size from to ++ u)) same
    ∙ ap (λ (k : ℕ). record_header time (40 + size) ++ (ipv6_header 17 k from to ++ udp)) inner
    ∙ ap (λ (k : ℕ). record_header time k ++ ipv6_packet 17 from to udp) outer

-- such a record, written by parts at addresses and ports that are these
pub ipv4_put : (old a b c : List ℕ) (time : ℕ) (source dest from to bytes : List ℕ) (p q m n sum : ℕ)
    → source ≡ from → dest ≡ to → p ≡ m → q ≡ n → sum ≡ word_sum (ipv4_pseudo source dest (8 + length bytes)) → length source ≡ 4 → length dest ≡ 4
    → a ≡ old ++ record_header time (20 + (8 + length bytes))
    → b ≡ a ++ ipv4_header 17 (20 + (8 + length bytes)) source dest (checksum (ipv4_header 17 (20 + (8 + length bytes)) source dest 0))
    → c ≡ b ++ udp_summed sum p q bytes → c ≡ old ++ packet_bytes time (datagram (ipv4 from m) (ipv4 to n) bytes)
ipv4_put old a b c time source dest from to bytes p q m n sum source-is dest-is p-is q-is sum-is e f first second third =
    let size : ℕ = 20 + (8 + length bytes) in
    let r : List ℕ = record_header time size in
    let h : List ℕ = ipv4_header 17 size source dest (checksum (ipv4_header 17 size source dest 0)) in
    joined old r h (udp_summed sum p q bytes) (packet_bytes time (datagram (ipv4 source p) (ipv4 dest q) bytes)) a b c first second third
    (ap (λ (s : ℕ). r ++ (h ++ udp_summed s p q bytes)) sum-is ∙ ipv4_record time p q source dest bytes e f)
    ∙ ap (λ (x : List ℕ). old ++ packet_bytes time (datagram (ipv4 x p) (ipv4 dest q) bytes)) source-is
    ∙ ap (λ (x : List ℕ). old ++ packet_bytes time (datagram (ipv4 from p) (ipv4 x q) bytes)) dest-is
    ∙ ap (λ (x : ℕ). old ++ packet_bytes time (datagram (ipv4 from x) (ipv4 to q) bytes)) p-is
    ∙ ap (λ (x : ℕ). old ++ packet_bytes time (datagram (ipv4 from m) (ipv4 to x) bytes)) q-is

pub ipv6_put : (old a b c : List ℕ) (time : ℕ) (source dest from to bytes : List ℕ) (p q m n sum : ℕ)
    → source ≡ from → dest ≡ to → p ≡ m → q ≡ n → sum ≡ word_sum (ipv6_pseudo source dest (8 + length bytes)) → length source ≡ 16 → length dest ≡ 16
    → a ≡ old ++ record_header time (40 + (8 + length bytes))
    → b ≡ a ++ ipv6_header 17 (8 + length bytes) source dest
    → c ≡ b ++ udp_summed sum p q bytes → c ≡ old ++ packet_bytes time (datagram (ipv6 from m) (ipv6 to n) bytes)
ipv6_put old a b c time source dest from to bytes p q m n sum source-is dest-is p-is q-is sum-is e f first second third =
    let r : List ℕ = record_header time (40 + (8 + length bytes)) in
    let h : List ℕ = ipv6_header 17 (8 + length bytes) source dest in
    joined old r h (udp_summed sum p q bytes) (packet_bytes time (datagram (ipv6 source p) (ipv6 dest q) bytes)) a b c first second third
    (ap (λ (s : ℕ). r ++ (h ++ udp_summed s p q bytes)) sum-is ∙ ipv6_record time p q source dest bytes e f)
    ∙ ap (λ (x : List ℕ). old ++ packet_bytes time (datagram (ipv6 x p) (ipv6 dest q) bytes)) source-is
    ∙ ap (λ (x : List ℕ). old ++ packet_bytes time (datagram (ipv6 from p) (ipv6 x q) bytes)) dest-is
    ∙ ap (λ (x : ℕ). old ++ packet_bytes time (datagram (ipv6 from x) (ipv6 to q) bytes)) p-is
    ∙ ap (λ (x : ℕ). old ++ packet_bytes time (datagram (ipv6 from m) (ipv6 to x) bytes)) q-is

-- one part more
appended : (old r a u b : List ℕ) → a ≡ old ++ r → b ≡ a ++ u → b ≡ old ++ (r ++ u)
appended old r a u b p q = q ∙ ap (λ (x : List ℕ). x ++ u) p ∙ append_assoc old r u

-- an IPv4 header, written by parts
pub ipv4_header_put : (old a b c d e f s t from to : List ℕ) (protocol size sum : ℕ)
    → s ≡ to_be_bytes w16 size → t ≡ to_be_bytes w16 sum → sum ≡ checksum (ipv4_header protocol size from to 0)
    → a ≡ old ++ (0x45 ∷ 0 ∷ []) → b ≡ a ++ s → c ≡ b ++ (0 ∷ 0 ∷ 0x40 ∷ 0 ∷ 64 ∷ protocol ∷ []) → d ≡ c ++ t → e ≡ d ++ from → f ≡ e ++ to
    → f ≡ old ++ ipv4_header protocol size from to (checksum (ipv4_header protocol size from to 0))
ipv4_header_put old a b c d e f s t from to protocol size sum s-is t-is sum-is p1 p2 p3 p4 p5 p6 =
    let one : List ℕ = 0x45 ∷ 0 ∷ [] in
    let three : List ℕ = 0 ∷ 0 ∷ 0x40 ∷ 0 ∷ 64 ∷ protocol ∷ [] in
    let q2 = appended old one a s b p1 p2 in
    let q3 = appended old (one ++ s) b three c q2 p3 in
    let q4 = appended old (one ++ s ++ three) c t d q3 p4 in
    let q5 = appended old (one ++ s ++ three ++ t) d from e q4 p5 in
    let q6 = appended old (one ++ s ++ three ++ t ++ from) e to f q5 p6 in
    q6
    ∙ ap (λ (x : List ℕ). old ++ (one ++ x ++ three ++ t ++ from ++ to)) s-is
    ∙ ap (λ (x : List ℕ). old ++ (one ++ to_be_bytes w16 size ++ three ++ x ++ from ++ to)) (t-is ∙ ap (λ (n : ℕ). to_be_bytes w16 n) sum-is)
