-- What is written is read back.
use Rattle.std.proofs.Common.{◌≡◌, ℕ, ◌+◌, ◌-◌, ◌*◌, ◌/◌, ◌%◌, ◌^◌, ◌<◌, ◌≤◌, Bool, true, false, not, leb, eqb, ◌||◌, List, [], ◌∷◌, ◌++◌, length, take, drop, Option, Some, None, Result, Ok, Err, refl, sym, ap, ◌∙◌, arith, append_assoc}
use Rattle.std.specs.Int.{w16, w64, from_be_bytes, to_be_bytes}
use Rattle.std.specs.Str.{bytes_eq}
use Rattle.std.proofs.lemmas.Bool.{le-ltb, leb-false, ltb-false, eq-eqb, ne_eqb}
use Rattle.std.proofs.lemmas.List.{length-append}
use Rattle.std.proofs.lemmas.Nat.{from_be_bytes-to_be_bytes_2, from_be_bytes-to_be_bytes_4, from_be_bytes-to_be_bytes_8, from_le_bytes-to_le_bytes_4}
use Rattle.std.proofs.Math.Seq.{take-length, take-append_seam, drop-append_seam}
use Rattle.fw_capture.specs.declared.error.AppendError.{AppendError}
use Rattle.fw_capture.specs.declared.error.AppendError.TheVariants.{TimePast, TwoFamilies, TooLong}
use Rattle.fw_capture.specs.declared.fault.CaptureFault.{CaptureFault}
use Rattle.fw_capture.specs.declared.fault.CaptureError.{CaptureError}
use Rattle.fw_capture.specs.declared.packet.Packet.{Packet}
use Rattle.fw_capture.specs.declared.packet.Note.{Note}
use Rattle.fw_capture.specs.declared.packet.Note.TheVariants as notes
use Rattle.fw_capture.specs.declared.format.Link.TheVariants as link
use Rattle.fw_capture.specs.View.{ipv4, ipv6, Told, datagram, note, other, IsEndpoint, IsNote, IsTold, told_in}
use Rattle.fw_capture.specs.Checksum.{checksum}
use Rattle.fw_capture.specs.Spelling.{second, asking_words, note_protocol, note_text, loopback, udp_datagram, ipv4_packet, ipv4_header, ipv4_pseudo, ipv6_packet, ipv6_pseudo, ip_packet, packet_bytes, file_header}
use Rattle.fw_capture.specs.Refusal.{first_applying, two_families, too_long}
use Rattle.fw_capture.specs.Reading.{short_at, note_at, udp_at, ipv4_size, ipv4_payload_at, ipv6_payload_size, ipv6_payload_at, frame_at, header_at, seconds_at, size_at, fraction_at, time_at, record_at, ◌>>=◌}
use Rattle.fw_capture.specs.Place.{Place}
use Rattle.fw_capture.specs.Steps.{NextGives}
use Rattle.fw_capture.specs.Laws.{written, HeaderIsRead, PacketIsRead, IsPacket, NextIsRead}
use Rattle.fw_capture.proofs.Packets.{udp_length, ipv4_length, ipv6_length}
use Rattle.fw_capture.proofs.Readings.{udp_read, ipv4_read, ipv6_read, raw_ipv4, raw_ipv6, record_read}

-- where one list ends and another begins
take_seam : (n : ℕ) (xs ys : List ℕ) → length xs ≡ n → take n (xs ++ ys) ≡ xs
take_seam n xs ys e = ap (λ (k : ℕ). take k (xs ++ ys)) (sym e) ∙ take-append_seam xs ys

drop_seam : (n : ℕ) (xs ys : List ℕ) → length xs ≡ n → drop n (xs ++ ys) ≡ ys
drop_seam n xs ys e = ap (λ (k : ℕ). drop k (xs ++ ys)) (sym e) ∙ drop-append_seam xs ys

-- two addresses of one length before what follows them
first_of_two : (n : ℕ) (from to rest : List ℕ) → length from ≡ n → take n (from ++ to ++ rest) ≡ from
first_of_two n from to rest e = ap (λ (x : List ℕ). take n x) (append_assoc from to rest) ∙ take_seam n from (to ++ rest) e

second_of_two : (n : ℕ) (from to rest : List ℕ) → length from ≡ n → length to ≡ n → take n (drop n (from ++ to ++ rest)) ≡ to
second_of_two n from to rest e f =
    ap (λ (x : List ℕ). take n (drop n x)) (append_assoc from to rest) ∙ ap (λ (x : List ℕ). take n x) (drop_seam n from (to ++ rest) e) ∙ take_seam n to rest f

after_two : (m : ℕ) (from to rest : List ℕ) → length from + length to ≡ m → drop m (from ++ to ++ rest) ≡ rest
after_two m from to rest e = drop_seam m (from ++ to) rest (length-append from to ∙ e)

-- ---- UDP

udp_back : (pseudo : List ℕ) (m n : ℕ) (bytes : List ℕ) → m < 2 ^ 16 → n < 2 ^ 16 → 8 + length bytes < 2 ^ 16
    → udp_at (udp_datagram pseudo m n bytes) ≡ Ok (m, n, bytes)
udp_back pseudo m n bytes m-fits n-fits fits =
    let payload : List ℕ = udp_datagram pseudo m n bytes in
    let size : length payload ≡ 8 + length bytes = udp_length pseudo m n bytes in
    udp_read payload (omega arith) (from_be_bytes-to_be_bytes_2 (8 + length bytes) fits ∙ sym size)
    ∙ ap (λ (k : ℕ). Ok (k, short_at 2 payload, bytes)) (from_be_bytes-to_be_bytes_2 m m-fits)
    ∙ ap (λ (k : ℕ). Ok (m, k, bytes)) (from_be_bytes-to_be_bytes_2 n n-fits)

-- ---- IPv4

ipv4_back : (protocol : ℕ) (from to payload : List ℕ) → not (eqb protocol 17 || eqb protocol note_protocol) ≡ false → length from ≡ 4 → length to ≡ 4
    → 20 + length payload < 2 ^ 16 → frame_at link.Raw (ipv4_packet protocol from to payload) ≡ ipv4_payload_at (ipv4_packet protocol from to payload) payload
ipv4_back protocol from to payload known e f fits =
    let packet : List ℕ = ipv4_packet protocol from to payload in
    let size : length packet ≡ 20 + length payload = ipv4_length protocol (20 + length payload) from to (checksum (ipv4_header protocol (20 + length payload) from to 0)) payload e f in
    let said : ipv4_size packet ≡ length packet = from_be_bytes-to_be_bytes_2 (20 + length payload) fits ∙ sym size in
    let body : drop 20 (take (ipv4_size packet) packet) ≡ payload =
    ap (λ (n : ℕ). drop 20 (take n packet)) said ∙ ap (λ (x : List ℕ). drop 20 x) (take-length packet) ∙ after_two 8 from to payload (omega arith) in
    raw_ipv4 packet (omega arith) refl
    ∙ ipv4_read packet (omega arith) refl (omega arith) (omega arith) known (omega arith) (omega arith)
    ∙ ap (λ (x : List ℕ). ipv4_payload_at packet x) body

ipv4_datagram_back : (from to : List ℕ) (m n : ℕ) (bytes : List ℕ) → IsEndpoint (ipv4 from m) → IsEndpoint (ipv4 to n) → 28 + length bytes < 2 ^ 16
    → frame_at link.Raw (ip_packet (datagram (ipv4 from m) (ipv4 to n) bytes)) ≡ Ok (datagram (ipv4 from m) (ipv4 to n) bytes)
ipv4_datagram_back from to m n bytes source dest fits =
    let payload : List ℕ = udp_datagram (ipv4_pseudo from to (8 + length bytes)) m n bytes in
    let size : length payload ≡ 8 + length bytes = udp_length (ipv4_pseudo from to (8 + length bytes)) m n bytes in
    let packet : List ℕ = ipv4_packet 17 from to payload in
    ipv4_back 17 from to payload refl source.0 dest.0 (omega arith)
    ∙ ap (λ x. x >>= λ udp. Ok (datagram (ipv4 (take 4 (drop 12 packet)) udp.0) (ipv4 (take 4 (drop 16 packet)) udp.1) udp.2))
    (udp_back (ipv4_pseudo from to (8 + length bytes)) m n bytes source.1 dest.1 (omega arith))
    ∙ ap (λ (x : List ℕ). Ok (datagram (ipv4 x m) (ipv4 (take 4 (drop 16 packet)) n) bytes)) (first_of_two 4 from to payload source.0)
    ∙ ap (λ (x : List ℕ). Ok (datagram (ipv4 from m) (ipv4 x n) bytes)) (second_of_two 4 from to payload source.0 dest.0)

-- ---- IPv6

ipv6_back : (from to payload : List ℕ) → length from ≡ 16 → length to ≡ 16 → length payload < 2 ^ 16
    → frame_at link.Raw (ipv6_packet 17 from to payload) ≡ ipv6_payload_at (ipv6_packet 17 from to payload) payload
ipv6_back from to payload e f fits =
    let packet : List ℕ = ipv6_packet 17 from to payload in
    let size : length packet ≡ 40 + length payload = ipv6_length 17 (length payload) from to payload e f in
    let said : ipv6_payload_size packet ≡ length payload = from_be_bytes-to_be_bytes_2 (length payload) fits in
    let body : take (ipv6_payload_size packet) (drop 40 packet) ≡ payload =
    ap (λ (n : ℕ). take n (drop 40 packet)) said ∙ ap (λ (x : List ℕ). take (length payload) x) (after_two 32 from to payload (omega arith)) ∙ take-length payload in
    raw_ipv6 packet (omega arith) refl
    ∙ ipv6_read packet (omega arith) refl refl (omega arith)
    ∙ ap (λ (x : List ℕ). ipv6_payload_at packet x) body

ipv6_datagram_back : (from to : List ℕ) (m n : ℕ) (bytes : List ℕ) → IsEndpoint (ipv6 from m) → IsEndpoint (ipv6 to n) → 8 + length bytes < 2 ^ 16
    → frame_at link.Raw (ip_packet (datagram (ipv6 from m) (ipv6 to n) bytes)) ≡ Ok (datagram (ipv6 from m) (ipv6 to n) bytes)
ipv6_datagram_back from to m n bytes source dest fits =
    let payload : List ℕ = udp_datagram (ipv6_pseudo from to (8 + length bytes)) m n bytes in
    let size : length payload ≡ 8 + length bytes = udp_length (ipv6_pseudo from to (8 + length bytes)) m n bytes in
    let packet : List ℕ = ipv6_packet 17 from to payload in
    ipv6_back from to payload source.0 dest.0 (omega arith)
    ∙ ap (λ x. x >>= λ udp. Ok (datagram (ipv6 (take 16 (drop 8 packet)) udp.0) (ipv6 (take 16 (drop 24 packet)) udp.1) udp.2))
    (udp_back (ipv6_pseudo from to (8 + length bytes)) m n bytes source.1 dest.1 (omega arith))
    ∙ ap (λ (x : List ℕ). Ok (datagram (ipv6 x m) (ipv6 (take 16 (drop 24 packet)) n) bytes)) (first_of_two 16 from to payload source.0)
    ∙ ap (λ (x : List ℕ). Ok (datagram (ipv6 from m) (ipv6 x n) bytes)) (second_of_two 16 from to payload source.0 dest.0)

-- ---- notes

asking_length : (octets : List ℕ) (port : ℕ) → length (asking_words ++ octets ++ to_be_bytes w16 port) ≡ 17 + length octets
asking_length octets port = omega (arith, length-append octets (to_be_bytes w16 port))

asking_v4_read : (payload : List ℕ) → bytes_eq payload (note_text notes.Start) ≡ false → bytes_eq payload (note_text notes.Turn) ≡ false → length payload ≡ 21
    → bytes_eq (take 15 payload) asking_words ≡ true → note_at payload ≡ note (notes.MayAskV4 (take 4 (drop 15 payload)) (short_at 19 payload))
asking_v4_read payload no_start no_turn size words = rw (no_start, no_turn, eq-eqb (length payload) 21 size, words)

asking_v6_read : (payload : List ℕ) → bytes_eq payload (note_text notes.Start) ≡ false → bytes_eq payload (note_text notes.Turn) ≡ false → length payload ≡ 33
    → bytes_eq (take 15 payload) asking_words ≡ true → note_at payload ≡ note (notes.MayAskV6 (take 16 (drop 15 payload)) (short_at 31 payload))
asking_v6_read payload no_start no_turn size words =
    let other : (length payload ≡ 21 → ⊥) = λ e. omega (arith, e, size) in
    rw (no_start, no_turn, ne_eqb (length payload) 21 other, eq-eqb (length payload) 33 size, words)

-- the address and the port stand behind the words
asked_v4 : (octets : List ℕ) (port : ℕ) → length octets ≡ 4 → port < 2 ^ 16 → note_at (note_text (notes.MayAskV4 octets port)) ≡ note (notes.MayAskV4 octets port)
asked_v4 octets port size fits =
    let text : List ℕ = note_text (notes.MayAskV4 octets port) in
    let behind : List ℕ = to_be_bytes w16 port in
    asking_v4_read text refl refl (omega (arith, asking_length octets port, size)) refl
    ∙ ap (λ (o : List ℕ). note (notes.MayAskV4 o (short_at 19 text))) (take_seam 4 octets behind size)
    ∙ ap (λ (p : List ℕ). note (notes.MayAskV4 octets (from_be_bytes w16 (take 2 p)))) (drop_seam 4 octets behind size)
    ∙ ap (λ (n : ℕ). note (notes.MayAskV4 octets n)) (from_be_bytes-to_be_bytes_2 port fits)

asked_v6 : (octets : List ℕ) (port : ℕ) → length octets ≡ 16 → port < 2 ^ 16 → note_at (note_text (notes.MayAskV6 octets port)) ≡ note (notes.MayAskV6 octets port)
asked_v6 octets port size fits =
    let text : List ℕ = note_text (notes.MayAskV6 octets port) in
    let behind : List ℕ = to_be_bytes w16 port in
    asking_v6_read text refl refl (omega (arith, asking_length octets port, size)) refl
    ∙ ap (λ (o : List ℕ). note (notes.MayAskV6 o (short_at 31 text))) (take_seam 16 octets behind size)
    ∙ ap (λ (p : List ℕ). note (notes.MayAskV6 octets (from_be_bytes w16 (take 2 p)))) (drop_seam 16 octets behind size)
    ∙ ap (λ (n : ℕ). note (notes.MayAskV6 octets n)) (from_be_bytes-to_be_bytes_2 port fits)

note_back : (n : Note) → IsNote n → frame_at link.Raw (ip_packet (note n)) ≡ Ok (note n)
note_back notes.Start fits = ipv4_back note_protocol loopback loopback (note_text notes.Start) refl refl refl (omega arith)
note_back (notes.MeterStart count heads) fits =
    ipv4_back note_protocol loopback loopback (note_text (notes.MeterStart count heads)) refl refl refl (omega arith)
    ∙ ap (λ (n : ℕ). Ok (note (notes.MeterStart n (from_be_bytes w64 (to_be_bytes w64 heads))))) (from_be_bytes-to_be_bytes_4 count fits.0)
    ∙ ap (λ (n : ℕ). Ok (note (notes.MeterStart count n))) (from_be_bytes-to_be_bytes_8 heads fits.1)
note_back (notes.HeadStart head) fits =
    ipv4_back note_protocol loopback loopback (note_text (notes.HeadStart head)) refl refl refl (omega arith)
    ∙ ap (λ (n : ℕ). Ok (note (notes.HeadStart n))) (from_be_bytes-to_be_bytes_4 head fits)
note_back (notes.MayAskV4 octets port) fits =
    ipv4_back note_protocol loopback loopback (note_text (notes.MayAskV4 octets port)) refl refl refl (omega (arith, asking_length octets port, fits.0))
    ∙ ap (λ (t : Told). Ok t) (asked_v4 octets port fits.0 fits.1)
note_back (notes.MayAskV6 octets port) fits =
    ipv4_back note_protocol loopback loopback (note_text (notes.MayAskV6 octets port)) refl refl refl (omega (arith, asking_length octets port, fits.0))
    ∙ ap (λ (t : Told). Ok t) (asked_v6 octets port fits.0 fits.1)
note_back notes.Turn fits = ipv4_back note_protocol loopback loopback (note_text notes.Turn) refl refl refl (omega arith)
note_back (notes.TurnAt port) fits =
    ipv4_back note_protocol loopback loopback (note_text (notes.TurnAt port)) refl refl refl (omega arith)
    ∙ ap (λ (n : ℕ). Ok (note (notes.TurnAt n))) (from_be_bytes-to_be_bytes_2 port fits)
note_back (notes.UnservedAt port) fits =
    ipv4_back note_protocol loopback loopback (note_text (notes.UnservedAt port)) refl refl refl (omega arith)
    ∙ ap (λ (n : ℕ). Ok (note (notes.UnservedAt n))) (from_be_bytes-to_be_bytes_2 port fits)
note_back (notes.Strangers count) fits =
    ipv4_back note_protocol loopback loopback (note_text (notes.Strangers count)) refl refl refl (omega arith)
    ∙ ap (λ (n : ℕ). Ok (note (notes.Strangers n))) (from_be_bytes-to_be_bytes_8 count fits)

note_size : (n : Note) → IsNote n → length (ip_packet (note n)) < 2 ^ 32
note_size notes.Start fits = omega arith
note_size (notes.MeterStart count heads) fits = omega arith
note_size (notes.HeadStart head) fits = omega arith
note_size (notes.MayAskV4 octets port) fits = omega (arith, asking_length octets port, fits.0)
note_size (notes.MayAskV6 octets port) fits = omega (arith, asking_length octets port, fits.0)
note_size notes.Turn fits = omega arith
note_size (notes.TurnAt port) fits = omega arith
note_size (notes.UnservedAt port) fits = omega arith
note_size (notes.Strangers count) fits = omega arith

-- ---- pcap

-- what refuses nothing passes each row
passes : (b : Bool) (error : AppendError) (rows : List (Bool × AppendError)) → first_applying ((b, error) ∷ rows) ≡ None
    → (b ≡ false) × (first_applying rows ≡ None)
passes true error rows e = absurd (cc)
passes false error rows e = (refl, e)

told_back : (told : Told) → IsTold told → two_families told ≡ false → too_long told ≡ false
    → (frame_at link.Raw (ip_packet told) ≡ Ok told) × (length (ip_packet told) < 2 ^ 32)
told_back (datagram (ipv4 from m) (ipv4 to n) bytes) known same short =
    let fits : 28 + length bytes ≤ 65535 = ltb-false 65535 (28 + length bytes) short in
    let udp : List ℕ = udp_datagram (ipv4_pseudo from to (8 + length bytes)) m n bytes in
    let inner : length udp ≡ 8 + length bytes = udp_length (ipv4_pseudo from to (8 + length bytes)) m n bytes in
    let size : length (ipv4_packet 17 from to udp) ≡ 20 + length udp = ipv4_length 17 (20 + length udp) from to (checksum (ipv4_header 17 (20 + length udp) from to 0)) udp known.0.0 known.1.0 in
    (ipv4_datagram_back from to m n bytes known.0 known.1 (omega arith), omega arith)
told_back (datagram (ipv6 from m) (ipv6 to n) bytes) known same short =
    let fits : 48 + length bytes ≤ 65535 = ltb-false 65535 (48 + length bytes) short in
    let udp : List ℕ = udp_datagram (ipv6_pseudo from to (8 + length bytes)) m n bytes in
    let inner : length udp ≡ 8 + length bytes = udp_length (ipv6_pseudo from to (8 + length bytes)) m n bytes in
    let size : length (ipv6_packet 17 from to udp) ≡ 40 + length udp = ipv6_length 17 (length udp) from to udp known.0.0 known.1.0 in
    (ipv6_datagram_back from to m n bytes known.0 known.1 (omega arith), omega arith)
told_back (datagram (ipv4 from m) (ipv6 to n) bytes) known same short = absurd (cc)
told_back (datagram (ipv6 from m) (ipv4 to n) bytes) known same short = absurd (cc)
told_back (note n) known same short = (note_back n known, note_size n known)
told_back other known same short = absurd known

pub header_is_read : HeaderIsRead
unfolding header_at
header_is_read rest = rw (le-ltb (length (file_header ++ rest)) 24 (omega arith))

pub packet_is_read : PacketIsRead
unfolding packet_bytes
packet_is_read time told rest known allowed =
    let ip : List ℕ = ip_packet told in
    let bytes : List ℕ = packet_bytes time told ++ rest in
    let now = passes (leb (2 ^ 32) (time / second)) TimePast ((two_families told, TwoFamilies) ∷ (too_long told, TooLong) ∷ []) allowed in
    let same = passes (two_families told) TwoFamilies ((too_long told, TooLong) ∷ []) now.1 in
    let short = passes (too_long told) TooLong [] same.1 in
    let back = told_back told known same.0 short.0 in
    let past : time / second < 2 ^ 32 = leb-false (2 ^ 32) (time / second) now.0 in
    let below : time % second < 2 ^ 32 = omega arith in
    let seconds : seconds_at written bytes ≡ time / second = from_le_bytes-to_le_bytes_4 (time / second) past in
    let fraction : fraction_at written bytes ≡ time % second = from_le_bytes-to_le_bytes_4 (time % second) below in
    let size : size_at written bytes ≡ length ip = from_le_bytes-to_le_bytes_4 (length ip) back.1 in
    let moment : time_at written bytes ≡ time =
    ap (λ (k : ℕ). k * second + fraction_at written bytes * 1) seconds ∙ ap (λ (k : ℕ). time / second * second + k * 1) fraction ∙ (omega arith) in
    let head : length (packet_bytes time told) ≡ 16 + length ip = omega arith in
    let left : length (packet_bytes time told) - 16 ≡ length ip = omega arith in
    let frame : take (length (packet_bytes time told) - 16) (drop 16 bytes) ≡ ip = ap (λ (k : ℕ). take k (ip ++ rest)) left ∙ take-append_seam ip rest in
    let whole : length bytes ≡ 16 + length ip + length rest = omega (arith, length-append ip rest) in
    let end : length (packet_bytes time told) ≡ 16 + size_at written bytes = omega arith in
    record_read written bytes (length (packet_bytes time told)) (Ok told) (omega arith) (omega arith) end (omega arith)
    (ap (λ (x : List ℕ). frame_at link.Raw x) frame ∙ back.0)
    ∙ ap (λ (k : ℕ). Ok (k, told, length (packet_bytes time told))) moment

-- what was read, if there is no fault
abbrev read_value : Result (ℕ × Told × ℕ) CaptureFault → ℕ × Told × ℕ
read_value (Ok x) = x
read_value (Err e) = (0, other, 0)

-- a reader at such a record, by what the record is read as
next_by : (time : ℕ) (told : Told) (front rest : List ℕ) (old new : Place) (next : Result (Option Packet) CaptureError) → 16 ≤ length front
    → record_at old.format old.rest ≡ Ok (time, told, length front) → old.format ≡ written → old.rest ≡ front ++ rest → NextGives old new next
    → IsPacket time told old.offset next × (new.format ≡ written) × (new.rest ≡ rest)
next_by time told front rest old new (Ok None) long read form bytes given =
    let size : length old.rest ≡ 0 = ap length given.0 in
    absurd (omega (arith, size, ap length bytes, length-append front rest))
next_by time told front rest old new (Ok (Some p)) long read form bytes given =
    let same : (p.nanoseconds, told_in p.content, given.0) ≡ (time, told, length front) = ap read_value (sym given.1 ∙ read) in
    let left : new.rest ≡ rest =
    ap (λ (q : Place). q.rest) given.3 ∙ ap (λ (x : ℕ × Told × ℕ). drop x.2 old.rest) same ∙ ap (λ (x : List ℕ). drop (length front) x) bytes ∙ drop-append_seam front rest in
    ((ap (λ (x : ℕ × Told × ℕ). x.0) same, ap (λ (x : ℕ × Told × ℕ). x.1) same, given.2), ap (λ (q : Place). q.format) given.3 ∙ form, left)
next_by time told front rest old new (Err e) long read form bytes given =
    let bad = sym given.0 ∙ read in absurd (cc)

packet_long : (time : ℕ) (told : Told) → 16 ≤ length (packet_bytes time told)
unfolding packet_bytes
packet_long time told = omega arith

pub next_is_read : NextIsRead
next_is_read time told rest old new next known allowed form bytes given =
    let read : record_at old.format old.rest ≡ Ok (time, told, length (packet_bytes time told)) =
    ap (λ f. record_at f old.rest) form ∙ ap (λ (x : List ℕ). record_at written x) bytes ∙ packet_is_read time told rest known allowed in
    next_by time told (packet_bytes time told) rest old new next (packet_long time told) read form bytes given
