-- What is read if there is no fault before it.
use Rattle.std.proofs.Common.{◌≡◌, ℕ, ◌+◌, ◌-◌, ◌<◌, ◌≤◌, false, List, length, take, drop, Result, Ok, sym, ap, ◌∙◌, arith}
use Rattle.std.proofs.lemmas.Bool.{le-ltb, lt-leb, eq-eqb}
use Rattle.std.proofs.lemmas.List.{drop-take}
use Rattle.fw_capture.specs.declared.fault.CaptureFault.{CaptureFault}
use Rattle.fw_capture.specs.declared.format.Format.{Format}
use Rattle.fw_capture.specs.declared.format.Link.TheVariants as link
use Rattle.fw_capture.specs.View.{Told}
use Rattle.fw_capture.specs.Reading.{short_at, udp_at, version, ipv4_header_size, ipv4_size, is_passed_over, ipv4_at, ipv4_payload_at, ipv6_payload_size, ipv6_next, ipv6_at, ipv6_payload_at, frame_at, fractions, fraction_at, size_at, time_at, record_at, ◌>>=◌}

pub udp_read : (payload : List ℕ) → 8 ≤ length payload → short_at 4 payload ≡ length payload
    → udp_at payload ≡ Ok (short_at 0 payload, short_at 2 payload, drop 8 payload)
unfolding udp_at
udp_read payload long whole = rw (le-ltb (length payload) 8 long, eq-eqb (short_at 4 payload) (length payload) whole)

pub ipv4_read : (packet : List ℕ) → 20 ≤ length packet → version packet ≡ 4 → 20 ≤ ipv4_header_size packet → ipv4_header_size packet ≤ length packet
    → is_passed_over packet ≡ false → ipv4_header_size packet ≤ ipv4_size packet → ipv4_size packet ≤ length packet
    → ipv4_at packet ≡ ipv4_payload_at packet (drop (ipv4_header_size packet) (take (ipv4_size packet) packet))
unfolding ipv4_at
ipv4_read packet long four words there known inside captured =
    rw (
      le-ltb (length packet) 20 long,
      eq-eqb (version packet) 4 four,
      le-ltb (ipv4_header_size packet) 20 words,
      le-ltb (length packet) (ipv4_header_size packet) there,
      known,
      le-ltb (ipv4_size packet) (ipv4_header_size packet) inside,
      le-ltb (length packet) (ipv4_size packet) captured,
    )

-- the payload, by its places
pub ipv4_body : (packet : List ℕ) (start end : ℕ) → start ≡ ipv4_header_size packet → end ≡ ipv4_size packet → start ≤ end
    → take (end - start) (drop start packet) ≡ drop (ipv4_header_size packet) (take (ipv4_size packet) packet)
ipv4_body packet start end start-is end-is h =
    let whole : start + (end - start) ≡ ipv4_size packet = omega arith in
    sym (drop-take start (end - start) packet) ∙ ap (λ (n : ℕ). drop start (take n packet)) whole ∙ ap (λ (n : ℕ). drop n (take (ipv4_size packet) packet)) start-is

pub ipv6_read : (packet : List ℕ) → 40 ≤ length packet → version packet ≡ 6 → ipv6_next packet ≡ 17 → 40 + ipv6_payload_size packet ≤ length packet
    → ipv6_at packet ≡ ipv6_payload_at packet (take (ipv6_payload_size packet) (drop 40 packet))
unfolding ipv6_at
ipv6_read packet long six udp captured =
    rw (le-ltb (length packet) 40 long, eq-eqb (version packet) 6 six, eq-eqb (ipv6_next packet) 17 udp, le-ltb (length packet) (40 + ipv6_payload_size packet) captured)

pub raw_ipv4 : (packet : List ℕ) → 1 ≤ length packet → version packet ≡ 4 → frame_at link.Raw packet ≡ ipv4_at packet
raw_ipv4 packet long four = rw (le-ltb (length packet) 1 long, four)

pub raw_ipv6 : (packet : List ℕ) → 1 ≤ length packet → version packet ≡ 6 → frame_at link.Raw packet ≡ ipv6_at packet
raw_ipv6 packet long six = rw (le-ltb (length packet) 1 long, six)

-- a record that ends at this place, by what its frame is read as
pub record_read : (f : Format) (bytes : List ℕ) (end : ℕ) (read : Result Told CaptureFault) → 16 ≤ length bytes → fraction_at f bytes < fractions f
    → end ≡ 16 + size_at f bytes → end ≤ length bytes → frame_at f.link (take (end - 16) (drop 16 bytes)) ≡ read
    → record_at f bytes ≡ (read >>= λ told. Ok (time_at f bytes, told, end))
unfolding record_at
record_read f bytes end read long fraction ends captured given =
    let size : size_at f bytes ≡ end - 16 = omega arith in
    rw (le-ltb (length bytes) 16 long, lt-leb (fractions f) (fraction_at f bytes) fraction, sym ends, le-ltb (length bytes) end captured, size, given)
