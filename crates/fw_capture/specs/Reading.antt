-- Public vocabulary: what the bytes of a capture say: a value, or the first fault.
use Rattle.std.specs.Prelude.{ℕ, ◌+◌, ◌*◌, ◌/◌, ◌%◌, Bool, true, false, not, List, [], ◌∷◌, length, take, drop, Option, Some, None, Result, Ok, Err, slice_index, nat_lt, nat_le, ◌==◌, ◌&&◌, ◌||◌, if◌then◌else◌}
use Rattle.std.specs.Int.{w16, w32, w64, from_be_bytes, from_le_bytes}
use Rattle.std.specs.Str.{bytes_eq}
use Rattle.fw_capture.specs.declared.fault.CaptureFault.{CaptureFault}
use Rattle.fw_capture.specs.declared.fault.CaptureFault.TheVariants.{ShortHeader, Pcapng, BadMagic, BadVersion, UnknownLink, ShortRecord, BadFraction, CutPacket, ShortLink, BadIpVersion, ShortIp, BadIpHeader, BadIpLength, BadUdpLength}
use Rattle.fw_capture.specs.declared.format.Format.{Format}
use Rattle.fw_capture.specs.declared.format.Link.{Link}
use Rattle.fw_capture.specs.declared.format.Link.TheVariants as link
use Rattle.fw_capture.specs.declared.packet.Note.TheVariants as notes
use Rattle.fw_capture.specs.View.{Endpoint, ipv4, ipv6, Told, datagram, note, other}
use Rattle.fw_capture.specs.Spelling.{asking_words, head_start_words, meter_start_words, note_protocol, note_text, strangers_words, turn_words, unserved_words, second}

-- what comes of the value that is read; a fault stays
infixl 10 ◌>>=◌
abbrev pub ◌>>=◌ : {A B : Type 0} → Result A CaptureFault → (A → Result B CaptureFault) → Result B CaptureFault
(Ok x) >>= f = f x
(Err e) >>= f = Err e

-- what is read, unless the test of a row is true: the fault of the first such row
abbrev pub unless : {A : Type 0} → List (Bool × CaptureFault) → Result A CaptureFault → Result A CaptureFault
unless [] read = read
unless (row ∷ rows) read = if row.0 then Err row.1 else unless rows read

-- a value that may be missing
abbrev pub or_fault : {A : Type 0} → CaptureFault → Option A → Result A CaptureFault
or_fault fault None = Err fault
or_fault fault (Some x) = Ok x

-- the number of two bytes at a place, high byte first
abbrev pub short_at : ℕ → List ℕ → ℕ
short_at place bytes = from_be_bytes w16 (take 2 (drop place bytes))

-- the number of four bytes at a place, high byte first
abbrev pub word_at : ℕ → List ℕ → ℕ
word_at place bytes = from_be_bytes w32 (take 4 (drop place bytes))

-- the number of eight bytes at a place, high byte first
abbrev pub long_at : ℕ → List ℕ → ℕ
long_at place bytes = from_be_bytes w64 (take 8 (drop place bytes))

-- ---- UDP (RFC 768): the ports and the data. The length is that of header and data

unfoldable pub udp_at : List ℕ → Result (ℕ × ℕ × List ℕ) CaptureFault
udp_at payload =
    unless ((nat_lt (length payload) 8, BadUdpLength) ∷ (not (short_at 4 payload == length payload), BadUdpLength) ∷ [])
    (Ok (short_at 0 payload, short_at 2 payload, drop 8 payload))

-- a datagram from one address to another, of which the ports are still to be read
abbrev pub datagram_at : (ℕ → Endpoint) → (ℕ → Endpoint) → List ℕ → Result Told CaptureFault
datagram_at from to payload = udp_at payload >>= λ udp. Ok (datagram (from udp.0) (to udp.1) udp.2)

-- ---- IPv4 (RFC 791, section 3.1)

-- The version, the length of the header, in words of four bytes, and the length of the packet
abbrev pub version : List ℕ → ℕ
version packet = slice_index packet 0 / 16

abbrev pub ipv4_header_size : List ℕ → ℕ
ipv4_header_size packet = slice_index packet 0 % 16 * 4

abbrev pub ipv4_size : List ℕ → ℕ
ipv4_size packet = short_at 2 packet

abbrev pub ipv4_protocol : List ℕ → ℕ
ipv4_protocol packet = slice_index packet 9

-- a fragment: more of them follow, or this one isn't the first, so that below the two upper flags some bit is set
abbrev pub is_fragment : List ℕ → Bool
is_fragment packet = not (short_at 6 packet % 0x4000 == 0)

-- neither UDP nor for experiments, or a fragment
abbrev pub is_passed_over : List ℕ → Bool
is_passed_over packet = is_fragment packet || not (ipv4_protocol packet == 17 || ipv4_protocol packet == note_protocol)

-- the note that memory was refused of this text: the port of the meter follows the words, in two bytes
abbrev pub unserved_at : List ℕ → Told
unserved_at payload =
    if length payload == 18 && bytes_eq (take 16 payload) unserved_words then note (notes.UnservedAt (short_at 16 payload)) else other

-- the note of a start of this text: the count of meters and how many addresses may ask follow the words, in four and in eight bytes; or the
-- number of a head end, in four; or that memory was refused
abbrev pub start_at : List ℕ → Told
start_at payload =
    if length payload == 31 && bytes_eq (take 19 payload) meter_start_words then note (notes.MeterStart (word_at 19 payload) (long_at 23 payload)) else (
    if length payload == 22 && bytes_eq (take 18 payload) head_start_words then note (notes.HeadStart (word_at 18 payload)) else unserved_at payload)

-- the note of strangers of this text: their number follows the words, in eight bytes; or that of a start
abbrev pub strangers_at : List ℕ → Told
strangers_at payload =
    if length payload == 25 && bytes_eq (take 17 payload) strangers_words then note (notes.Strangers (long_at 17 payload)) else start_at payload

-- the note of a turn of this text: the port of its meter follows the words, in two bytes; or that of strangers
abbrev pub numbered_at : List ℕ → Told
numbered_at payload =
    if length payload == 14 && bytes_eq (take 12 payload) turn_words then note (notes.TurnAt (short_at 12 payload)) else strangers_at payload

-- the note of an address that may ask of this text: it follows the words, in four or in sixteen bytes, and its port, in two; or one with a
-- number
abbrev pub asking_at : List ℕ → Told
asking_at payload =
    if length payload == 21 && bytes_eq (take 15 payload) asking_words then note (notes.MayAskV4 (take 4 (drop 15 payload)) (short_at 19 payload)) else (
    if length payload == 33 && bytes_eq (take 15 payload) asking_words then note (notes.MayAskV6 (take 16 (drop 15 payload)) (short_at 31 payload))
    else numbered_at payload)

-- the note of this text; any other packet for experiments is none
abbrev pub note_at : List ℕ → Told
note_at payload =
    if bytes_eq payload (note_text notes.Start) then note notes.Start else (
    if bytes_eq payload (note_text notes.Turn) then note notes.Turn else asking_at payload)

-- what a datagram or a packet for experiments tells, by the header before it: the addresses are four bytes at 12 and at 16
abbrev pub ipv4_payload_at : List ℕ → List ℕ → Result Told CaptureFault
ipv4_payload_at packet payload =
    if ipv4_protocol packet == 17 then datagram_at (λ port. ipv4 (take 4 (drop 12 packet)) port) (λ port. ipv4 (take 4 (drop 16 packet)) port) payload
    else Ok (note_at payload)

-- What is passed over is so before its length is looked at: an interface may have left that to be filled in. Bytes behind the packet pad the
-- frame.
unfoldable pub ipv4_at : List ℕ → Result Told CaptureFault
ipv4_at packet =
    unless ((nat_lt (length packet) 20, ShortIp)
    ∷ (not (version packet == 4), BadIpVersion)
    ∷ (nat_lt (ipv4_header_size packet) 20, BadIpHeader)
    ∷ (nat_lt (length packet) (ipv4_header_size packet), BadIpHeader) ∷ [])
    (if is_passed_over packet then Ok other else
    unless ((nat_lt (ipv4_size packet) (ipv4_header_size packet), BadIpLength)
    ∷ (nat_lt (length packet) (ipv4_size packet), BadIpLength) ∷ [])
    (ipv4_payload_at packet (drop (ipv4_header_size packet) (take (ipv4_size packet) packet))))

-- ---- IPv6 (RFC 8200, section 3)

-- the length of what follows the header, and the next header
abbrev pub ipv6_payload_size : List ℕ → ℕ
ipv6_payload_size packet = short_at 4 packet

abbrev pub ipv6_next : List ℕ → ℕ
ipv6_next packet = slice_index packet 6

-- what a datagram tells, by the header before it: the addresses are sixteen bytes at 8 and at 24
abbrev pub ipv6_payload_at : List ℕ → List ℕ → Result Told CaptureFault
ipv6_payload_at packet payload = datagram_at (λ port. ipv6 (take 16 (drop 8 packet)) port) (λ port. ipv6 (take 16 (drop 24 packet)) port) payload

-- A packet with extension headers, and so a fragment, is passed over before its length is looked at. Bytes behind the packet pad the frame.
unfoldable pub ipv6_at : List ℕ → Result Told CaptureFault
ipv6_at packet =
    unless ((nat_lt (length packet) 40, ShortIp)
    ∷ (not (version packet == 6), BadIpVersion) ∷ [])
    (if not (ipv6_next packet == 17) then Ok other else
    unless ((nat_lt (length packet) (40 + ipv6_payload_size packet), BadIpLength) ∷ [])
    (ipv6_payload_at packet (take (ipv6_payload_size packet) (drop 40 packet))))

-- ---- links: the type of what a frame carries, among those of Ethernet, and its bytes

abbrev pub packet_at : ℕ → List ℕ → Result Told CaptureFault
packet_at kind packet = if kind == 0x0800 then ipv4_at packet else (if kind == 0x86dd then ipv6_at packet else Ok other)

-- behind a header of this size, which has the type at this place
abbrev pub typed_at : ℕ → ℕ → List ℕ → Result (ℕ × List ℕ) CaptureFault
typed_at place size bytes = unless ((nat_lt (length bytes) size, ShortLink) ∷ []) (Ok (short_at place bytes, drop size bytes))

-- Ethernet, with a tag of a virtual network (IEEE 802.1Q) or without
abbrev pub ethernet_at : List ℕ → Result (ℕ × List ℕ) CaptureFault
ethernet_at frame = typed_at 12 14 frame >>= λ carried. if carried.0 == 0x8100 then typed_at 2 4 carried.1 else Ok carried

-- raw IP, which the version gives its type
abbrev pub raw_at : List ℕ → Result (ℕ × List ℕ) CaptureFault
raw_at packet =
    unless ((nat_lt (length packet) 1, ShortLink) ∷ (not (version packet == 4 || version packet == 6), BadIpVersion) ∷ [])
    (Ok (if version packet == 4 then 0x0800 else 0x86dd, packet))

-- Linux cooked capture has a header of 16 bytes with the type at its end, or in version 2 one of 20 bytes with the type at its front
abbrev pub link_at : Link → List ℕ → Result (ℕ × List ℕ) CaptureFault
link_at link.Ethernet frame = ethernet_at frame
link_at link.Cooked frame = typed_at 14 16 frame
link_at link.CookedTwo frame = typed_at 0 20 frame
link_at link.Raw frame = raw_at frame

abbrev pub frame_at : Link → List ℕ → Result Told CaptureFault
frame_at l frame = link_at l frame >>= λ carried. packet_at carried.0 carried.1

-- ---- pcap

-- a number of four bytes or of two at a place, in the order of the file
abbrev pub number_at : Bool → ℕ → List ℕ → ℕ
number_at little place bytes =
    if little then from_le_bytes w32 (take 4 (drop place bytes)) else from_be_bytes w32 (take 4 (drop place bytes))

abbrev pub half_at : Bool → ℕ → List ℕ → ℕ
half_at little place bytes =
    if little then from_le_bytes w16 (take 2 (drop place bytes)) else from_be_bytes w16 (take 2 (drop place bytes))

-- by the magic number, whether the lowest byte of a number is first, and whether fractions are nanoseconds
abbrev pub magic_at : List ℕ → Option (Bool × Bool)
magic_at bytes =
    if number_at true 0 bytes == 0xa1b23c4d then Some (true, true) else (if number_at true 0 bytes == 0xa1b2c3d4 then Some (true, false) else (
    if number_at false 0 bytes == 0xa1b23c4d then Some (false, true) else (if number_at false 0 bytes == 0xa1b2c3d4 then Some (false, false) else None)))

-- the type of the block that a file in the form pcapng begins with, which is the same in either order of bytes
abbrev pub is_pcapng : List ℕ → Bool
is_pcapng bytes = number_at true 0 bytes == 0x0a0d0d0a

-- the link types that are read
abbrev pub link_of : ℕ → Option Link
link_of n =
    if n == 1 then Some link.Ethernet else (if n == 113 then Some link.Cooked else (if n == 276 then Some link.CookedTwo else (
    if n == 101 then Some link.Raw else None)))

-- the file header, of 24 bytes: magic number, version 2.4, three fields that are not looked at, and link type
unfoldable pub header_at : List ℕ → Result Format CaptureFault
header_at bytes =
    unless ((nat_lt (length bytes) 24, ShortHeader) ∷ (is_pcapng bytes, Pcapng) ∷ [])
    (or_fault BadMagic (magic_at bytes) >>= λ magic.
    unless ((not (half_at magic.0 4 bytes == 2 && half_at magic.0 6 bytes == 4), BadVersion) ∷ [])
    (or_fault UnknownLink (link_of (number_at magic.0 20 bytes)) >>= λ l. Ok (record { little = magic.0; nano = magic.1; link = l })))

-- how many fractions a second has, and the nanoseconds of one
abbrev pub fractions : Format → ℕ
fractions f = if f.nano then 1000000000 else 1000000

abbrev pub fraction_nanoseconds : Format → ℕ
fraction_nanoseconds f = if f.nano then 1 else 1000

-- the header of a record: seconds, fractions of the next one, how many bytes of the packet are there, and a field that is not looked at
abbrev pub seconds_at : Format → List ℕ → ℕ
seconds_at f bytes = number_at f.little 0 bytes

abbrev pub fraction_at : Format → List ℕ → ℕ
fraction_at f bytes = number_at f.little 4 bytes

abbrev pub size_at : Format → List ℕ → ℕ
size_at f bytes = number_at f.little 8 bytes

-- the time of a record, in nanoseconds since the start of 1970
abbrev pub time_at : Format → List ℕ → ℕ
time_at f bytes = seconds_at f bytes * second + fraction_at f bytes * fraction_nanoseconds f

-- a record at the front of bytes: its time, what its packet tells, and how many bytes it takes
unfoldable pub record_at : Format → List ℕ → Result (ℕ × Told × ℕ) CaptureFault
record_at f bytes =
    unless ((nat_lt (length bytes) 16, ShortRecord)
    ∷ (nat_le (fractions f) (fraction_at f bytes), BadFraction)
    ∷ (nat_lt (length bytes) (16 + size_at f bytes), CutPacket) ∷ [])
    (frame_at f.link (take (size_at f bytes) (drop 16 bytes)) >>= λ told. Ok (time_at f bytes, told, 16 + size_at f bytes))
