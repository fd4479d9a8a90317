-- Public vocabulary: the bytes of a capture that is written: the file header and the records of pcap, and in a record an IP packet.
use Rattle.std.specs.Prelude.{ℕ, ◌+◌, ◌/◌, ◌%◌, List, [], ◌∷◌, ◌++◌, length, codes, ◌==◌, if◌then◌else◌}
use Rattle.std.specs.Int.{w16, w32, w64, to_be_bytes, to_le_bytes}
use Rattle.fw_capture.specs.declared.packet.Note.{Note}
use Rattle.fw_capture.specs.declared.packet.Note.TheVariants as notes
use Rattle.fw_capture.specs.View.{Endpoint, ipv4, ipv6, Told, datagram, note, other}
use Rattle.fw_capture.specs.Checksum.{checksum}

-- ---- UDP (RFC 768)

-- the header: the ports, the length of header and data, and the checksum
abbrev pub udp_header : ℕ → ℕ → ℕ → ℕ → List ℕ
udp_header from to size sum = to_be_bytes w16 from ++ to_be_bytes w16 to ++ to_be_bytes w16 size ++ to_be_bytes w16 sum

-- a checksum of 0 is sent as its other form, since 0 says that there is none
abbrev pub sent_checksum : ℕ → ℕ
sent_checksum sum = if sum == 0 then 65535 else sum

-- the datagram, of which the checksum is that of the pseudo header, the header with no checksum, and the data
abbrev pub udp_datagram : List ℕ → ℕ → ℕ → List ℕ → List ℕ
udp_datagram pseudo from to bytes =
    udp_header from to (8 + length bytes) (sent_checksum (checksum (pseudo ++ (udp_header from to (8 + length bytes) 0 ++ bytes)))) ++ bytes

-- ---- IPv4 (RFC 791, section 3.1)

-- a header with no options: version 4 and five words of header, the whole length, no identification, which need not be since the packet
-- may not be fragmented, 64 hops at most, protocol, checksum and addresses
abbrev pub ipv4_header : ℕ → ℕ → List ℕ → List ℕ → ℕ → List ℕ
ipv4_header protocol size from to sum =
    (0x45 ∷ 0 ∷ []) ++ to_be_bytes w16 size ++ (0 ∷ 0 ∷ 0x40 ∷ 0 ∷ 64 ∷ protocol ∷ []) ++ to_be_bytes w16 sum ++ from ++ to

-- a packet, of which the checksum is that of the header with no checksum
abbrev pub ipv4_packet : ℕ → List ℕ → List ℕ → List ℕ → List ℕ
ipv4_packet protocol from to payload =
    ipv4_header protocol (20 + length payload) from to (checksum (ipv4_header protocol (20 + length payload) from to 0)) ++ payload

-- what the checksum of a UDP datagram covers before the datagram (RFC 768)
abbrev pub ipv4_pseudo : List ℕ → List ℕ → ℕ → List ℕ
ipv4_pseudo from to size = from ++ to ++ (0 ∷ 17 ∷ to_be_bytes w16 size)

-- ---- IPv6 (RFC 8200, section 3)

-- version 6, no traffic class and no flow label, the length of what follows the header, the protocol, 64 hops at most, and the addresses
abbrev pub ipv6_header : ℕ → ℕ → List ℕ → List ℕ → List ℕ
ipv6_header protocol size from to =
    (0x60 ∷ 0 ∷ 0 ∷ 0 ∷ []) ++ to_be_bytes w16 size ++ (protocol ∷ 64 ∷ []) ++ from ++ to

abbrev pub ipv6_packet : ℕ → List ℕ → List ℕ → List ℕ → List ℕ
ipv6_packet protocol from to payload = ipv6_header protocol (length payload) from to ++ payload

-- what the checksum of a UDP datagram covers before the datagram (RFC 8200, section 8.1)
abbrev pub ipv6_pseudo : List ℕ → List ℕ → ℕ → List ℕ
ipv6_pseudo from to size = from ++ to ++ (to_be_bytes w32 size ++ (0 ∷ 0 ∷ 0 ∷ 17 ∷ []))

-- ---- notes, which are an own form

-- the words of a note of a start of meters, and of one of a head end
abbrev pub meter_start_words : List ℕ
meter_start_words = codes "dlmsfw start meter "

abbrev pub head_start_words : List ℕ
head_start_words = codes "dlmsfw start head "

-- the words of a note of an address that may ask
abbrev pub asking_words : List ℕ
asking_words = codes "dlmsfw may ask "

-- the words of a note of a turn of one meter
abbrev pub turn_words : List ℕ
turn_words = codes "dlmsfw turn "

-- the words of a note that memory was refused
abbrev pub unserved_words : List ℕ
unserved_words = codes "dlmsfw unserved "

-- the words of a note of strangers
abbrev pub strangers_words : List ℕ
strangers_words = codes "dlmsfw strangers "

-- the text of a note; behind the words stand the count of meters that started, and of addresses that may ask them; the number of the head end
-- that did; an address and its port; the port of the meter whose turn it is, or to which memory was refused; or the number of strangers
abbrev pub note_text : Note → List ℕ
note_text notes.Start = codes "dlmsfw start"
note_text (notes.MeterStart count heads) = meter_start_words ++ to_be_bytes w32 count ++ to_be_bytes w64 heads
note_text (notes.HeadStart head) = head_start_words ++ to_be_bytes w32 head
note_text (notes.MayAskV4 octets port) = asking_words ++ octets ++ to_be_bytes w16 port
note_text (notes.MayAskV6 octets port) = asking_words ++ octets ++ to_be_bytes w16 port
note_text notes.Turn = codes "dlmsfw turn"
note_text (notes.TurnAt port) = turn_words ++ to_be_bytes w16 port
note_text (notes.UnservedAt port) = unserved_words ++ to_be_bytes w16 port
note_text (notes.Strangers count) = strangers_words ++ to_be_bytes w64 count

-- 127.0.0.1, which a note goes from and to
abbrev pub loopback : List ℕ
loopback = 127 ∷ 0 ∷ 0 ∷ 1 ∷ []

-- the protocol of a note, which is for experiments (RFC 3692, section 2.1)
abbrev pub note_protocol : ℕ
note_protocol = 253

-- ---- packets

-- the bytes of a UDP datagram between two addresses of one family
abbrev pub datagram_packet : Endpoint → Endpoint → List ℕ → List ℕ
datagram_packet (ipv4 from m) (ipv4 to n) bytes = ipv4_packet 17 from to (udp_datagram (ipv4_pseudo from to (8 + length bytes)) m n bytes)
datagram_packet (ipv6 from m) (ipv6 to n) bytes = ipv6_packet 17 from to (udp_datagram (ipv6_pseudo from to (8 + length bytes)) m n bytes)
datagram_packet (ipv4 from m) (ipv6 to n) bytes = []
datagram_packet (ipv6 from m) (ipv4 to n) bytes = []

abbrev pub ip_packet : Told → List ℕ
ip_packet (datagram from to bytes) = datagram_packet from to bytes
ip_packet (note n) = ipv4_packet note_protocol loopback loopback (note_text n)
ip_packet other = []

-- ---- pcap, the lowest byte of each number first

-- a magic number for nanoseconds, version 2.4, two fields that are not used, the longest packet, and the link type of raw IP
abbrev pub file_header : List ℕ
file_header =
    to_le_bytes w32 0xa1b23c4d ++ to_le_bytes w16 2 ++ to_le_bytes w16 4 ++ to_le_bytes w32 0 ++ to_le_bytes w32 0 ++ to_le_bytes w32 65535
    ++ to_le_bytes w32 101

-- the nanoseconds of a second
abbrev pub second : ℕ
second = 1000000000

-- seconds and nanoseconds, and how many bytes of the packet are there, and were there
abbrev pub record_header : ℕ → ℕ → List ℕ
record_header nanoseconds size =
    to_le_bytes w32 (nanoseconds / second) ++ to_le_bytes w32 (nanoseconds % second) ++ to_le_bytes w32 size ++ to_le_bytes w32 size

-- the record of a packet
unfoldable pub packet_bytes : ℕ → Told → List ℕ
packet_bytes nanoseconds told = record_header nanoseconds (length (ip_packet told)) ++ ip_packet told
