-- Public vocabulary: what a packet tells, apart from where it lies in memory.
use Rattle.std.specs.Prelude.{◌≡◌, ℕ, ◌<◌, ◌^◌, List, length, Option, Some, None}
use Rattle.std.specs.Net.Addr.{ipv4_octets, ipv6_octets}
use Rattle.std.specs.Net.Socket.{v4_ip, v4_port, v6_ip, v6_port}
use Rattle.std.specs.declared.net.socket_addr.SocketAddr.{SocketAddr}
use Rattle.std.specs.declared.net.socket_addr.SocketAddr.TheVariants as socket
use Rattle.fw_capture.specs.declared.packet.Note.{Note}
use Rattle.fw_capture.specs.declared.packet.Note.TheVariants as notes
use Rattle.fw_capture.specs.declared.packet.Content.{Content}
use Rattle.fw_capture.specs.declared.packet.Content.TheVariants as content

-- an address, four or sixteen bytes of it, and a port
pub data Endpoint : Type 0 where
  ipv4 : List ℕ → ℕ → Endpoint
  ipv6 : List ℕ → ℕ → Endpoint

-- what a packet tells: a UDP datagram from one endpoint to another, a note, or something else
pub data Told : Type 0 where
  datagram : Endpoint → Endpoint → List ℕ → Told
  note : Note → Told
  other : Told

abbrev pub endpoint_of : SocketAddr → Endpoint
endpoint_of (socket.V4 a) = ipv4 (ipv4_octets (v4_ip a)) (v4_port a)
endpoint_of (socket.V6 a) = ipv6 (ipv6_octets (v6_ip a)) (v6_port a)

abbrev pub told_of : Content → Told
told_of (content.Datagram from to bytes) = datagram (endpoint_of from) (endpoint_of to) bytes.now
told_of (content.Note n) = note n

-- what a packet tells, or something else
abbrev pub told_in : Option Content → Told
told_in None = other
told_in (Some c) = told_of c

-- an address of IPv4 has four bytes and one of IPv6 sixteen, and a port has 16 bits
abbrev pub IsEndpoint : Endpoint → Type 0
IsEndpoint (ipv4 address port) = (length address ≡ 4) × (port < 2 ^ 16)
IsEndpoint (ipv6 address port) = (length address ≡ 16) × (port < 2 ^ 16)

-- a port has 16 bits, a count of meters and the number of a head end 32, and how many addresses may ask, or strangers came, 64; an address has
-- four bytes or sixteen
abbrev pub IsNote : Note → Type 0
IsNote notes.Start = Unit {0}
IsNote (notes.MeterStart count heads) = (count < 2 ^ 32) × (heads < 2 ^ 64)
IsNote (notes.HeadStart head) = head < 2 ^ 32
IsNote (notes.MayAskV4 octets port) = (length octets ≡ 4) × (port < 2 ^ 16)
IsNote (notes.MayAskV6 octets port) = (length octets ≡ 16) × (port < 2 ^ 16)
IsNote notes.Turn = Unit {0}
IsNote (notes.TurnAt port) = port < 2 ^ 16
IsNote (notes.UnservedAt port) = port < 2 ^ 16
IsNote (notes.Strangers count) = count < 2 ^ 64

-- a datagram between two endpoints, or a note
abbrev pub IsTold : Told → Type 0
IsTold (datagram from to bytes) = IsEndpoint from × IsEndpoint to
IsTold (note n) = IsNote n
IsTold other = ⊥
