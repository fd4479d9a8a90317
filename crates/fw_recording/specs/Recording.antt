-- Public vocabulary: the capture of a run. Each datagram that was sent has a record, in order: the first at the start of 1970, and each
-- further one a millisecond later. The addresses are made up, of those that are for documentation (RFC 3849).
use Rattle.std.specs.Prelude.{◌≡◌, ◌⊎◌, ℕ, ◌+◌, ◌*◌, ◌/◌, ◌%◌, List, [], ◌∷◌, ◌++◌, Some}
use Rattle.std.specs.Net.Addr.{octets_of}
use Rattle.fw_capture.specs.declared.error.AppendError.{AppendError}
use Rattle.fw_capture.specs.Refusal.{refusal_of}
use Rattle.fw_capture.specs.Spelling.{file_header, packet_bytes}
use Rattle.fw_capture.specs.View.{Endpoint, ipv6, Told, datagram}
use Rattle.fw_world.specs.declared.datagram.Actor.{Actor}
use Rattle.fw_world.specs.declared.datagram.Actor.TheVariants as actor
use Rattle.fw_world.specs.View.{sender, addressee}
use Rattle.fw_world.specs.World.{Datagram}

-- ---- a capture of given records

-- records, each a time and what it tells, one after another
abbrev pub records_bytes : List (ℕ × Told) → List ℕ
records_bytes [] = []
records_bytes (r ∷ records) = packet_bytes r.0 r.1 ++ records_bytes records

abbrev pub capture_bytes : List (ℕ × Told) → List ℕ
capture_bytes records = file_header ++ records_bytes records

-- one of the records is refused for this
abbrev pub SomeRefused : List (ℕ × Told) → AppendError → Type 0
SomeRefused [] e = ⊥
SomeRefused (r ∷ records) e = (refusal_of r.0 r.1 ≡ Some e) ⊎ SomeRefused records e

-- ---- the records of a run

-- the port of DLMS/COSEM
abbrev pub cosem_port : ℕ
cosem_port = 4059

-- 2001:db8:0:NET::, with a number of 32 bits at its end
abbrev pub numbered_address : ℕ → ℕ → List ℕ
numbered_address net number = octets_of (0x2001 ∷ 0x0db8 ∷ 0 ∷ net ∷ 0 ∷ 0 ∷ (number / 65536) ∷ (number % 65536) ∷ [])

-- head ends are in the first net, and meters in the second
abbrev pub endpoint_at : Actor → Endpoint
endpoint_at (actor.Head head) = ipv6 (numbered_address 1 head) cosem_port
endpoint_at (actor.Meter meter) = ipv6 (numbered_address 2 meter) cosem_port

-- the nanoseconds of a millisecond
abbrev pub millisecond : ℕ
millisecond = 1000000

abbrev pub record_of : ℕ → Datagram → ℕ × Told
record_of number d = (number * millisecond, datagram (endpoint_at (sender d)) (endpoint_at (addressee d)) d.bytes)

-- the records of datagrams, of which the first has this number
abbrev pub records_from : ℕ → List Datagram → List (ℕ × Told)
records_from number [] = []
records_from number (d ∷ sent) = record_of number d ∷ records_from (number + 1) sent

abbrev pub run_records : List Datagram → List (ℕ × Told)
run_records sent = records_from 0 sent
