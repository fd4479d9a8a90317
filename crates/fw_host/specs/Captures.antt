-- Public vocabulary: the captures of daemons: what they get of a datagram, and which captures are foreign.
use Rattle.std.specs.Prelude.{◌≡◌, ◌⊎◌, ℕ, Bool, true, false, MatchBool, nat_lt, List, [], ◌∷◌, length, map, take, Option, Some, None, Err, if◌then◌else◌}
use Rattle.fw_capture.specs.Spelling.{file_header, packet_bytes}
use Rattle.std.specs.HashSet.{HashSet}
use Rattle.std.specs.Net.Socket.{socket_port}
use Rattle.std.specs.declared.net.socket_addr.SocketAddr.{SocketAddr}
use Rattle.fw_capture.specs.declared.fault.CaptureFault.{CaptureFault}
use Rattle.fw_capture.specs.declared.packet.Note.{Note}
use Rattle.fw_capture.specs.declared.packet.Note.TheVariants as notes
use Rattle.fw_capture.specs.Reading.{header_at}
use Rattle.fw_capture.specs.Whole.{IsForeignAt}
use Rattle.fw_capture.specs.View.{Endpoint, ipv4, ipv6, Told, datagram, endpoint_of, note}
use Rattle.fw_daemon.specs.Daemon.{one_more}
use Rattle.fw_port.specs.declared.port.Arrival.{Arrival}
use Rattle.fw_port.specs.declared.port.Patience.{Patience}
use Rattle.fw_port.specs.declared.port.Patience.TheVariants.{Waits, Polls}
use Rattle.fw_host.specs.declared.capture_start.Started.{Started}
use Rattle.fw_host.specs.declared.capture_start.Started.TheVariants as started
use Rattle.fw_host.specs.declared.strangers.Strangers.{Strangers}
use Rattle.fw_host.specs.Strangers.{is_stranger}

-- what a sink takes by a call
module _ {S : Type 0} (takes : S → S → List ℕ → Type 0) where
  -- If there is a capture, the record of this was put into its sink, at some time, by one call and no other.
  abbrev pub Captures : Option S → Option S → Told → Type 0
  Captures None last told = last ≡ None
  Captures (Some first) None told = ⊥
  Captures (Some first) (Some last) told = (nanoseconds : ℕ) × takes first last (packet_bytes nanoseconds told)

  -- If there is a capture, the record of this is what was put into its sink last.
  abbrev pub IsRecorded : Option S → Told → Type 0
  IsRecorded None told = Unit {0}
  IsRecorded (Some last) told = (first : S) × (nanoseconds : ℕ) × takes first last (packet_bytes nanoseconds told)

  -- If there is a capture, the record of this was put, and before it the note of so many datagrams of strangers, if there are any.
  abbrev pub CapturesNoted : ℕ → Option S → Option S → Told → Type 0
  CapturesNoted count first last told =
      MatchBool (nat_lt 0 count)
      ((mid : Option S) × Captures first mid (note (notes.Strangers count)) × Captures mid last told)
      (Captures first last told)

  -- each of these, one after another, where so many datagrams of strangers came before
  abbrev pub CapturesAll : ℕ → Option S → Option S → List Told → Type 0
  CapturesAll count first last [] = last ≡ first
  CapturesAll count first last (told ∷ rest) =
      (mid : Option S) × CapturesNoted count first mid told × CapturesAll 0 mid last rest

  -- What a process puts into a capture with this front, as long as a file header, or all of it where it is shorter: the file header, if the
  -- capture is empty. Any other front is a file header, and nothing is put.
  abbrev pub BeginsCapture : List ℕ → S → S → Type 0
  BeginsCapture [] first last = takes first last file_header
  BeginsCapture (x ∷ xs) first last = ((x ∷ xs) ≡ file_header) × (last ≡ first)

  -- The records of these were put at this time, one after another, each by a call of its own.
  abbrev pub PutsAll : ℕ → S → S → List Told → Type 0
  PutsAll nanoseconds first last [] = last ≡ first
  PutsAll nanoseconds first last (told ∷ rest) = (mid : S) × takes first mid (packet_bytes nanoseconds told) × PutsAll nanoseconds mid last rest

-- the note that an address may ask
abbrev pub asking_note : Endpoint → Note
asking_note (ipv4 octets port) = notes.MayAskV4 octets port
asking_note (ipv6 octets port) = notes.MayAskV6 octets port

abbrev pub asking_told : SocketAddr → Told
asking_told head = note (asking_note (endpoint_of head))

-- what is recorded of a start: what started, and then each address that may ask
abbrev pub started_told : Started → List Told
started_told (started.Meters count heads) = note (notes.MeterStart count (length heads.now)) ∷ map asking_told heads.now
started_told (started.Head head) = note (notes.HeadStart head) ∷ []

-- how many datagrams of strangers have no note behind these records
abbrev pub count_after : ℕ → List Told → ℕ
count_after count [] = count
count_after count (told ∷ rest) = 0

-- the turn of a meter at this address that verifies, where nothing came that it handles
abbrev pub turn_told : Bool → SocketAddr → Patience → List Told
turn_told true at Polls = note (notes.TurnAt (socket_port at)) ∷ []
turn_told true at Waits = []
turn_told false at patience = []

-- that memory was refused to the meter at this address, for the datagram that came to it last
abbrev pub unserved_told : SocketAddr → Told
unserved_told at = note (notes.UnservedAt (socket_port at))

-- what is recorded of a stranger's datagram, and the turn behind it; it is counted where it isn't recorded
abbrev pub stranger_told : Bool → Bool → SocketAddr → Patience → SocketAddr → List ℕ → List Told
stranger_told true has_turns at patience from bytes = datagram (endpoint_of from) (endpoint_of at) bytes ∷ turn_told has_turns at patience
stranger_told false has_turns at patience from bytes = turn_told has_turns at patience

abbrev pub stranger_count : Strangers → ℕ
stranger_count s = if s.are_recorded then s.count else one_more s.count

-- what is recorded where nothing is let through of what came: the turn, unless it is recorded behind a stranger's datagram
abbrev pub dropped_told : Bool → Bool → SocketAddr → Patience → List Told
dropped_told true has_turns at patience = []
dropped_told false has_turns at patience = turn_told has_turns at patience

-- whether a stranger's datagram came
abbrev pub is_of_stranger : {S : Type 0} → Option (HashSet SocketAddr S) → Option Arrival → Bool
is_of_stranger {S} known None = false
is_of_stranger {S} known (Some a) = is_stranger known a.from

-- What is recorded of what came: the datagram; a stranger's, where those are recorded; and the turn that a meter takes then which verifies.
abbrev pub CapturesArrival : {S : Type 0} → (S → S → List ℕ → Type 0) → Strangers → Bool → SocketAddr → Patience → Option Arrival → List ℕ
    → Option S → Option S → Type 0
CapturesArrival takes s has_turns at patience None buffer first last = CapturesAll takes s.count first last (turn_told has_turns at patience)
CapturesArrival takes s has_turns at patience (Some a) buffer first last =
    CapturesAll takes (if is_stranger s.known a.from then stranger_count s else s.count) first last
    (if is_stranger s.known a.from then stranger_told s.are_recorded has_turns at patience a.from (take a.count buffer)
    else (datagram (endpoint_of a.from) (endpoint_of at) (take a.count buffer) ∷ []))

-- a capture that isn't gone on with: its file header has a fault, or something else than less than a record stands behind its whole records
abbrev pub IsForeign : List ℕ → Type 0
IsForeign capture = ((fault : CaptureFault) × (header_at capture ≡ Err fault)) ⊎ ((offset : ℕ) × IsForeignAt capture offset)
