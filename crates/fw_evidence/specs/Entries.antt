-- Public vocabulary: what a record of a capture says in the log of a meter.
use Rattle.std.specs.Prelude.{ℕ, Bool, false, List, [], ◌∷◌, length, map, Result, Ok, Err, ◌==◌, ◌&&◌, ◌||◌, if◌then◌else◌}
use Rattle.std.specs.List.{list_any}
use Rattle.std.specs.Net.Socket.{socket_port}
use Rattle.std.specs.Str.{bytes_eq}
use Rattle.std.specs.declared.net.socket_addr.SocketAddr.{SocketAddr}
use Rattle.fw_capture.specs.declared.packet.Note.{Note}
use Rattle.fw_capture.specs.declared.packet.Note.TheVariants as notes
use Rattle.fw_capture.specs.View.{Endpoint, ipv4, ipv6, Told, datagram, note, other, endpoint_of}
use Rattle.fw_audit.specs.Log.{Item, started, came, sent, turned}
use Rattle.fw_evidence.specs.declared.error.Stray.{Stray}
use Rattle.fw_evidence.specs.declared.error.Stray.TheVariants as stray
use Rattle.fw_evidence.specs.declared.site.Side.{Side}
use Rattle.fw_evidence.specs.declared.site.Side.TheVariants as sides
use Rattle.fw_evidence.specs.declared.site.Site.{Site}

-- an item of a log as a record has it: of an address the IP address and the port
pub data Entry : Type 0 where
  starts : Entry
  comes : Endpoint → List ℕ → Entry
  goes : Endpoint → List ℕ → Entry
  turns : Entry

abbrev pub entry_of : Item → Entry
entry_of started = starts
entry_of (came from bytes) = comes (endpoint_of from) bytes
entry_of (sent to bytes) = goes (endpoint_of to) bytes
entry_of turned = turns

abbrev pub entries_of : List Item → List Entry
entries_of log = map entry_of log

-- ---- a record

-- whether two addresses are of one family and have one IP address and one port
abbrev pub same_end : Endpoint → Endpoint → Bool
same_end (ipv4 one m) (ipv4 two n) = m == n && bytes_eq one two
same_end (ipv4 one m) (ipv6 two n) = false
same_end (ipv6 one m) (ipv4 two n) = false
same_end (ipv6 one m) (ipv6 two n) = m == n && bytes_eq one two

-- whether an address is that of the meter at a site, or of another meter of its process
abbrev pub is_own : Site → Endpoint → Bool
is_own site end = same_end (endpoint_of site.at) end

abbrev pub is_other : Site → Endpoint → Bool
is_other site end = list_any (λ (other : SocketAddr). same_end (endpoint_of other) end) site.others.now

-- What a datagram is to the meter at a site: it was sent from there, or it came there; it is nothing if it is another one's. Between two of
-- these meters it can't be told.
abbrev pub exchange_at : Site → Endpoint → Endpoint → List ℕ → Result (List Entry) Stray
exchange_at site from to bytes =
    if is_own site from then (if is_own site to || is_other site to then Err stray.ToItself else Ok (goes to bytes ∷ []))
    else (if is_own site to then (if is_other site from then Err stray.ToItself else Ok (comes from bytes ∷ []))
    else (if is_other site from || is_other site to then Ok [] else Err stray.Elsewhere))

-- what is of the meter that has this port alone
abbrev pub at_port : Site → ℕ → Entry → Result (List Entry) Stray
at_port site port entry =
    if socket_port site.at == port then Ok (entry ∷ [])
    else (if list_any (λ (other : SocketAddr). socket_port other == port) site.others.now then Ok [] else Err stray.Elsewhere)

-- a turn of a meter that isn't named: of the only one, if there is one
abbrev pub some_turn : Site → Result (List Entry) Stray
some_turn site = if length site.others.now == 0 then Ok (turns ∷ []) else Err stray.UnnamedTurn

-- whether an address is one of those that may ask
abbrev pub is_head : Site → Endpoint → Bool
is_head site end = list_any (λ (head : SocketAddr). same_end (endpoint_of head) end) site.heads.now

-- a start of meters that so many addresses may ask, which are as many as here
abbrev pub start_at : Site → ℕ → Result (List Entry) Stray
start_at site heads = if length site.heads.now == heads then Ok (starts ∷ []) else Err stray.OtherHeads

-- that an address may ask which may do so here is nothing: the start is there
abbrev pub asking_at : Site → Endpoint → Result (List Entry) Stray
asking_at site end = if is_head site end then Ok [] else Err stray.OtherHeads

-- what a note is to a meter. All meters of a process start with it. That memory was refused to a meter is a start of its own: it goes on as if its
-- process had been killed as the datagram came. A note that counts datagrams of strangers is nothing: their meter drops them
abbrev pub noted : Site → Note → Result (List Entry) Stray
noted site notes.Start = Ok (starts ∷ [])
noted site (notes.MeterStart count heads) = start_at site heads
noted site (notes.HeadStart head) = Err stray.StartedAsHead
noted site (notes.MayAskV4 octets port) = asking_at site (ipv4 octets port)
noted site (notes.MayAskV6 octets port) = asking_at site (ipv6 octets port)
noted site notes.Turn = some_turn site
noted site (notes.TurnAt port) = at_port site port turns
noted site (notes.UnservedAt port) = at_port site port starts
noted site (notes.Strangers count) = Ok []

-- What a note is to a head end. It has none of what only meters do.
abbrev pub noted_of_head : Note → Result (List Entry) Stray
noted_of_head notes.Start = Ok (starts ∷ [])
noted_of_head (notes.MeterStart count heads) = Err stray.StartedAsMeter
noted_of_head (notes.HeadStart head) = Ok (starts ∷ [])
noted_of_head (notes.MayAskV4 octets port) = Err stray.StartedAsMeter
noted_of_head (notes.MayAskV6 octets port) = Err stray.StartedAsMeter
noted_of_head notes.Turn = Err stray.NoteOfMeter
noted_of_head (notes.TurnAt port) = Err stray.NoteOfMeter
noted_of_head (notes.UnservedAt port) = Err stray.NoteOfMeter
noted_of_head (notes.Strangers count) = Ok []

abbrev pub noted_by : Side → Site → Note → Result (List Entry) Stray
noted_by sides.Meter site n = noted site n
noted_by sides.Head site n = noted_of_head n

-- the entries of what a record tells to the end at a site, one or none; or why it is of no end there
abbrev pub entries_at : Site → Told → Result (List Entry) Stray
entries_at site (datagram from to bytes) = exchange_at site from to bytes
entries_at site (note n) = noted_by site.side site n
entries_at site other = Err stray.NoEntry
