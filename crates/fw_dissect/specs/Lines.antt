-- Public vocabulary: what is reported of a capture. Each datagram has a line: its number, the address and the port that it came from and went to,
-- and what it says. Each note has one too. Other packets have none. Where that is asked for, the time of its record stands before each line.
use Rattle.std.specs.Prelude.{◌≡◌, ◌⊎◌, ℕ, ◌+◌, ◌==◌, ◌||◌, if◌then◌else◌, Bool, true, false, List, [], ◌∷◌, ◌++◌, length, Option, Some, None, slice_get, codes, decimal}
use Rattle.std.specs.Net.Addr.{segments_of}
use Rattle.std.specs.Net.Text.{ipv4_text, ipv6_text}
use Rattle.fw_capture.specs.declared.fault.CaptureError.{CaptureError}
use Rattle.fw_capture.specs.declared.packet.Note.{Note}
use Rattle.fw_capture.specs.declared.packet.Note.TheVariants as notes
use Rattle.fw_capture.specs.View.{Endpoint, ipv4, ipv6, Told, datagram, note, other}
use Rattle.fw_world.specs.declared.datagram.Direction.{Direction}
use Rattle.fw_world.specs.declared.datagram.Direction.TheVariants.{ToMeter, ToHead}
use Rattle.fw_report.specs.declared.message.Message.{Message}
use Rattle.fw_report.specs.Message.{Says}
use Rattle.fw_report.specs.Trace.{in_bytes, message_words}
use Rattle.fw_recording.specs.Records.{HoldsRecords}
use Rattle.fw_seal.specs.Sealing.{Ends}
use Rattle.fw_calendar.specs.Times.{IsTime}
use Rattle.fw_unseal.specs.Unsealing.{LooksPlain, LooksSealed, OpensNot, OpensTo}

-- ---- which way a datagram goes

-- the first byte of a GET.request, a SET.request or an ACTION.request
abbrev pub is_request : Option ℕ → Bool
is_request None = false
is_request (Some tag) = tag == 0xc0 || tag == 0xc1 || tag == 0xc3

-- A capture doesn't say which end is the meter. A request is for a meter, and anything else for a head end: the APDU, which is after the eight
-- bytes of the wrapper, begins with the service.
abbrev pub direction_of : List ℕ → Direction
direction_of bytes = if is_request (slice_get bytes 8) then ToMeter else ToHead

-- ---- what a datagram says

-- what its bytes say as they are
pub record PlainWords (bytes words : List ℕ) : Type 0 where
  pub message : Message
  pub says : Says (direction_of bytes) bytes message
  pub words_are : words ≡ message_words message

-- behind the counter of a sealing, what its plain datagram says, or how many bytes it has
abbrev pub opened_words : ℕ → List ℕ → List ℕ
opened_words counter said = codes "sealed " ++ (decimal counter ++ (codes " " ++ said))

abbrev pub unopened_words : ℕ → ℕ → List ℕ
unopened_words counter size = codes "sealed " ++ (decimal counter ++ (codes " unopened " ++ in_bytes size))

-- The other end of one of these links sealed it.
pub record OpenedWords (links : List Ends) (bytes words : List ℕ) : Type 0 where
  pub counter : ℕ
  pub plain : List ℕ
  pub opens : OpensTo links bytes counter plain
  pub said : List ℕ
  pub says : PlainWords plain said
  pub words_are : words ≡ opened_words counter said

-- It has the form of a sealing, and opens under none of them.
pub record UnopenedWords (links : List Ends) (bytes words : List ℕ) : Type 0 where
  pub counter : ℕ
  pub looks : LooksSealed bytes counter
  pub none : OpensNot links bytes
  pub words_are : words ≡ unopened_words counter (length bytes)

-- one of these; of a datagram that doesn't look sealed, what its bytes say
abbrev pub AreWords : List Ends → List ℕ → List ℕ → Type 0
AreWords links bytes words = OpenedWords links bytes words ⊎ (UnopenedWords links bytes words ⊎ (LooksPlain bytes × PlainWords bytes words))

-- ---- the lines

-- an address and a port
abbrev pub endpoint_text : Endpoint → List ℕ
endpoint_text (ipv4 octets port) = ipv4_text octets ++ (codes ":" ++ decimal port)
endpoint_text (ipv6 octets port) = codes "[" ++ (ipv6_text (segments_of octets) ++ (codes "]:" ++ decimal port))

abbrev pub ends_text : Endpoint → Endpoint → List ℕ
ends_text from to = endpoint_text from ++ (codes " -> " ++ endpoint_text to)

-- what stands before the words of a line
abbrev pub front_text : ℕ → Endpoint → Endpoint → List ℕ
front_text number from to = decimal number ++ (codes " " ++ (ends_text from to ++ codes "  "))

abbrev pub datagram_line : ℕ → Endpoint → Endpoint → List ℕ → List ℕ
datagram_line number from to words = front_text number from to ++ (words ++ codes "\n")

abbrev pub note_line : Note → List ℕ
note_line notes.Start = codes "start\n"
note_line (notes.MeterStart count heads) = codes "start meter count " ++ (decimal count ++ (codes " heads " ++ (decimal heads ++ codes "\n")))
note_line (notes.HeadStart head) = codes "start head " ++ (decimal head ++ codes "\n")
note_line (notes.MayAskV4 octets port) = codes "may ask " ++ (ipv4_text octets ++ (codes ":" ++ (decimal port ++ codes "\n")))
note_line (notes.MayAskV6 octets port) = codes "may ask [" ++ (ipv6_text (segments_of octets) ++ (codes "]:" ++ (decimal port ++ codes "\n")))
note_line notes.Turn = codes "turn\n"
note_line (notes.TurnAt port) = codes "turn " ++ (decimal port ++ codes "\n")
note_line (notes.UnservedAt port) = codes "unserved " ++ (decimal port ++ codes "\n")
note_line (notes.Strangers count) = codes "strangers " ++ (decimal count ++ codes "\n")

-- the time and a space, where times are asked for
abbrev pub IsTimeIf : Bool → ℕ → List ℕ → Type 0
IsTimeIf false time text = text ≡ []
IsTimeIf true time text = (said : List ℕ) × IsTime time said × (text ≡ said ++ codes " ")

-- the line of a record of this time, of which the datagram has this number if it tells one
abbrev pub IsLine : Bool → List Ends → ℕ → ℕ → Told → List ℕ → Type 0
IsLine times links number time (datagram from to bytes) line =
    (front : List ℕ) × (words : List ℕ) × IsTimeIf times time front × AreWords links bytes words × (line ≡ front ++ datagram_line number from to words)
IsLine times links number time (note n) line = (front : List ℕ) × IsTimeIf times time front × (line ≡ front ++ note_line n)
IsLine times links number time other line = line ≡ []

-- the number of the next datagram
abbrev pub number_after : ℕ → Told → ℕ
number_after number (datagram from to bytes) = number + 1
number_after number (note n) = number
number_after number other = number

-- the lines of records, one after another, of which the first datagram has this number
abbrev pub AreLines : Bool → List Ends → ℕ → List (ℕ × Told) → List ℕ → Type 0
AreLines times links number [] text = text ≡ []
AreLines times links number (r ∷ records) text =
    (line : List ℕ) × (rest : List ℕ) × IsLine times links number r.0 r.1 line × AreLines times links (number_after number r.1) records rest
    × (text ≡ line ++ rest)

-- The text tells all of a capture up to its end, or up to its first fault, to who has these links, with times or without. Datagrams are numbered
-- from 0.
pub record TellsCapture (times : Bool) (links : List Ends) (capture : List ℕ) (ending : Option CaptureError) (text : List ℕ) : Type 0 where
  pub records : List (ℕ × Told)
  pub holds : HoldsRecords capture records ending
  pub lines : AreLines times links 0 records text
