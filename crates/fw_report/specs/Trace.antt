-- Public vocabulary: the trace of a run, a line for each datagram that was sent: its number, who sent it and who it is for, in plain words
-- what it says, why an initiate was refused that it answers, and what the network did with it.
use Rattle.std.specs.Prelude.{◌≡◌, ℕ, ◌+◌, ◌==◌, if◌then◌else◌, true, false, List, [], ◌∷◌, ◌++◌, length, slice_index, slice_index_or, Option, codes, decimal}
use Rattle.std.specs.Fmt.{signed_decimal}
use Rattle.fw_apdu.specs.declared.error.ApduError.{ApduError}
use Rattle.fw_apdu.specs.declared.error.ApduError.TheVariants as apdu
use Rattle.fw_axdr.specs.declared.error.AxdrError.{AxdrError}
use Rattle.fw_axdr.specs.declared.error.AxdrError.TheVariants as axdr
use Rattle.fw_server.specs.declared.object.Reading.{Reading}
use Rattle.fw_server.specs.declared.object.Reading.TheVariants as reading
use Rattle.fw_world.specs.declared.datagram.Actor.{Actor}
use Rattle.fw_world.specs.declared.datagram.Actor.TheVariants as actor
use Rattle.fw_world.specs.declared.setup.Setup.{Setup}
use Rattle.fw_world.specs.Step.{Event}
use Rattle.fw_world.specs.View.{sender, addressee}
use Rattle.fw_world.specs.World.{Datagram}
use Rattle.fw_report.specs.declared.course.Course.{Course}
use Rattle.fw_report.specs.declared.reason.Reason.{Reason}
use Rattle.fw_wrapper.specs.declared.error.WrapError.{WrapError}
use Rattle.fw_wrapper.specs.declared.error.WrapError.TheVariants as wrap
use Rattle.fw_report.specs.declared.message.Addressed.{Addressed}
use Rattle.fw_report.specs.declared.message.Service.{Service}
use Rattle.fw_report.specs.declared.message.Service.TheVariants as service
use Rattle.fw_report.specs.declared.message.ShownValue.{ShownValue}
use Rattle.fw_report.specs.declared.message.ShownValue.TheVariants as shown
use Rattle.fw_report.specs.declared.message.Message.{Message}
use Rattle.fw_report.specs.declared.message.Message.TheVariants as message
use Rattle.fw_report.specs.declared.message.Title.{Title}
use Rattle.fw_report.specs.declared.message.Unread.{Unread}
use Rattle.fw_report.specs.declared.message.Unread.TheVariants as unread
use Rattle.fw_report.specs.declared.trace.Note.{Note}
use Rattle.fw_report.specs.Course.{AreCourses, course_of, course_words}
use Rattle.fw_report.specs.Reason.{AreReasons, reason_at, reason_told, reason_words}
use Rattle.fw_report.specs.Message.{Says}

-- ---- the words

abbrev pub attribute_name : Reading → List ℕ
attribute_name (reading.LogicalName object) = codes "logical name"
attribute_name reading.BlockSize = codes "block size"
attribute_name reading.TransferredBlocks = codes "transferred blocks"
attribute_name reading.FirstNotTransferred = codes "first not transferred block"
attribute_name reading.TransferEnabled = codes "transfer enabled"
attribute_name reading.TransferStatus = codes "transfer status"
attribute_name reading.ToActivate = codes "image to activate"
attribute_name reading.ActiveName = codes "active firmware identifier"
attribute_name reading.ActiveDigest = codes "active firmware signature"

-- a size in bytes
abbrev pub in_bytes : ℕ → List ℕ
in_bytes size = codes "(" ++ (decimal size ++ codes " bytes)")

-- a release, and nothing for 0, which is none
abbrev pub release_words : ℕ → List ℕ
release_words release = if release == 0 then [] else (codes " release " ++ decimal release)

-- the numbers of a campaign, and the release
abbrev pub title_words : Title → List ℕ
title_words title =
    codes "campaign " ++ (decimal title.campaign.head ++ (codes " " ++ (decimal title.campaign.serial ++ release_words title.release)))

abbrev pub shown_words : ShownValue → List ℕ
shown_words (shown.Number n) = decimal n
shown_words (shown.Flag true) = codes "true"
shown_words (shown.Flag false) = codes "false"
shown_words (shown.Status n) = codes "status " ++ decimal n
shown_words (shown.Bits n) = codes "bits " ++ decimal n
shown_words (shown.Name title) = title_words title
shown_words (shown.Octets size) = codes "? " ++ in_bytes size
shown_words (shown.Images n) = codes "images " ++ decimal n
shown_words shown.Other = codes "?"

-- ---- what a request is about that no meter has here

abbrev pub service_word : Service → List ℕ
service_word service.Get = codes "get"
service_word service.Set = codes "set"
service_word service.Action = codes "action"

abbrev pub member_word : Service → List ℕ
member_word service.Get = codes "attribute"
member_word service.Set = codes "attribute"
member_word service.Action = codes "method"

-- an OBIS code by its six value groups, A-B:C.D.E.F (IEC 62056-6-1)
unfoldable pub obis_text : List ℕ → List ℕ
obis_text name =
    decimal (slice_index name 0) ++ (codes "-" ++ (decimal (slice_index name 1) ++ (codes ":" ++ (decimal (slice_index name 2) ++ (codes "."
    ++ (decimal (slice_index name 3) ++ (codes "." ++ (decimal (slice_index name 4) ++ (codes "." ++ decimal (slice_index name 5))))))))))

-- the class and the instance of the object
abbrev pub object_words : Addressed → List ℕ
object_words about = service_word about.service ++ (codes " class " ++ (decimal about.class ++ (codes " " ++ obis_text about.instance)))

-- the attribute or the method
abbrev pub member_words : Addressed → List ℕ
member_words about = codes " " ++ (member_word about.service ++ (codes " " ++ signed_decimal about.number))

abbrev pub addressed_words : Addressed → List ℕ
addressed_words about = object_words about ++ member_words about

-- ---- why bytes can't be read

abbrev pub wrap_name : WrapError → List ℕ
wrap_name wrap.Short = codes "Short"
wrap_name wrap.Version = codes "Version"
wrap_name wrap.Length = codes "Length"
wrap_name wrap.TooLong = codes "TooLong"
wrap_name wrap.OutOfMemory = codes "OutOfMemory"

abbrev pub axdr_name : AxdrError → List ℕ
axdr_name axdr.Truncated = codes "Truncated"
axdr_name axdr.UnknownTag = codes "UnknownTag"
axdr_name axdr.BadLength = codes "BadLength"
axdr_name axdr.TooDeep = codes "TooDeep"
axdr_name axdr.OutOfMemory = codes "OutOfMemory"

-- the name of a fault, behind what has it: the APDU, or the Data in it
abbrev pub apdu_words : ApduError → List ℕ
apdu_words apdu.Truncated = codes "APDU Truncated"
apdu_words apdu.UnknownService = codes "APDU UnknownService"
apdu_words apdu.UnsupportedForm = codes "APDU UnsupportedForm"
apdu_words (apdu.BadData fault) = codes "Data " ++ axdr_name fault
apdu_words apdu.Trailing = codes "APDU Trailing"
apdu_words apdu.OutOfMemory = codes "APDU OutOfMemory"

abbrev pub unread_words : Unread → List ℕ
unread_words (unread.Wrapper fault) = codes "wrapper " ++ wrap_name fault
unread_words (unread.Apdu fault) = apdu_words fault

-- ---- what a datagram says

abbrev pub message_words : Message → List ℕ
message_words (message.Get attribute) = codes "get " ++ attribute_name attribute
message_words (message.Enable true) = codes "enable"
message_words (message.Enable false) = codes "disable"
message_words (message.Initiate title size) = codes "initiate " ++ (title_words title ++ (codes " " ++ in_bytes size))
message_words (message.InitiateUnnamed size) = codes "initiate ? " ++ in_bytes size
message_words (message.Block number size) = codes "block " ++ (decimal number ++ (codes " " ++ in_bytes size))
message_words message.Verify = codes "verify"
message_words message.Activate = codes "activate"
message_words (message.Got b) = codes "get " ++ shown_words b
message_words (message.GotCode c) = codes "get code " ++ decimal c
message_words (message.SetCode c) = codes "set " ++ decimal c
message_words (message.ActionCode c) = codes "action " ++ decimal c
message_words (message.Foreign about) = addressed_words about
message_words (message.Unread size why) = codes "? " ++ (in_bytes size ++ (codes ", " ++ unread_words why))

-- ---- the lines

abbrev pub kind_of : Actor → List ℕ
kind_of (actor.Head head) = codes "head"
kind_of (actor.Meter meter) = codes "meter"

abbrev pub number_of : Actor → ℕ
number_of (actor.Head head) = head
number_of (actor.Meter meter) = meter

-- who sends a datagram to whom
abbrev pub ends_words : Actor → Actor → List ℕ
ends_words from to =
    kind_of from ++ (codes " " ++ (decimal (number_of from) ++ (codes " -> " ++ (kind_of to ++ (codes " " ++ decimal (number_of to))))))

-- two spaces stand before what is said
abbrev pub line_of : ℕ → Datagram → Message → Note → List ℕ
line_of number d s note =
    decimal number ++ (codes " " ++ (ends_words (sender d) (addressee d) ++ (codes "  " ++ (message_words s
    ++ (reason_words (reason_told s note.reason) ++ (course_words note.course ++ codes "\n"))))))

-- what is known of the datagram of this number beside what it says
abbrev pub note_of : List Course → List (Option Reason) → ℕ → Note
note_of courses reasons number = record { reason = reason_at reasons number; course = slice_index_or courses number (course_of number []) }

-- the lines of datagrams, of which the first has this number, one after another
abbrev pub TracesFrom : (ℕ → Note) → ℕ → List Datagram → List ℕ → Type 0
TracesFrom notes number [] text = text ≡ []
TracesFrom notes number (d ∷ sent) text =
    (s : Message) × (rest : List ℕ) × Says d.direction d.bytes s × TracesFrom notes (number + 1) sent rest
    × (text ≡ line_of number d s (notes number) ++ rest)

-- datagrams are numbered from 0
abbrev pub IsTrace : List Course → List (Option Reason) → List Datagram → List ℕ → Type 0
IsTrace courses reasons sent text = TracesFrom (note_of courses reasons) 0 sent text

-- the trace of what was sent in a run of these events
pub record TellsTrace (setup : Setup) (events : List Event) (sent : List Datagram) (text : List ℕ) : Type 0 where
  pub courses : List Course
  pub reasons : List (Option Reason)
  pub courses_are : AreCourses events (length sent) courses
  pub reasons_are : AreReasons setup events reasons
  pub trace : IsTrace courses reasons sent text
