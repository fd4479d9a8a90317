-- For private clauses alone: no public clause cites it.
use Rattle.std.specs.Prelude.{◌≡◌, ◌≢◌, ℕ, ◌+◌, ◌<◌, Bool, List, [], ◌++◌, Option, Some, None, Result, Ok, Err}
use Rattle.std.specs.Io.KnownBytes.{Appends, Consumes, IsAtEnd, Keeps}
use Rattle.fw_capture.specs.declared.error.AppendError.{AppendError}
use Rattle.fw_capture.specs.declared.error.AppendError.TheVariants as append
use Rattle.fw_capture.specs.declared.error.StreamError.{StreamError}
use Rattle.fw_capture.specs.declared.error.StreamError.TheVariants as stream
use Rattle.fw_capture.specs.declared.fault.CaptureError.{CaptureError}
use Rattle.fw_capture.specs.declared.format.Format.{Format}
use Rattle.fw_capture.specs.declared.packet.Packet.{Packet}
use Rattle.fw_capture.specs.Place.{Place}
use Rattle.fw_capture.specs.Reading.{header_at, record_at, size_at}
use Rattle.fw_capture.specs.Steps.{OpensAs}
use Rattle.fw_capture.specs.Streams.{TakesHeader, left_of, max_record}
use Rattle.fw_capture.specs.View.{Told, told_in}
use Rattle.fw_recording.specs.Records.{HasRecords}
use Rattle.fw_recording.specs.Recording.{records_bytes}
use Rattle.fw_seal.specs.Sealing.{Ends}
use Rattle.fw_dissect.specs.declared.error.DissectError.{DissectError}
use Rattle.fw_dissect.specs.declared.error.DissectError.TheVariants as error
use Rattle.fw_dissect.specs.Captures.{PlainRecord, PlainRecords, RefusesPlain}
use Rattle.fw_dissect.specs.Lines.{AreLines}
use Rattle.fw_dissect.specs.Streams.{Comes, HasNoPlain, IsLong, Passes}

-- ---- errors

-- what the error of a stream is here, at a record with this offset
abbrev pub of_stream : ℕ → StreamError → DissectError
of_stream offset stream.TooLong = error.TooLong offset
of_stream offset stream.Input = error.Input
of_stream offset stream.OutOfMemory = error.OutOfMemory

-- what refuses a record in plain words
abbrev pub of_append : AppendError → DissectError
of_append append.OutOfMemory = error.OutOfMemory
of_append e = error.NoRecord

-- an error of which no record is the cause
abbrev pub IsOfNoRecord : DissectError → Type 0
IsOfNoRecord (error.TooLong offset) = ⊥
IsOfNoRecord error.NoRecord = ⊥
IsOfNoRecord e = Unit {0}

-- one of a reader
abbrev pub IsOfReader : DissectError → Type 0
IsOfReader (error.TooLong offset) = Unit {0}
IsOfReader error.Input = Unit {0}
IsOfReader error.OutOfMemory = Unit {0}
IsOfReader e = ⊥

-- the record at the front of these bytes, at this offset, is its cause, if it is too long
abbrev pub LongIf : DissectError → ℕ → Format → List ℕ → Type 0
LongIf (error.TooLong place) offset f rest = (offset ≡ place) × (max_record < 16 + size_at f rest)
LongIf e offset f rest = Unit {0}

-- one of what is told of a record, of which this one is the cause, if it makes none in plain words
abbrev pub NoneIf : DissectError → List Ends → ℕ → Told → Type 0
NoneIf (error.TooLong offset) links time told = ⊥
NoneIf error.Input links time told = ⊥
NoneIf error.NoRecord links time told = (e : AppendError) × RefusesPlain links time told e
NoneIf e links time told = Unit {0}

-- the record that is the cause of an error stands behind some others, from a place on
abbrev pub HasCauseFrom : List Ends → Place → DissectError → Type 0
HasCauseFrom links start (error.TooLong offset) = Comes start (λ place. IsLong offset place)
HasCauseFrom links start error.NoRecord = Comes start (λ place. HasNoPlain links place)
HasCauseFrom links start e = Unit {0}

-- ---- what is taken

-- the place in a capture of this form before these bytes
abbrev pub at : Format → List ℕ → ℕ → Place
at f rest offset = record { format = f; rest = rest; offset = offset }

-- what these bytes of a file header say: how the records behind it are written, or its fault
abbrev pub Opens : List ℕ → Result Format CaptureError → Type 0
Opens header (Ok f) = header_at header ≡ Ok f
Opens header (Err e) = OpensAs header (Err e)

-- the same of a file header that was taken of a reader
abbrev pub OpensBy : Option (List ℕ) → Option (List ℕ) → Result Format CaptureError → Type 0
OpensBy before after opened = (header : List ℕ) × TakesHeader before after header × Opens header opened

-- what the bytes of a record are that begins at this offset
abbrev pub IsPacketOf : Format → ℕ → List ℕ → Result (Option Packet) CaptureError → Type 0
IsPacketOf f offset bytes (Ok None) = bytes ≡ []
IsPacketOf f offset bytes (Ok (Some p)) = (size : ℕ) × (record_at f bytes ≡ Ok (p.nanoseconds, told_in p.content, size))
IsPacketOf f offset bytes (Err e) = (record_at f bytes ≡ Err e.fault) × (e.offset ≡ offset) × (bytes ≢ [])

-- ---- what writers get

-- if there is a writer, it got these bytes
abbrev pub PutsIf : Option (Option (List ℕ)) → Option (Option (List ℕ)) → List ℕ → Type 0
PutsIf None last bytes = last ≡ None
PutsIf (Some first) None bytes = ⊥
PutsIf (Some first) (Some last) bytes = Appends first last bytes

-- if there is one, it got nothing
abbrev pub KeepsIf : Option (Option (List ℕ)) → Option (Option (List ℕ)) → Type 0
KeepsIf None last = last ≡ None
KeepsIf (Some first) None = ⊥
KeepsIf (Some first) (Some last) = Keeps first last

-- a writer got what stands in the place of this record
abbrev pub PutsRecord : List Ends → ℕ → Told → Option (List ℕ) → Option (List ℕ) → Type 0
PutsRecord links time told first last =
    (plain : List (ℕ × Told)) × PlainRecord links time told plain × Appends first last (records_bytes plain)

-- if there is one, it got that
abbrev pub PutsRecordIf : List Ends → ℕ → Told → Option (Option (List ℕ)) → Option (Option (List ℕ)) → Type 0
PutsRecordIf links time told None last = last ≡ None
PutsRecordIf links time told (Some first) None = ⊥
PutsRecordIf links time told (Some first) (Some last) = PutsRecord links time told first last

-- and what stands in the place of these
abbrev pub PutsRecordsIf : List Ends → List (ℕ × Told) → Option (Option (List ℕ)) → Option (Option (List ℕ)) → Type 0
PutsRecordsIf links records None last = last ≡ None
PutsRecordsIf links records (Some first) None = ⊥
PutsRecordsIf links records (Some first) (Some last) =
    (plain : List (ℕ × Told)) × PlainRecords links records plain × Appends first last (records_bytes plain)

-- Records behind the file header were taken of a reader, told, and put in plain words, up to the first fault.
pub record TellsRecords (times : Bool) (links : List Ends) (f : Format) (ending : Option CaptureError) (before after first last : Option (List ℕ))
    (plain_first plain_last : Option (Option (List ℕ))) : Type 0 where
  pub taken : List ℕ
  pub is_taken : Consumes before after taken
  pub at_end : ending ≡ None → IsAtEnd after
  pub records : List (ℕ × Told)
  pub has : HasRecords (at f (taken ++ left_of after) 24) records ending
  pub text : List ℕ
  pub lines : AreLines times links 0 records text
  pub written : Appends first last text
  pub put : PutsRecordsIf links records plain_first plain_last

-- The lines of the first of them were written, and nothing else.
pub record TellsFirst (times : Bool) (links : List Ends) (f : Format) (before first last : Option (List ℕ)) : Type 0 where
  pub records : List (ℕ × Told)
  pub are_first : (rest : List ℕ) → before ≡ Some rest → (place : Place) × Passes (at f rest 24) records place
  pub text : List ℕ
  pub lines : AreLines times links 0 records text
  pub written : Appends first last text
