-- Public vocabulary: what is told of a capture that a reader has, and what writers get of it, where the bytes that these hold are known.
use Rattle.std.specs.Prelude.{◌≡◌, ◌⊎◌, ℕ, ◌+◌, ◌<◌, Bool, List, [], ◌∷◌, ◌++◌, Option, Some, None, Ok}
use Rattle.std.specs.Io.KnownBytes.{Appends, Consumes, IsAtEnd}
use Rattle.fw_capture.specs.declared.error.AppendError.{AppendError}
use Rattle.fw_capture.specs.declared.fault.CaptureError.{CaptureError}
use Rattle.fw_capture.specs.Place.{Place}
use Rattle.fw_capture.specs.Reading.{record_at, size_at}
use Rattle.fw_capture.specs.Steps.{OpensAs, after}
use Rattle.fw_capture.specs.Streams.{left_of, max_record}
use Rattle.fw_capture.specs.View.{Told}
use Rattle.fw_seal.specs.Sealing.{Ends}
use Rattle.fw_dissect.specs.declared.error.DissectError.{DissectError}
use Rattle.fw_dissect.specs.declared.error.DissectError.TheVariants as error
use Rattle.fw_dissect.specs.Captures.{IsPlainCapture, RefusesPlain}
use Rattle.fw_dissect.specs.Lines.{AreLines, TellsCapture}

-- ---- a capture that is told up to its end, or up to its first fault

-- If there is a writer of captures, this one in plain words was appended to what it held.
abbrev pub PutsPlainIf : List Ends → List ℕ → Option CaptureError → Option (Option (List ℕ)) → Option (Option (List ℕ)) → Type 0
PutsPlainIf links capture ending None last = last ≡ None
PutsPlainIf links capture ending (Some first) None = ⊥
PutsPlainIf links capture ending (Some first) (Some last) = (bytes : List ℕ) × IsPlainCapture links capture ending bytes × Appends first last bytes

-- What was taken of a reader, and what it has left, is a capture. All of it was told, or what stands before its first fault.
pub record Dissects (times : Bool) (links : List Ends) (ending : Option CaptureError) (before after first last : Option (List ℕ))
    (plain_first plain_last : Option (Option (List ℕ))) : Type 0 where
  pub taken : List ℕ
  pub is_taken : Consumes before after taken
  pub at_end : ending ≡ None → IsAtEnd after
  pub text : List ℕ
  pub tells : TellsCapture times links (taken ++ left_of after) ending text
  pub written : Appends first last text
  pub plain : PutsPlainIf links (taken ++ left_of after) ending plain_first plain_last

-- ---- one that isn't told so far, since something else ends it

-- behind these records, from a place on, is this place
abbrev pub Passes : Place → List (ℕ × Told) → Place → Type 0
Passes start [] place = place ≡ start
Passes start (r ∷ records) place =
    (size : ℕ) × (record_at start.format start.rest ≡ Ok (r.0, r.1, size)) × Passes (after size start) records place

-- a capture begins with these records, if they are any
abbrev pub BeginsWith : List ℕ → List (ℕ × Told) → Type 0
BeginsWith capture records = (records ≡ []) ⊎ ((start : Place) × (place : Place) × OpensAs capture (Ok start) × Passes start records place)

-- The lines of the first records of what a reader had were written, and nothing else.
pub record TellsFront (times : Bool) (links : List Ends) (before first last : Option (List ℕ)) : Type 0 where
  pub records : List (ℕ × Told)
  pub are_first : (capture : List ℕ) → before ≡ Some capture → BeginsWith capture records
  pub text : List ℕ
  pub lines : AreLines times links 0 records text
  pub written : Appends first last text

-- this is true of a place behind some records, from this one on
abbrev pub Comes : Place → (Place → Type 0) → Type 0
Comes start holds = (records : List (ℕ × Told)) × (place : Place) × Passes start records place × holds place

-- a record at this offset that says that it has more than 64 MiB
abbrev pub IsLong : ℕ → Place → Type 0
IsLong offset place = (place.offset ≡ offset) × (max_record < 16 + size_at place.format place.rest)

-- one that makes none in plain words
abbrev pub HasNoPlain : List Ends → Place → Type 0
HasNoPlain links place =
    (time : ℕ) × (told : Told) × (size : ℕ) × (why : AppendError)
    × (record_at place.format place.rest ≡ Ok (time, told, size)) × RefusesPlain links time told why

-- a capture has a record at this offset, behind others, that says that it has more than 64 MiB
abbrev pub HasLong : List ℕ → ℕ → Type 0
HasLong capture offset = (start : Place) × OpensAs capture (Ok start) × Comes start (λ place. IsLong offset place)

-- the record of a capture that is the cause of an error, if one is
abbrev pub HasCause : List Ends → List ℕ → DissectError → Type 0
HasCause links capture (error.TooLong offset) = HasLong capture offset
HasCause links capture error.NoRecord = (start : Place) × OpensAs capture (Ok start) × Comes start (λ place. HasNoPlain links place)
HasCause links capture e = Unit {0}

-- the errors of a capture in plain words
abbrev pub IsOfPlain : DissectError → Type 0
IsOfPlain error.NoRecord = Unit {0}
IsOfPlain error.Plain = Unit {0}
IsOfPlain e = ⊥
