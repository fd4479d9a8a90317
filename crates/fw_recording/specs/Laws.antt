-- Public vocabulary: the laws of whole captures. What was written is there, and what is there is all.
use Rattle.std.specs.Prelude.{◌≡◌, ℕ, List, [], ◌∷◌, Option, None}
use Rattle.fw_capture.specs.declared.fault.CaptureError.{CaptureError}
use Rattle.fw_capture.specs.Refusal.{refusal_of}
use Rattle.fw_capture.specs.View.{Told, IsTold}
use Rattle.fw_recording.specs.Records.{HoldsRecords}
use Rattle.fw_recording.specs.Recording.{capture_bytes}

-- each of the records has a spelling
abbrev pub AllSpelled : List (ℕ × Told) → Type 0
AllSpelled [] = Unit {0}
AllSpelled (r ∷ records) = IsTold r.1 × (refusal_of r.0 r.1 ≡ None) × AllSpelled records

-- a capture of records that have spellings has these records, and ends with the last
abbrev pub WrittenIsHeld : Type 0
WrittenIsHeld = (records : List (ℕ × Told)) → AllSpelled records → HoldsRecords (capture_bytes records) records None

-- a capture has one list of records at most, and one end
abbrev pub OneReading : Type 0
OneReading =
    (capture : List ℕ) (some others : List (ℕ × Told)) (ending another : Option CaptureError)
    → HoldsRecords capture some ending → HoldsRecords capture others another → (some ≡ others) × (ending ≡ another)
