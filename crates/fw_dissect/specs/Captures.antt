-- Public vocabulary: a capture in plain words. Each datagram that was sealed under one of some links stands there opened, with its time and its
-- addresses. Others and notes stand there as they are. Packets that are neither aren't there.
use Rattle.std.specs.Prelude.{◌≡◌, ◌⊎◌, ℕ, List, [], ◌∷◌, ◌++◌, Option, Some}
use Rattle.fw_capture.specs.declared.error.AppendError.{AppendError}
use Rattle.fw_capture.specs.declared.fault.CaptureError.{CaptureError}
use Rattle.fw_capture.specs.Refusal.{refusal_of}
use Rattle.fw_capture.specs.View.{Told, datagram, note, other}
use Rattle.fw_recording.specs.Records.{HoldsRecords}
use Rattle.fw_recording.specs.Recording.{capture_bytes}
use Rattle.fw_seal.specs.Sealing.{Ends}
use Rattle.fw_unseal.specs.Unsealing.{OpensNot, OpensTo}

-- what stands in the place of a datagram: the plain one, if it opens
abbrev pub Plain : List Ends → List ℕ → List ℕ → Type 0
Plain links wire bytes = ((counter : ℕ) × OpensTo links wire counter bytes) ⊎ (OpensNot links wire × (bytes ≡ wire))

-- what stands in the place of a record, which is a time and what it tells
abbrev pub PlainRecord : List Ends → ℕ → Told → List (ℕ × Told) → Type 0
PlainRecord links time (datagram from to wire) records = (bytes : List ℕ) × Plain links wire bytes × (records ≡ (time, datagram from to bytes) ∷ [])
PlainRecord links time (note n) records = records ≡ (time, note n) ∷ []
PlainRecord links time other records = records ≡ []

-- and in the place of records
abbrev pub PlainRecords : List Ends → List (ℕ × Told) → List (ℕ × Told) → Type 0
PlainRecords links [] plain = plain ≡ []
PlainRecords links (r ∷ records) plain =
    (first : List (ℕ × Told)) × (rest : List (ℕ × Told)) × PlainRecord links r.0 r.1 first × PlainRecords links records rest × (plain ≡ first ++ rest)

-- The bytes are the capture in plain words of this one, up to its end, or up to its first fault.
pub record IsPlainCapture (links : List Ends) (capture : List ℕ) (ending : Option CaptureError) (bytes : List ℕ) : Type 0 where
  pub records : List (ℕ × Told)
  pub holds : HoldsRecords capture records ending
  pub plain : List (ℕ × Told)
  pub plain_are : PlainRecords links records plain
  pub written : bytes ≡ capture_bytes plain

-- a record makes none in plain words, since a capture refuses it
pub record RefusesPlain (links : List Ends) (time : ℕ) (told : Told) (error : AppendError) : Type 0 where
  pub plain : ℕ × Told
  pub is : PlainRecord links time told (plain ∷ [])
  pub refused : refusal_of plain.0 plain.1 ≡ Some error
