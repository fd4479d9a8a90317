-- Public vocabulary: what the records of a whole capture tell, and how the capture ends.
use Rattle.std.specs.Prelude.{◌≡◌, ◌≢◌, ◌⊎◌, ℕ, List, [], ◌∷◌, Option, Some, None, Ok, Err}
use Rattle.fw_capture.specs.declared.fault.CaptureError.{CaptureError}
use Rattle.fw_capture.specs.Place.{Place}
use Rattle.fw_capture.specs.View.{Told}
use Rattle.fw_capture.specs.Reading.{record_at}
use Rattle.fw_capture.specs.Steps.{OpensAs, after}

-- the capture ends with its last record, or at one that has this fault first
abbrev pub EndsAt : Place → Option CaptureError → Type 0
EndsAt place None = place.rest ≡ []
EndsAt place (Some e) = (record_at place.format place.rest ≡ Err e.fault) × (e.offset ≡ place.offset) × (place.rest ≢ [])

-- from a place on there are these records, each a time and what it tells, and then the capture ends so
abbrev pub HasRecords : Place → List (ℕ × Told) → Option CaptureError → Type 0
HasRecords place [] ending = EndsAt place ending
HasRecords place (r ∷ records) ending =
    (size : ℕ) × (record_at place.format place.rest ≡ Ok (r.0, r.1, size)) × HasRecords (after size place) records ending

-- A capture has these records, and ends so. One whose file header has a fault has no record.
abbrev pub HoldsRecords : List ℕ → List (ℕ × Told) → Option CaptureError → Type 0
HoldsRecords capture records ending =
    ((place : Place) × OpensAs capture (Ok place) × HasRecords place records ending)
    ⊎ ((error : CaptureError) × OpensAs capture (Err error) × (records ≡ []) × (ending ≡ Some error))
