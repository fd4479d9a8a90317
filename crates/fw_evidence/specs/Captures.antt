-- Public vocabulary: a capture as the log of a meter, one record after another.
use Rattle.std.specs.Prelude.{◌≡◌, ◌≢◌, ◌⊎◌, ℕ, ◌+◌, List, [], ◌∷◌, ◌++◌, length, map, Ok, Err}
use Rattle.fw_capture.specs.declared.fault.CaptureError.{CaptureError}
use Rattle.fw_capture.specs.Place.{Place}
use Rattle.fw_capture.specs.Reading.{record_at}
use Rattle.fw_capture.specs.Steps.{OpensAs, after}
use Rattle.fw_capture.specs.View.{Told}
use Rattle.fw_audit.specs.Log.{Item}
use Rattle.fw_evidence.specs.Entries.{Entry, entries_at, entries_of}
use Rattle.fw_evidence.specs.declared.error.LogError.{LogError}
use Rattle.fw_evidence.specs.declared.error.LogError.TheVariants as errors
use Rattle.fw_evidence.specs.declared.error.Mark.{Mark}
use Rattle.fw_evidence.specs.declared.error.Stray.{Stray}
use Rattle.fw_evidence.specs.declared.site.Site.{Site}

-- From a place on stand these records, each with its offset and what it tells, and behind the last of them is this place.
abbrev pub Passes : Place → List (ℕ × Told) → Place → Type 0
Passes place [] last = last ≡ place
Passes place (r ∷ records) last =
    (time : ℕ) × (size : ℕ) × (record_at place.format place.rest ≡ Ok (time, r.1, size)) × (r.0 ≡ place.offset) × Passes (after size place) records last

-- the record of this number, at this offset
abbrev pub mark_at : ℕ → ℕ → Mark
mark_at n where_it_is = record { number = n; offset = where_it_is }

-- the record of each of these entries
abbrev pub marks_of : Mark → List Entry → List Mark
marks_of mark entries = map (λ (_ : Entry). mark) entries

-- These records, of which the first has this number, say these entries to the meter at a site, in their order. Each entry has the mark of
-- its record.
abbrev pub AllSay : Site → ℕ → List (ℕ × Told) → List Entry → List Mark → Type 0
AllSay site n [] entries marks = (entries ≡ []) × (marks ≡ [])
AllSay site n (r ∷ records) entries marks =
    (first : List Entry) × (rest : List Entry) × (later : List Mark) × (entries_at site r.1 ≡ Ok first) × AllSay site (n + 1) records rest later
    × (entries ≡ first ++ rest) × (marks ≡ marks_of (mark_at n r.0) first ++ later)

-- The first records of a capture, so many, say these entries to the meter at a site, and behind them is this place.
pub record IsReadTo (site : Site) (capture : List ℕ) (count : ℕ) (last : Place) (entries : List Entry) (marks : List Mark) : Type 0 where
  pub first : Place
  pub opens : OpensAs capture (Ok first)
  pub records : List (ℕ × Told)
  pub passes : Passes first records last
  pub counted : count ≡ length records
  pub say : AllSay site 0 records entries marks

-- A capture is this log of the meter at a site: all its records say just these items, in their order, each in the record of its mark.
pub record IsLogOf (site : Site) (capture : List ℕ) (log : List Item) (marks : List Mark) : Type 0 where
  pub count : ℕ
  pub last : Place
  pub read : IsReadTo site capture count last (entries_of log) marks
  pub ends : last.rest ≡ []

-- ---- a capture that is none

-- behind records of the meter stands one with this fault
pub record IsFaulty (site : Site) (capture : List ℕ) (error : CaptureError) : Type 0 where
  pub count : ℕ
  pub last : Place
  pub entries : List Entry
  pub marks : List Mark
  pub read : IsReadTo site capture count last entries marks
  pub refused : record_at last.format last.rest ≡ Err error.fault
  pub place : error.offset ≡ last.offset
  pub more : last.rest ≢ []

-- behind records of the meter stands one of this mark that is none of its own
pub record HasStray (site : Site) (capture : List ℕ) (mark : Mark) (why : Stray) : Type 0 where
  pub last : Place
  pub entries : List Entry
  pub marks : List Mark
  pub read : IsReadTo site capture mark.number last entries marks
  pub place : mark.offset ≡ last.offset
  pub time : ℕ
  pub told : Told
  pub size : ℕ
  pub tells : record_at last.format last.rest ≡ Ok (time, told, size)
  pub none : entries_at site told ≡ Err why

-- behind records of the meter stands one that says an item of its log, for which memory may be wanted
pub record HasItem (site : Site) (capture : List ℕ) : Type 0 where
  pub count : ℕ
  pub last : Place
  pub entries : List Entry
  pub marks : List Mark
  pub read : IsReadTo site capture count last entries marks
  pub time : ℕ
  pub told : Told
  pub size : ℕ
  pub tells : record_at last.format last.rest ≡ Ok (time, told, size)
  pub entry : Entry
  pub says : entries_at site told ≡ Ok (entry ∷ [])

-- Why a capture is no log of the meter at a site: its file header has a fault, or a record. Or memory was refused, which only an item
-- wants.
abbrev pub IsNoLog : Site → List ℕ → LogError → Type 0
IsNoLog site capture (errors.Fault error) = OpensAs capture (Err error) ⊎ IsFaulty site capture error
IsNoLog site capture (errors.Stray mark why) = HasStray site capture mark why
IsNoLog site capture errors.OutOfMemory = HasItem site capture
