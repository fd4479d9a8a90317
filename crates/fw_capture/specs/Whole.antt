-- Public vocabulary: the whole records at the front of a capture, and what a write that was cut short may leave behind them.
use Rattle.std.specs.Prelude.{◌≡◌, ◌≢◌, ◌⊎◌, ℕ, ◌+◌, ◌≤◌, Bool, true, false, List, [], ◌∷◌, length, Ok, nat_lt, nat_le, ◌==◌, ◌&&◌, ◌||◌, if◌then◌else◌}
use Rattle.fw_capture.specs.declared.format.Format.{Format}
use Rattle.fw_capture.specs.Place.{Place}
use Rattle.fw_capture.specs.View.{Told}
use Rattle.fw_capture.specs.Reading.{number_at, fractions, fraction_at, size_at, record_at}
use Rattle.fw_capture.specs.Steps.{OpensAs, after}

-- the longest packet of a capture that is written, as its file header says it
abbrev pub longest_packet : ℕ
longest_packet = 65535

-- the header of a record says twice how long its packet is, as that of a packet does of which nothing was left out
abbrev pub says_twice : Format → List ℕ → Bool
says_twice f bytes = size_at f bytes == number_at f.little 12 bytes

-- A record stands at the front of these bytes, whose header says twice how long its packet is, and none that is written is longer.
pub record IsRecord (f : Format) (bytes : List ℕ) (x : ℕ × Told × ℕ) : Type 0 where
  pub reads : record_at f bytes ≡ Ok x
  pub bound : x.2 ≤ 16 + longest_packet
  pub twice : says_twice f bytes ≡ true

-- from a place on there are these records, each a time and what it tells, and behind the last of them is this place
abbrev pub Passes : Place → List (ℕ × Told) → Place → Type 0
Passes place [] last = last ≡ place
Passes place (r ∷ records) last =
    (size : ℕ) × IsRecord place.format place.rest (r.0, r.1, size) × Passes (after size place) records last

-- ---- what a write that was cut short may leave

abbrev pub all_zeros : List ℕ → Bool
all_zeros [] = true
all_zeros (b ∷ bytes) = b == 0 && all_zeros bytes

-- these bytes without the zeros at their end
abbrev pub without_zeros : List ℕ → List ℕ
without_zeros [] = []
without_zeros (b ∷ bytes) = if all_zeros (b ∷ bytes) then [] else b ∷ without_zeros bytes

-- Less than a record: its header lacks a byte, or it is right, says twice how long the packet is, and the packet lacks a byte.
abbrev pub is_part : Format → List ℕ → Bool
is_part f bytes =
    nat_lt (length bytes) 16
    || (nat_lt (fraction_at f bytes) (fractions f) && (says_twice f bytes
    && (nat_le (size_at f bytes) longest_packet && nat_lt (length bytes) (16 + size_at f bytes))))

-- No record stands at the front, but less than one, and zeros that a disk has if nothing was written.
pub record IsTorn (f : Format) (bytes : List ℕ) : Type 0 where
  pub none : (x : ℕ × Told × ℕ) → ¬ IsRecord f bytes x
  pub part : is_part f (without_zeros bytes) ≡ true

-- no record stands at the front, nor what a write leaves
pub record IsForeign (f : Format) (bytes : List ℕ) : Type 0 where
  pub more : bytes ≢ []
  pub none : (x : ℕ × Told × ℕ) → ¬ IsRecord f bytes x
  pub no_part : is_part f (without_zeros bytes) ≡ false

-- ---- a capture

-- Whole records stand behind the file header of a capture, and what is behind them begins at this place.
pub record IsPassed (capture : List ℕ) (last : Place) : Type 0 where
  pub first : Place
  pub opens : OpensAs capture (Ok first)
  pub records : List (ℕ × Told)
  pub passed : Passes first records last

-- A capture is whole up to this length: behind its whole records is nothing, or what a write that was cut short leaves.
pub record IsWholeTo (capture : List ℕ) (len : ℕ) : Type 0 where
  pub last : Place
  pub has : IsPassed capture last
  pub ends : len ≡ last.offset
  pub rest : (last.rest ≡ []) ⊎ IsTorn last.format last.rest

-- behind the whole records of a capture something else stands at this offset
pub record IsForeignAt (capture : List ℕ) (offset : ℕ) : Type 0 where
  pub last : Place
  pub has : IsPassed capture last
  pub at : offset ≡ last.offset
  pub foreign : IsForeign last.format last.rest
