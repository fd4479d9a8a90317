-- Public vocabulary: what the bytes of a device tell where counters are opened.
use Rattle.std.specs.Prelude.{◌≡◌, ℕ, max, List, [], ◌∷◌, ◌++◌, length}
use Rattle.fw_journal.specs.Book.{body, Stands}
use Rattle.fw_counter.specs.Reserved.{AreReservations, reserved_by, Reserves}

-- a record of four bytes stands first, behind one byte of any value, and then the rest
pub record HasReservation (bytes entry rest : List ℕ) : Type 0 where
  pub gate : ℕ
  pub four : length entry ≡ 4
  pub split : bytes ≡ gate ∷ (body entry ++ rest)

-- these records of four bytes stand here one after another, each behind one byte of any value, and no further one
abbrev pub Follow : List (List ℕ) → List ℕ → Type 0
Follow [] bytes = (entry rest : List ℕ) → ¬ HasReservation bytes entry rest
Follow (entry ∷ entries) bytes = (rest : List ℕ) × HasReservation bytes entry rest × Follow entries rest

-- The bytes are a journal of such records, and others follow from its shut gate on: a commit that was cut leaves one there, and a gate that
-- turns on the medium all from itself on. This is the greatest number of all of them.
pub record Tells (bytes : List ℕ) (bound : ℕ) : Type 0 where
  pub records : List (List ℕ)
  pub stands : Stands bytes records
  pub fit : AreReservations records
  pub behind : List (List ℕ)
  pub follow : Follow behind stands.end
  pub bound_is : bound ≡ max (reserved_by records) (reserved_by behind)

-- bytes reserve all that others tell
pub record ReservesAll (bytes left : List ℕ) : Type 0 where
  pub bound : ℕ
  pub told : Tells bytes bound
  pub reserved : Reserves left bound
