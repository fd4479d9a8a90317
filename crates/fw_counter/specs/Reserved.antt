-- Public vocabulary: the counters that the records of a journal reserve.
use Rattle.std.specs.Prelude.{◌≡◌, ⊤, ℕ, ◌≤◌, max, List, [], ◌∷◌, length}
use Rattle.std.specs.Int.{w32, from_be_bytes}
use Rattle.fw_journal.specs.Book.{Stands}

-- each is a number of four bytes, high byte first
abbrev pub AreReservations : List (List ℕ) → Type 0
AreReservations [] = ⊤
AreReservations (entry ∷ records) = (length entry ≡ 4) × AreReservations records

-- the greatest of these numbers: all counters below it are reserved
abbrev pub reserved_by : List (List ℕ) → ℕ
reserved_by [] = 0
reserved_by (entry ∷ records) = max (from_be_bytes w32 entry) (reserved_by records)

-- the bytes are a journal of such records, which reserve the counters below this number, and no others
pub record Reserves (bytes : List ℕ) (bound : ℕ) : Type 0 where
  pub records : List (List ℕ)
  pub stands : Stands bytes records
  pub fit : AreReservations records
  pub bound_is : bound ≡ reserved_by records

-- they reserve the counters below this number, and maybe others
pub record HasReserved (bytes : List ℕ) (bound : ℕ) : Type 0 where
  pub all : ℕ
  pub reserves : Reserves bytes all
  pub enough : bound ≤ all

-- the bytes are no journal, or one with a record that is no such number
abbrev pub HasNoCounter : List ℕ → Type 0
HasNoCounter bytes = (bound : ℕ) → ¬ Reserves bytes bound
