-- Public vocabulary: what a command takes from its reader, where the bytes that the reader has left are known: those before and those after.
use Rattle.std.specs.Prelude.{ℕ, Bool, ◌≤◌, ◌<◌, ◌*◌, ◌^◌, List, length, Option}
use Rattle.std.specs.Io.KnownBytes.{Consumes, IsAtEnd}
use Rattle.fw_faults.specs.declared.fault.Fault.{Fault}
use Rattle.fw_faults.specs.declared.fault.Fault.TheVariants.{Input, TooMuchInput, Output, OutOfMemory}

-- the most bytes that a command reads: 64 MiB
abbrev pub max_input : ℕ
max_input = 64 * 1024 * 1024

-- the most times that a command asks its reader
abbrev pub max_reads : ℕ
max_reads = 2 ^ 32

-- how many reads were made of a reader, and whether one of them failed
pub record ReadsMade : Type 0 where
  pub made : ℕ
  pub failed : Bool

-- The reader gave this input and has nothing left, and the input isn't too long.
pub record ReadsAll (before after : Option (List ℕ)) (input : List ℕ) : Type 0 where
  pub given : Consumes before after input
  pub at_end : IsAtEnd after
  pub within : length input ≤ max_input

-- The reader gave some bytes, and P holds of their number.
abbrev pub Gives : Option (List ℕ) → Option (List ℕ) → (ℕ → Type 0) → Type 0
Gives before after P = (bytes : List ℕ) × Consumes before after bytes × P (length bytes)

-- how much was read where a command ends with this fault
abbrev pub ReadsUntil : Fault → Option (List ℕ) → Option (List ℕ) → Type 0
ReadsUntil Input before after = Gives before after (λ count. count ≤ max_input)
ReadsUntil TooMuchInput before after = Gives before after (λ count. max_input < count)
ReadsUntil Output before after = (input : List ℕ) × ReadsAll before after input
ReadsUntil OutOfMemory before after = Gives before after (λ count. count ≤ max_input)
ReadsUntil fault before after = Unit {0}
