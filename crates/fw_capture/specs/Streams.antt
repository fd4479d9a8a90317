-- Public vocabulary: what is taken of a reader that has a capture: the file header, and then one record after another.
use Rattle.std.specs.Prelude.{◌≡◌, ℕ, ◌*◌, List, [], ◌++◌, length, Option, Some, None, Ok, Err}
use Rattle.std.specs.Io.KnownBytes.{Consumes, IsAtEnd}
use Rattle.fw_capture.specs.declared.fault.CaptureFault.{CaptureFault}
use Rattle.fw_capture.specs.declared.format.Format.{Format}
use Rattle.fw_capture.specs.View.{Told}
use Rattle.fw_capture.specs.Reading.{header_at, record_at}

-- the most bytes of a record that is taken: 64 MiB
abbrev pub max_record : ℕ
max_record = 64 * 1024 * 1024

-- the bytes that a reader has left, where they are known
abbrev pub left_of : Option (List ℕ) → List ℕ
left_of None = []
left_of (Some left) = left

-- A file header was taken. A right one is so whatever follows it, and takes 24 bytes; a fault is that of all that the reader had.
pub record TakesHeader (before after : Option (List ℕ)) (bytes : List ℕ) : Type 0 where
  pub taken : Consumes before after bytes
  pub right : (f : Format) → header_at bytes ≡ Ok f → (length bytes ≡ 24) × ((rest : List ℕ) → header_at (bytes ++ rest) ≡ Ok f)
  pub faulty : (e : CaptureFault) → header_at bytes ≡ Err e → header_at (bytes ++ left_of after) ≡ Err e

-- A record was taken, or nothing at the end. A right one is so whatever follows it, and takes all that was taken; a fault is that of all that
-- the reader had.
pub record TakesRecord (f : Format) (before after : Option (List ℕ)) (bytes : List ℕ) : Type 0 where
  pub taken : Consumes before after bytes
  pub ends : bytes ≡ [] → IsAtEnd after
  pub right : (x : ℕ × Told × ℕ) → record_at f bytes ≡ Ok x → (x.2 ≡ length bytes) × ((rest : List ℕ) → record_at f (bytes ++ rest) ≡ Ok x)
  pub faulty : (e : CaptureFault) → record_at f bytes ≡ Err e → record_at f (bytes ++ left_of after) ≡ Err e
