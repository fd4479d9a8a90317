-- For private clauses alone.
use Rattle.std.specs.Prelude.{◌≡◌, ℕ, ◌+◌, ◌≤◌, ◌<◌, ◌⊎◌, List, [], ◌++◌, length, take, drop, nat_lt, if◌then◌else◌, Option, Some, Result, Ok, Err}
use Rattle.std.specs.Io.KnownBytes.{Consumes, IsAtEnd}
use Rattle.fw_capture.specs.declared.error.WholeError.{WholeError}
use Rattle.fw_capture.specs.declared.error.WholeError.TheVariants as error
use Rattle.fw_capture.specs.declared.format.Format.{Format}
use Rattle.fw_capture.specs.declared.whole.Front.{Front}
use Rattle.fw_capture.specs.declared.whole.Front.TheVariants as front
use Rattle.fw_capture.specs.View.{Told}
use Rattle.fw_capture.specs.Reading.{size_at}
use Rattle.fw_capture.specs.Whole.{IsForeign, IsRecord, IsTorn, longest_packet}
use Rattle.fw_capture.specs.declared.fault.CaptureFault.{CaptureFault}
use Rattle.fw_capture.specs.Checksum.{checksum_of, word_sum}
use Rattle.fw_capture.specs.Spelling.{udp_header, sent_checksum}

-- new begins with old
abbrev pub Begins : List ℕ → List ℕ → Type 0
Begins old new = take (length old) new ≡ old

-- the checksum of a UDP datagram, by the sum of the words of its pseudo header
abbrev pub udp_checksum : ℕ → ℕ → ℕ → List ℕ → ℕ
udp_checksum pseudo_sum from to bytes = sent_checksum (checksum_of (pseudo_sum + word_sum (udp_header from to (8 + length bytes) 0 ++ bytes)))

-- the datagram itself
abbrev pub udp_summed : ℕ → ℕ → ℕ → List ℕ → List ℕ
udp_summed pseudo_sum from to bytes = udp_header from to (8 + length bytes) (udp_checksum pseudo_sum from to bytes) ++ bytes

-- what a function returned, seen by view, is what was read
abbrev pub Gives : {X Y : Type 0} → (X → Y) → Result X CaptureFault → Result Y CaptureFault → Type 0
Gives view (Ok x) read = read ≡ Ok (view x)
Gives view (Err e) read = read ≡ Err e

-- the bytes of the record that has this header: of the header alone where it isn't whole, or its packet is longer than the longest
abbrev pub record_size : Format → List ℕ → ℕ
record_size f header =
    if nat_lt (length header) 16 then 16 else (if nat_lt longest_packet (size_at f header) then 16 else 16 + size_at f header)

-- Bytes that a reader had were appended, so that there are so many, or fewer where the reader came to its end.
pub record Fills (len : ℕ) (before after : Option (List ℕ)) (old new : List ℕ) : Type 0 where
  pub given : List ℕ
  pub consumed : Consumes before after given
  pub appended : new ≡ old ++ given
  pub within : length old ≤ len → length new ≤ len
  pub at_end : length new < len → IsAtEnd after

-- what stands at the front of bytes, and what is left behind a record
abbrev pub IsFront : Format → List ℕ → Option (List ℕ) → Front → Type 0
IsFront f rest after (front.Whole size) =
    (time : ℕ) × (told : Told) × IsRecord f rest (time, told, size) × (after ≡ Some (drop size rest))
IsFront f rest after front.Last = (rest ≡ []) ⊎ IsTorn f rest
IsFront f rest after front.Foreign = IsForeign f rest

-- of a reader that fails, or of want of memory
abbrev pub IsOfReading : WholeError → Type 0
IsOfReading error.Input = Unit {0}
IsOfReading error.OutOfMemory = Unit {0}
IsOfReading e = ⊥
