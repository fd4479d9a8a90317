-- Public vocabulary: what stands at the front of a byte string, and what follows it. Lengths are those of A-XDR (IEC 61334-6, as
-- IEC 62056-5-3 uses it).
-- Own rules of this profile: a length may have a longer form than it needs, of at most four bytes after the first; a first byte 80, or 85
-- to ff (hexadecimal), is refused.
use Rattle.std.specs.Prelude.{◌≡◌, ℕ, ◌+◌, ◌-◌, ◌*◌, ◌==◌, ◌||◌, List, length, fold, nat_lt, if◌then◌else◌, take, drop, Result, Ok, Err}
use Rattle.fw_axdr.specs.declared.reader.ReadError.{ReadError}
use Rattle.fw_axdr.specs.declared.reader.ReadError.TheVariants.{Truncated, BadLength}

-- the number that bytes hold, the highest byte first
abbrev pub number : List ℕ → ℕ
number bytes = fold (λ n b. 256 * n + b) 0 bytes

-- `n` bytes
unfoldable pub bytes_at : ℕ → List ℕ → Result (List ℕ × List ℕ) ReadError
bytes_at n bytes = if nat_lt (length bytes) n then Err Truncated else Ok (take n bytes, drop n bytes)

-- a number of `size` bytes
unfoldable pub number_at : ℕ → List ℕ → Result (ℕ × List ℕ) ReadError
number_at size bytes = if nat_lt (length bytes) size then Err Truncated else Ok (number (take size bytes), drop size bytes)

-- one step of reading, and what follows it; the first fault ends it
infixl 10 ◌>>=◌
abbrev pub ◌>>=◌ : {A B E : Type 0} → Result A E → (A → Result B E) → Result B E
(Ok x) >>= f = f x
(Err e) >>= f = Err e

-- a length, after its first byte: that byte alone below 80 (hexadecimal), or the 1 to 4 bytes after 81 to 84
abbrev pub length_by : ℕ → List ℕ → Result (ℕ × List ℕ) ReadError
length_by first rest = if nat_lt first 128 then Ok (first, rest) else (if (first == 128) || nat_lt 132 first then Err BadLength else number_at (first - 128) rest)

-- a length
unfoldable pub length_at : List ℕ → Result (ℕ × List ℕ) ReadError
length_at bytes = do
  first ← number_at 1 bytes
  length_by first.0 first.1

-- what a call returned, seen by view, and the bytes that it left are what reading gives
abbrev pub Gives : {X Y : Type 0} → (X → Y) → Result X ReadError → List ℕ → Result (Y × List ℕ) ReadError → Type 0
Gives view (Ok x) rest read = read ≡ Ok (view x, rest)
Gives view (Err e) rest read = read ≡ Err e
