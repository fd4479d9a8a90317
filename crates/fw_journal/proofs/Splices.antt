-- What a write leaves is what may be left of it when it is cut.
use Rattle.std.proofs.Common.{◌≡◌, ℕ, ◌+◌, ◌-◌, ◌/◌, ◌≤◌, List, ◌++◌, length, take, drop, min, refl, sym, ◌∙◌, ap, arith, replicate, append_assoc, length-append, length-drop}
use Rattle.std.proofs.lemmas.List.{take_min, take_at, drop_at, drop-drop, take_all, length-take, length-take-le, length-replicate}
use Rattle.fw_journal.specs.Device.{splice, IsTorn, IsShortened}
use Rattle.fw_journal.specs.Fuse.{half_torn}

pub torn_refl : (at count : ℕ) (old : List ℕ) → IsTorn at count old old
torn_refl at count old = record { before = refl; after = refl; no_shorter = omega arith; no_longer = omega arith }

pub torn_splice : (at : ℕ) (old bytes : List ℕ) → at ≤ length old → IsTorn at (length bytes) old (splice old at bytes)
torn_splice at old bytes within =
    let rest = drop (at + length bytes) old in
    let size : length (take at old) ≡ at = length-take-le at old within in
    let long : length (splice old at bytes) ≡ at + length bytes + length rest = omega (arith, size, length-append (take at old ++ bytes) rest, length-append (take at old) bytes) in
    let left : length rest ≡ length old - (at + length bytes) = length-drop (at + length bytes) old in
    record {
      before = ap (λ (l : List ℕ). take at l) (append_assoc (take at old) bytes rest) ∙ take_at (take at old) (bytes ++ rest) at size;
      after = drop_at (take at old ++ bytes) rest (at + length bytes) (omega (arith, size, length-append (take at old) bytes));
      no_shorter = omega (arith, long, left);
      no_longer = omega (arith, long, left, within);
    }

pub shortened_refl : (len : ℕ) (old : List ℕ) → IsShortened len old old
shortened_refl len old = record { no_shorter = omega arith; front = take_all (length old) old (omega arith) }

pub shortened_take : (len : ℕ) (old : List ℕ) → IsShortened len old (take len old)
shortened_take len old =
    let long = length-take len old in
    record { no_shorter = omega (arith, long); front = ap (λ (n : ℕ). take n old) long ∙ take_min len old }

-- a write that fails half way leaves as many bytes as were to be written
pub length-half_torn : (bytes : List ℕ) (torn : ℕ) → length (half_torn bytes torn) ≡ length bytes
length-half_torn bytes torn =
    omega (arith, length-append (take (length bytes / 2) bytes) (replicate (length bytes - length bytes / 2) torn), length-take-le (length bytes / 2) bytes (omega arith), length-replicate (length bytes - length bytes / 2) torn)

-- so does a write of fewer bytes
pub torn_part : (at count : ℕ) (old bytes : List ℕ) → at ≤ length old → length bytes ≤ count → IsTorn at count old (splice old at bytes)
torn_part at count old bytes within fewer =
    let whole = torn_splice at old bytes within in
    let more : at + count ≡ at + length bytes + (count - length bytes) = omega (arith, fewer) in
    let past : (l : List ℕ) → drop (at + count) l ≡ drop (count - length bytes) (drop (at + length bytes) l) =
    λ l. ap (λ (n : ℕ). drop n l) more ∙ sym (drop-drop (count - length bytes) (at + length bytes) l) in
    record {
      before = whole.before;
      after = past (splice old at bytes) ∙ ap (λ (l : List ℕ). drop (count - length bytes) l) whole.after ∙ sym (past old);
      no_shorter = whole.no_shorter;
      no_longer = omega (arith, whole.no_longer, fewer);
    }

-- and a shortening to that length or a later one
pub shortened_later : (len kept : ℕ) (old : List ℕ) → min len (length old) ≤ kept → kept ≤ length old → IsShortened len old (take kept old)
shortened_later len kept old enough within =
    let long = length-take-le kept old within in
    record { no_shorter = omega (arith, long, enough); front = ap (λ (n : ℕ). take n old) long }
