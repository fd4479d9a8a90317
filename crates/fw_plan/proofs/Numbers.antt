-- Free serial numbers, one more after some.
use Rattle.std.proofs.Common.{◌≡◌, ℕ, ◌+◌, ◌<◌, ◌≤◌, ◌^◌, List, [], ◌∷◌, ◌++◌, Option, Some, None, refl, subst, arith}
use Rattle.std.specs.Option.{SomeIff}
use Rattle.fw_book.specs.Contents.{Contents}
use Rattle.fw_plan.specs.Openings.{AreNextFree, IsNextFree, NoneFree, behind}
use Rattle.fw_plan.specs.Private.{IsBehind, IsNextFrom}

pub are_free_more : (book : Contents) (serial free : ℕ) (serials : List ℕ) → AreNextFree book serial serials → IsNextFree book (behind serial serials) free
    → AreNextFree book serial (serials ++ free ∷ [])
are_free_more book serial free [] are is = (is, tt)
are_free_more book serial free (s ∷ serials) are is = (are.0, are_free_more book (s + 1) free serials are.1 is)

pub behind_more : (serial free : ℕ) (serials : List ℕ) → behind serial (serials ++ free ∷ []) ≡ free + 1
behind_more serial free [] = refl
behind_more serial free (s ∷ serials) = behind_more (s + 1) free serials

-- a number that is found is the next free one behind these
pub found : (book : Contents) (next : Option ℕ) (last free : ℕ) → IsBehind next last → IsNextFrom book next (Some free) → IsNextFree book last free
found book None last free is from = absurd cc
found book (Some n) last free is from = subst (λ (m : ℕ). IsNextFree book m free) is.0 from

-- where none is found, none is free behind these
pub none_found : (book : Contents) (next : Option ℕ) (last : ℕ) → IsBehind next last → IsNextFrom book next None → NoneFree book last
none_found book None last is from = λ other begins ends. absurd (omega (arith, is, begins, ends))
none_found book (Some n) last is from = subst (λ (m : ℕ). NoneFree book m) is.0 from

-- the number behind one that was found
pub goes_on : (next : Option ℕ) (free : ℕ) → SomeIff next (free + 1 < 2 ^ 32) (free + 1) → free < 2 ^ 32 → IsBehind next (free + 1)
goes_on None free is fits = omega (arith, is, fits)
goes_on (Some n) free is fits = (omega (arith, is.0, is.1), omega (arith, is.0, is.1), omega (arith, is.0, is.1))
