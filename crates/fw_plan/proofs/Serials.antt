-- The search for a free serial number.
use Rattle.std.proofs.Common.{◌≡◌, ℕ, ◌+◌, ◌<◌, ◌≤◌, true, false, Option, Some, None, MatchOption, inl, inr, ap, ◌∙◌, arith}
use Rattle.std.proofs.lemmas.Bool.{cases_eq, false≢true}
use Rattle.fw_book.specs.Contents.{Contents, has_serial}
use Rattle.fw_plan.specs.Openings.{IsNextFree, NoneFree}
use Rattle.fw_plan.specs.Private.{AreUsedTo, IsAfter, IsReached, is_used, left_from}

-- one number more is used
used_more : (book : Contents) (serial free : ℕ) → AreUsedTo book serial free → has_serial book free ≡ true
    → (other : ℕ) → serial ≤ other → other < free + 1 → has_serial book other ≡ true
used_more book serial free to there other begins below =
    elim (cases_eq other free) [
      | inl e ↦ ap (has_serial book) e ∙ there
      | inr ne ↦ to.used other begins (omega (arith, below, ne))
    ]

pub reached_more : (book : Contents) (serial : ℕ) (free next : Option ℕ) → IsReached book serial free → is_used book free ≡ true → IsAfter free next
    → IsReached book serial next
reached_more book serial None next to used after = absurd (false≢true used)
reached_more book serial (Some free) None to used after =
    λ other begins ends. used_more book serial free to used other begins (omega (arith, after, ends))
reached_more book serial (Some free) (Some next) to used after = record {
  begins = omega (arith, to.begins, after.0, after.1);
  fits = omega (arith, after.0, after.1);
  used = λ other begins below. used_more book serial free to used other begins (omega (arith, below, after.0, after.1));
}

pub reached_end : (book : Contents) (serial : ℕ) (free : Option ℕ) → IsReached book serial free → is_used book free ≡ false
    → MatchOption free (NoneFree book serial) (λ f. IsNextFree book serial f)
reached_end book serial None to used = to
reached_end book serial (Some free) to used = record { begins = to.begins; fits = to.fits; free_there = used; first = to.used }

pub fewer_left : (book : Contents) (serial : ℕ) (free next : Option ℕ) → IsReached book serial free → is_used book free ≡ true → IsAfter free next
    → left_from next < left_from free
fewer_left book serial None next to used after = absurd (false≢true used)
fewer_left book serial (Some free) None to used after = omega (arith, to.fits)
fewer_left book serial (Some free) (Some next) to used after = omega (arith, to.fits, after.0, after.1)
