use Rattle.std.proofs.Common.{◌≡◌, ◌-◌, ◌^◌, List, ℕ, Some}
use Rattle.fw_capture.proofs.Wholeness.{SoFar}
use Rattle.fw_capture.proofs.whole.whole_len.Given as goal

abbrev pub invariant-records : goal.invariant-records
invariant-records g l =
    (capture : List ℕ) → g.R.Read.remaining l.fn.reader ≡ Some capture → SoFar capture l.format l.offset (g.R.Read.remaining l.reader)

abbrev pub decreases-records : goal.decreases-records
decreases-records g l = 2 ^ 64 - l.offset
