use Rattle.std.proofs.Common.{◌≡◌, List, ℕ, Some}
use Rattle.fw_capture.specs.Whole.{all_zeros}
use Rattle.fw_capture.proofs.whole.only_zeros.Given as goal

abbrev pub invariant-loop : goal.invariant-loop
invariant-loop g l =
    (rest : List ℕ) → g.R.Read.remaining l.initial.reader ≡ Some rest
    → (left : List ℕ) × (g.R.Read.remaining l.reader ≡ Some left) × (all_zeros rest ≡ all_zeros left)
