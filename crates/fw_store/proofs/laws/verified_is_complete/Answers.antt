use Rattle.std.proofs.Common.{ℕ, ◌≤◌, Option, Some, None, sym, arith}
use Rattle.std.specs.Prelude.{IfSome}
use Rattle.fw_store.specs.declared.header.Goal.{Goal}
use Rattle.fw_store.specs.Header.{IsGoal, goal_count}
use Rattle.fw_store.specs.Versions.{block_limit}
use Rattle.fw_store.proofs.laws.verified_is_complete.Goals as goal

few : (limit capacity block_size release : ℕ) (goal : Option Goal) → IfSome goal (IsGoal limit capacity block_size release) → goal_count block_size goal ≤ limit
few limit capacity block_size release None fits = omega arith
few limit capacity block_size release (Some goal) fits = fits.most

pub returns : goal.returns
returns c = λ capacity h is verified.
    let count : ℕ = goal_count h.block_size h.goal in
    let within = few (block_limit h.version) capacity h.block_size h.running_name.release h.goal is.goal in
    let size = is.fields.marks in
    sym ((c.one_first_missing.ensures h.marks count).0 (record {
      within = omega arith;
      all_before = is.marked verified;
      absent = λ below. record { below = below; absent = is.unmarked count (omega arith) };
    }))
