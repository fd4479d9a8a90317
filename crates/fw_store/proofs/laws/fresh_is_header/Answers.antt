use Rattle.std.proofs.Common.{◌≡◌, ℕ, false, replicate, refl, inl, inr, arith}
use Rattle.std.proofs.lemmas.Bool.{cases_lt}
use Rattle.std.proofs.lemmas.List.{length-replicate, get_or-replicate, get_or_past}
use Rattle.fw_blocks.specs.Members.{has}
use Rattle.fw_store.specs.Versions.{block_limit}
use Rattle.fw_store.proofs.laws.fresh_is_header.Goals as goal

none_marked : (n i : ℕ) → has (replicate n false) i ≡ false
none_marked n i = elim (cases_lt i n) [
  | inl below ↦ get_or-replicate n i false false below
  | inr past ↦ get_or_past (replicate n false) i false (omega (arith, length-replicate n false))
]

pub returns : goal.returns
returns c = λ version capacity block_size running_size name fits begins ends some within named. record {
  fields = record {
    block_size = omega arith;
    running_size = omega arith;
    running_name = named;
    goal = tt;
    marks = length-replicate (block_limit version) false;
  };
  block_size_begins = begins;
  block_size_ends = ends;
  running_size_begins = some;
  running_size_fits = within;
  goal_by_status = refl;
  goal = tt;
  unmarked = λ i _. none_marked (block_limit version) i;
  marked = λ _ i below. absurd (omega arith);
}
