use Rattle.std.proofs.Common.{◌≡◌, ℕ, ◌-◌, ◌≤◌, Bool, false, List, ◌++◌, length, replicate, Option, Some, None, refl, sym, ap, ◌∙◌, inl, inr, arith}
use Rattle.std.specs.Prelude.{IfSome}
use Rattle.std.proofs.lemmas.Bool.{cases_lt}
use Rattle.std.proofs.lemmas.List.{length-replicate, get_or-replicate, get_or_past, get_or_append_left, get_or-append_right, take_all}
use Rattle.fw_blocks.specs.Cuts.{max_blocks}
use Rattle.fw_blocks.specs.Members.{has, resized_marks}
use Rattle.fw_store.specs.declared.header.Goal.{Goal}
use Rattle.fw_store.specs.Header.{IsGoal}
use Rattle.fw_store.specs.Versions.{block_limit}
use Rattle.fw_store.proofs.MarkLemmas.{limit_within, length-resized_marks}
use Rattle.fw_store.proofs.laws.migrated_is_header.Goals as goal

-- no further number is marked
none_behind : (n i : ℕ) → has (replicate n false) i ≡ false
none_behind n i = elim (cases_lt i n) [
  | inl below ↦ get_or-replicate n i false false below
  | inr past ↦ get_or_past (replicate n false) i false (omega (arith, length-replicate n false))
]

has-resized : (count : ℕ) (marks : List Bool) (i : ℕ) → length marks ≤ count → has (resized_marks count marks) i ≡ has marks i
has-resized count marks i within =
    let others = replicate (count - length marks) false in
    let same : length marks ≡ length marks = refl in
    ap (λ (l : List Bool). has (l ++ others) i) (take_all count marks within)
    ∙ elim (cases_lt i (length marks)) [
      | inl below ↦ get_or_append_left marks others false i below
      | inr past ↦
          get_or-append_right marks others (length marks) i false same past
          ∙ none_behind (count - length marks) (i - length marks)
          ∙ sym (get_or_past marks i false past)
    ]

-- a goal of fewer blocks is one of more
raised : (limit most capacity block_size release : ℕ) (goal : Option Goal) → limit ≤ most → IfSome goal (IsGoal limit capacity block_size release)
    → IfSome goal (IsGoal most capacity block_size release)
raised limit most capacity block_size release None within fits = tt
raised limit most capacity block_size release (Some goal) within fits = record {
  opened = fits.opened;
  fits = fits.fits;
  limits = fits.limits;
  most = let most = fits.most in omega arith;
  risen = fits.risen;
}

pub returns : goal.returns
returns c = λ capacity h is.
    let within = limit_within h.version in
    let size = is.fields.marks in
    let fewer : length h.marks ≤ max_blocks = omega arith in
    record {
      fields = record {
        block_size = is.fields.block_size;
        running_size = is.fields.running_size;
        running_name = is.fields.running_name;
        goal = is.fields.goal;
        marks = length-resized_marks max_blocks h.marks;
      };
      block_size_begins = is.block_size_begins;
      block_size_ends = is.block_size_ends;
      running_size_begins = is.running_size_begins;
      running_size_fits = is.running_size_fits;
      goal_by_status = is.goal_by_status;
      goal = raised (block_limit h.version) max_blocks capacity h.block_size h.running_name.release h.goal within is.goal;
      unmarked = λ i from. has-resized max_blocks h.marks i fewer ∙ is.unmarked i from;
      marked = λ verified i below. has-resized max_blocks h.marks i fewer ∙ is.marked verified i below;
    }
