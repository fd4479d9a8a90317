-- Public vocabulary: whether a meter would take an image, by what it answered. An initiate is refused under a release below that of the image
-- that runs (own), and if the image has more blocks than an image may have (own). Of the meters' other rules nothing can be asked by GET.
use Rattle.std.specs.Prelude.{ℕ, ◌*◌, nat_eq, nat_lt, ◌&&◌, Bool, Option, Some, None, if◌then◌else◌}
use Rattle.std.specs.Cmp.Lexicographic.{pointwise}
use Rattle.fw_blocks.specs.Cuts.{max_blocks}
use Rattle.fw_names.specs.Name.{Name, is_risen}
use Rattle.fw_survey.specs.declared.answer.Answer.{Answer}
use Rattle.fw_survey.specs.declared.answer.Answer.TheVariants as answer
use Rattle.fw_survey.specs.Rows.{Row}
use Rattle.fw_inventory.specs.declared.verdict.Offer.{Offer}
use Rattle.fw_inventory.specs.declared.verdict.Verdict.{Verdict}
use Rattle.fw_inventory.specs.declared.verdict.Verdict.TheVariants as verdict

-- the name that an answer is
abbrev pub name_by : Answer → Option Name
name_by (answer.Active name) = Some name
name_by a = None

abbrev pub name_in : Option Answer → Option Name
name_in None = None
name_in (Some a) = name_by a

-- the block size that an answer is
abbrev pub block_size_by : Answer → Option ℕ
block_size_by (answer.BlockSize size) = Some size
block_size_by a = None

abbrev pub block_size_in : Option Answer → Option ℕ
block_size_in None = None
block_size_in (Some a) = block_size_by a

-- the image of this name is the one that is offered, whatever campaign it came by
abbrev pub is_offered : Name → Offer → Bool
is_offered name offer = nat_eq name.release offer.release && pointwise nat_eq name.digest offer.digest

-- an image of this size has more blocks of this size than an image may have
abbrev pub is_too_large : ℕ → ℕ → Bool
is_too_large block_size size = nat_lt (max_blocks * block_size) size

abbrev pub room_by : Option ℕ → ℕ → Verdict
room_by None size = verdict.Takes
room_by (Some block_size) size = if is_too_large block_size size then verdict.TooManyBlocks block_size else verdict.Takes

-- the meter runs the image of this name, and its blocks have this size, if it is known
abbrev pub verdict_by : Name → Option ℕ → Offer → Verdict
verdict_by name block_size offer =
    if is_offered name offer then verdict.Runs
    else (if is_risen name.release offer.release then room_by block_size offer.size else verdict.Below name.release)

abbrev pub verdict_at : Option Name → Option ℕ → Offer → Verdict
verdict_at None block_size offer = verdict.Unknown
verdict_at (Some name) block_size offer = verdict_by name block_size offer

abbrev pub verdict_of : Row → Offer → Verdict
verdict_of row offer = verdict_at (name_in row.active.answer) (block_size_in row.block_size.answer) offer
