use Rattle.fw_blocks.proofs.MemberLemmas.{complete_first_missing, first_missing_complete}
use Rattle.fw_blocks.proofs.laws.complete_without_missing.Goals as goal

pub returns : goal.returns
returns c = λ set. (complete_first_missing set, first_missing_complete set)
