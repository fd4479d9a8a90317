use Rattle.std.proofs.Common.{sym, subst}
use Rattle.fw_blocks.specs.Members.{IsFirstMissing}
use Rattle.fw_blocks.proofs.MemberLemmas.{is_first_missing, only_first_missing}
use Rattle.fw_blocks.proofs.laws.one_first_missing.Goals as goal

pub returns : goal.returns
returns c = λ set n. (only_first_missing set n, λ same. subst (IsFirstMissing set) (sym same) (is_first_missing set))
