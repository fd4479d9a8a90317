use Rattle.std.proofs.Common.{inl, inr, arith}
use Rattle.std.proofs.lemmas.Bool.{cases_lt}
use Rattle.fw_blocks.specs.Members.{first_missing}
use Rattle.fw_blocks.proofs.MemberLemmas.{first_missing-take, first_missing-take_all}
use Rattle.fw_blocks.proofs.pages.Pages.first_missing_below.Goals as goal

pub returns : goal.returns
returns c =
    let marks = c.args.self.now in
    let least = c.first_missing.ensures.value in
    elim (cases_lt (first_missing marks) c.args.count) [
      | inl less ↦ omega (arith, least, c.min.ensures, first_missing-take marks c.args.count (omega arith))
      | inr more ↦ omega (arith, least, c.min.ensures, first_missing-take_all marks c.args.count (omega arith))
    ]
