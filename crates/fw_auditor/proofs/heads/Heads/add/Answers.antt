use Rattle.std.proofs.Common.{◌∙◌, ap}
use Rattle.fw_auditor.specs.Private.{ends_in}
use Rattle.fw_auditor.specs.declared.ends.Ended.{Ended}
use Rattle.fw_auditor.specs.declared.lines.Whose.TheVariants as whose
use Rattle.fw_auditor.proofs.Ending.{one_more}
use Rattle.fw_auditor.proofs.heads.Heads.add.Goals as goal

pub returns-clause-ends : goal.returns-clause-ends
returns-clause-ends c =
    let end : Ended = record { at = c.args.head.now.address; whose = whose.Head c.args.number; path = c.args.head.now.capture; log = c.args.log } in
    ap ends_in c.in_ok-push.ensures.items ∙ one_more c.args.self.now.ends.items end
