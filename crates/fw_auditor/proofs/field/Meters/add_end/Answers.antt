use Rattle.std.proofs.Common.{◌∙◌, ap}
use Rattle.fw_auditor.specs.Private.{ends_in}
use Rattle.fw_auditor.specs.declared.ends.Ended.{Ended}
use Rattle.fw_auditor.specs.declared.lines.Whose.TheVariants as whose
use Rattle.fw_auditor.proofs.Ending.{one_more}
use Rattle.fw_auditor.proofs.field.Meters.add_end.Goals as goal

pub returns-clause-ends : goal.returns-clause-ends
returns-clause-ends c =
    let end : Ended = record { at = c.args.subject.now.address; whose = whose.Meter c.args.subject.now.meter; path = c.args.subject.now.capture; log = c.args.log } in
    ap ends_in c.in_ok-push.ensures.items ∙ one_more c.args.self.now.ends.items end
