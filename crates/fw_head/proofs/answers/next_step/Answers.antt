use Rattle.fw_head.proofs.LiveRows.{on_ok}
use Rattle.fw_head.proofs.OwnClaims.{at_stage, at_blocks}
use Rattle.fw_head.proofs.answers.next_step.Goals as goal

pub returns-in-Size-clause-leads : goal.returns-in-Size-clause-leads
returns-in-Size-clause-leads c =
    at_stage c.args.name c.args.size c.args.stage.now c.args.heard c.from_size.result c.in-Size.is (c.from_size.ensures c.args.name)

pub returns-in-Enable-clause-leads : goal.returns-in-Enable-clause-leads
returns-in-Enable-clause-leads c =
    at_stage c.args.name c.args.size c.args.stage.now c.args.heard c.from_enable.result c.in-Enable.is (c.from_enable.ensures c.args.name c.args.size)

pub returns-in-Check-clause-leads : goal.returns-in-Check-clause-leads
returns-in-Check-clause-leads c =
    at_stage c.args.name c.args.size c.args.stage.now c.args.heard c.from_check.result c.in-Check.is (c.from_check.ensures c.args.name c.args.size)

pub returns-in-Verify-clause-leads : goal.returns-in-Verify-clause-leads
returns-in-Verify-clause-leads c =
    at_stage c.args.name c.args.size c.args.stage.now c.args.heard c.from_verify.result c.in-Verify.is (c.from_verify.ensures c.args.name c.args.size)

pub returns-in-Poll-clause-leads : goal.returns-in-Poll-clause-leads
returns-in-Poll-clause-leads c =
    at_stage c.args.name c.args.size c.args.stage.now c.args.heard c.from_poll.result c.in-Poll.is (c.from_poll.ensures c.args.name c.args.size)

pub returns-in-Info-clause-leads : goal.returns-in-Info-clause-leads
returns-in-Info-clause-leads c =
    at_stage c.args.name c.args.size c.args.stage.now c.args.heard c.from_info.result c.in-Info.is (c.from_info.ensures c.args.size)

pub returns-in-Confirm-clause-leads : goal.returns-in-Confirm-clause-leads
returns-in-Confirm-clause-leads c =
    at_stage c.args.name c.args.size c.args.stage.now c.args.heard c.from_confirm.result c.in-Confirm.is (c.from_confirm.ensures c.args.size)

pub returns-in-Blocks-clause-leads : goal.returns-in-Blocks-clause-leads
returns-in-Blocks-clause-leads c =
    at_blocks c.args.name c.args.size c.args.stage.now c.args.heard c.from_blocks.result c.in-Blocks.is (c.from_blocks.ensures c.args.name c.args.size)

pub returns-in-Start-clause-leads : goal.returns-in-Start-clause-leads
returns-in-Start-clause-leads c =
    on_ok c.from_start.result _ _
    (λ step leads. at_stage c.args.name c.args.size c.args.stage.now c.args.heard step c.in-Start.is (leads c.args.name c.args.size))
    c.from_start.ensures.leads

pub returns-in-Gaps-clause-leads : goal.returns-in-Gaps-clause-leads
returns-in-Gaps-clause-leads c =
    on_ok c.from_gaps.result _ _
    (λ step leads. at_stage c.args.name c.args.size c.args.stage.now c.args.heard step c.in-Gaps.is (leads c.args.name c.args.size))
    c.from_gaps.ensures.leads
