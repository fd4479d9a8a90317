use Rattle.std.proofs.Common.{List, map, subst}
use Rattle.std.specs.List.{AllZip}
use Rattle.fw_world.specs.Done.{done_rows}
use Rattle.fw_workers.specs.Ends.{End, EndsAs}
use Rattle.fw_workers.proofs.Ending.{lowest_told, well_told}
use Rattle.fw_workers.proofs.threads.work.Goals as goal

pub returns-clause-ended : goal.returns-clause-ended
returns-clause-ended g c =
    let ends : List End = map (λ outcome. outcome.ended) c.in_ok-outcomes.outcomes.items in
    let each = subst (λ shares. AllZip (EndsAs (g.H.Share.may_end g.G.Gate.may_shut)) shares ends) c.in_ok-jobs.ensures.shares c.in_ok-outcomes.ensures.ends in
    well_told (g.H.Share.may_end g.G.Gate.may_shut) c.args.shares.items ends c.account.result each c.account.ensures.refused

pub returns-clause-lowest : goal.returns-clause-lowest
returns-clause-lowest g c =
    let ends : List End = map (λ outcome. outcome.ended) c.in_ok-outcomes.outcomes.items in
    let each = subst (λ shares. AllZip (EndsAs (g.H.Share.may_end g.G.Gate.may_shut)) shares ends) c.in_ok-jobs.ensures.shares c.in_ok-outcomes.ensures.ends in
    lowest_told (done_rows c.args.task.now.setup.now c.args.opening.world) (g.H.Share.may_end g.G.Gate.may_shut) c.args.shares.items ends c.account.result each c.account.ensures.refused c.account.ensures.otherwise
