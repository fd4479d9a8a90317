use Rattle.fw_workers.proofs.fated_rounds.FatedSteps.rounds.Goals as goal

pub returns-in_err-link_round-clause-worker : goal.returns-in_err-link_round-clause-worker
returns-in_err-link_round-clause-worker g c = (c.link_round.ensures.goes_on c.args.self.now (c.links.invariant.1, c.links.invariant.2)).0

pub returns-in_err-link_round-clause-board : goal.returns-in_err-link_round-clause-board
returns-in_err-link_round-clause-board g c = (c.link_round.ensures.goes_on c.args.self.now (c.links.invariant.1, c.links.invariant.2)).1

pub links-preserved : goal.links-preserved
links-preserved g c =
    let on = c.link_round.ensures.goes_on c.args.self.now (c.links.invariant.1, c.links.invariant.2) in
    (c.in_ok-link_round.ensures.ready, on.0, on.1)
