use Rattle.std.proofs.Common.{[], ◌∷◌}
use Rattle.fw_world.specs.Step.{turn}
use Rattle.fw_air.specs.Private.{Follows}
use Rattle.fw_air.proofs.Present.{still_there}
use Rattle.fw_air.proofs.Runs.{follows_on}
use Rattle.fw_air.proofs.record.RecordLinkSteps.turn.Goals as goal

pub returns-in_ok-admit-clause-ready : goal.returns-in_ok-admit-clause-ready
returns-in_ok-admit-clause-ready c =
    let made : Follows c.args.self.now (turn c.args.link.now.meter ∷ []) c.admit.new.self = c.in_ok-admit.ensures.made in
    still_there c.actors_stay.ensures c.args.self.now.world c.admit.new.self.world (turn c.args.link.now.meter ∷ []) c.args.link.now made.run c.requires

pub returns-in_ok-admit-clause-goes_on : goal.returns-in_ok-admit-clause-goes_on
returns-in_ok-admit-clause-goes_on c = λ start was. (_, follows_on start c.args.self.now c.admit.new.self was.0 _ was.1 c.in_ok-admit.ensures.made)
