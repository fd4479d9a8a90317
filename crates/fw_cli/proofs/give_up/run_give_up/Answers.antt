use Rattle.fw_cli.proofs.GivenUp.{has_given_up}
use Rattle.fw_cli.proofs.give_up.run_give_up.Goals as goal

pub returns-clause-given_up : goal.returns-clause-given_up
returns-clause-given_up g c = has_given_up c.args.options.now _ _ _ _ c.in-Ok.ensures.given c.deref-3.ensures.value c.of.ensures
