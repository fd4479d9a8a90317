use Rattle.std.proofs.Common.{◌∙◌, refl, rules}
use Rattle.std.proofs.lemmas.List.{get_or_default}
use Rattle.fw_cli.proofs.Cancels.{cancels_all, cancels_next, cancels_none, stopped}
use Rattle.fw_cli.proofs.cancel.cancel_all.Goals as goal

pub loop-serial-init : goal.loop-serial-init
loop-serial-init g c = record { cancels = cancels_none _ _ _ _; writer = refl }

pub loop-serial-preserved : goal.loop-serial-preserved
loop-serial-preserved g c = record {
  cancels = cancels_next c.args.serials.now c.loop-serial.serial-index _ _ _ _ _ _ _ _ _ _ c.loop-serial-test.true c.loop-serial.invariant.cancels
      c.in-Ok.ensures.cancelled c.in-Ok.ensures.line (search (rules, get_or_default));
  writer = c.cancel_one.ensures.writer ∙ c.loop-serial.invariant.writer;
}

pub returns-in-Err-clause-stopped : goal.returns-in-Err-clause-stopped
returns-in-Err-clause-stopped g c =
    stopped c.args.serials.now c.loop-serial.serial-index _ _ _ _ _ _ _ _ _ _ _ _ _ c.loop-serial-test.true c.loop-serial.invariant.cancels c.in-Err.ensures.same c.in-Err.ensures.untold
    c.in-Err.ensures.refused c.of_campaign.ensures.serial c.of_campaign.ensures.error (search (rules, get_or_default))

pub returns-clause-cancelled : goal.returns-clause-cancelled
returns-clause-cancelled g c = cancels_all c.args.serials.now c.loop-serial.serial-index _ _ _ _ _ _ c.loop-serial-test.false c.loop-serial.invariant.cancels
