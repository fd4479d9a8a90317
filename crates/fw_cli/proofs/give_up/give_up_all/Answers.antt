use Rattle.std.proofs.Common.{List, refl, rules, subst, ℕ}
use Rattle.std.proofs.lemmas.List.{get_or_default, take_all}
use Rattle.fw_kept.specs.Head.{head_of}
use Rattle.fw_cli.specs.GivingUp.{GivesUpAll}
use Rattle.fw_cli.proofs.GivenUp.{gives_next}
use Rattle.fw_cli.proofs.give_up.give_up_all.Goals as goal

pub loop-meter-init : goal.loop-meter-init
loop-meter-init g c = record { given = (c.none-given.ensures.rows, c.none-given.ensures.lacking, refl); waits = λ synced holds. holds }

pub loop-meter-preserved : goal.loop-meter-preserved
loop-meter-preserved g c = record {
  given = gives_next _ _ _ c.args.meters.now c.loop-meter.meter-index _ c.args.at _ _ _ _ c.loop-meter-test.true c.loop-meter.invariant.given c.in_ok-give_up_one.ensures.given
      (search (rules, get_or_default));
  waits = λ synced holds. c.in_ok-give_up_one.ensures.waits synced (c.loop-meter.invariant.waits synced holds);
}

pub returns-clause-given : goal.returns-clause-given
returns-clause-given g c =
    subst (λ (l : List ℕ). GivesUpAll (head_of c.args.kept.now) l c.args.at c.loop-meter.given.rows.items c.loop-meter.given.lacking.items (head_of c.loop-meter.kept))
    (take_all c.loop-meter.meter-index c.args.meters.now c.loop-meter-test.false) c.loop-meter.invariant.given

pub returns-clause-waits : goal.returns-clause-waits
returns-clause-waits g c = c.loop-meter.invariant.waits
