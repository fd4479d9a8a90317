use Rattle.std.proofs.Common.{◌∙◌, ℕ, List, ap, refl, rules}
use Rattle.std.proofs.lemmas.List.{get_or_default, take_all}
use Rattle.fw_kept.specs.Head.{head_of}
use Rattle.fw_cli.specs.Cancelling.{cancelled_all}
use Rattle.fw_cli.proofs.Begun.{cancelled_next, some_within}
use Rattle.fw_cli.proofs.Turns.{on_err}
use Rattle.fw_cli.proofs.Sayings.{changes_none, changes_on}
use Rattle.fw_cli.proofs.beginning.cancel_each.Goals as goal

pub loop-serial-init : goal.loop-serial-init
loop-serial-init g c = record { cancelled = refl; writer = refl; told = changes_none _ _ _ }

pub loop-serial-preserved : goal.loop-serial-preserved
loop-serial-preserved g c = record {
  cancelled = cancelled_next c.args.serials.now c.loop-serial.serial-index _ _ _ _ c.loop-serial-test.true c.loop-serial.invariant.cancelled
      c.in_ok-cancel_one.ensures.cancelled (search (rules, get_or_default));
  writer = c.cancel_one.ensures.writer ∙ c.loop-serial.invariant.writer;
  told = changes_on _ _ _ _ _ _ _ _ _ c.loop-serial.invariant.told c.cancel_one.ensures.told;
}

pub returns-in_err-cancel_one-clause-told : goal.returns-in_err-cancel_one-clause-told
returns-in_err-cancel_one-clause-told g c = changes_on _ _ _ _ _ _ _ _ _ c.loop-serial.invariant.told c.cancel_one.ensures.told

pub returns-in_err-cancel_one-clause-some : goal.returns-in_err-cancel_one-clause-some
returns-in_err-cancel_one-clause-some g c = on_err _ _ (some_within c.args.serials.now c.loop-serial.serial-index c.loop-serial-test.true)

pub returns-clause-cancelled : goal.returns-clause-cancelled
returns-clause-cancelled g c =
    c.loop-serial.invariant.cancelled
    ∙ ap (λ (serials : List ℕ). cancelled_all serials (head_of c.args.kept.now)) (take_all c.loop-serial.serial-index c.args.serials.now c.loop-serial-test.false)
