use Rattle.std.proofs.Common.{◌≤◌, sym, subst, ◌∙◌}
use Rattle.std.proofs.lemmas.Bool.{false≢true}
use Rattle.fw_rollout.specs.declared.laps.Lap.{Lap}
use Rattle.fw_rollout.proofs.daemon.HeadDaemon.may_ask.Goals as goal

pub returns-then-not-is_let : goal.returns-then-not-is_let
returns-then-not-is_let g c = (λ e. absurd (false≢true e), λ may. absurd (false≢true (sym c.if-not-is_let.true ∙ c.is_let.ensures.1 may.0)))

pub returns : goal.returns
returns g c = (
  λ e. (c.is_let.ensures.0 c.if-not-is_let.false, subst (λ (l : Lap). l.until ≤ c.args.now) c.at.ensures (c.has_rested.ensures.0 e)),
  λ may. c.has_rested.ensures.1 (subst (λ (l : Lap). l.until ≤ c.args.now) (sym c.at.ensures) may.1),
)
