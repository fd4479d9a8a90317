use Rattle.std.proofs.Common.{Option, refl, subst, sym}
use Rattle.std.specs.Prelude.{IsTrue, is_some}
use Rattle.fw_host.specs.declared.sealing.SealingOptions.{SealingOptions}
use Rattle.fw_cli.proofs.Turns.{on_err}
use Rattle.fw_cli.proofs.sealing.keyed_meter.Goals as goal

pub returns-in_err-links-clause-keyed : goal.returns-in_err-links-clause-keyed
returns-in_err-links-clause-keyed g c = on_err _ _ (subst (λ (s : Option SealingOptions). IsTrue (is_some s)) (sym c.in-Some.is) refl)
