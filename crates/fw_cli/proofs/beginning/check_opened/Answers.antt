use Rattle.std.proofs.Common.{ap}
use Rattle.std.specs.Prelude.{is_some}
use Rattle.std.proofs.lemmas.Result.{IfErr-weaker}
use Rattle.fw_cli.proofs.HeadLeading.{refused_is_opened}
use Rattle.fw_cli.proofs.beginning.check_opened.Goals as goal

pub returns-in-Some-clause-faults : goal.returns-in-Some-clause-faults
returns-in-Some-clause-faults c =
    IfErr-weaker c.check_all.result _ _ (λ e it. refused_is_opened c.args.asked.now.opened _ _ _ e (ap is_some c.in-Some.is) it) c.check_all.ensures.refused
