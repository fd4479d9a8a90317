use Rattle.std.proofs.Common.{subst, sym, ap, ◌∙◌}
use Rattle.fw_cli.specs.HeadErrors.{IsOfBeginning}
use Rattle.fw_cli.specs.declared.head_error.HeadFailure.{HeadFailure}
use Rattle.fw_cli.proofs.beginning.begin.Goals as goal

pub returns-clause-faults : goal.returns-clause-faults
returns-clause-faults g c =
    subst (IsOfBeginning c.args.changes.cancels.items c.args.opened) (sym (c.of_book.ensures.error ∙ ap (λ (f : HeadFailure). f.error) c.from.ensures)) c.in-Err.ensures.faults
