use Rattle.std.proofs.Common.{refl}
use Rattle.std.proofs.lemmas.Result.{err_from_is_err_and}
use Rattle.fw_cli.specs.Private.{HasNoReport}
use Rattle.fw_cli.specs.Scripts.{fault_of_rehearsal}
use Rattle.fw_cli.specs.declared.rehearse.RehearsalError.{RehearsalError}
use Rattle.fw_faults.specs.declared.fault.Fault.TheVariants as fault
use Rattle.fw_cli.proofs.Passing.{passed_to}
use Rattle.fw_cli.proofs.Rehearsed.{tells, unremembered, unreported}
use Rattle.fw_cli.proofs.rehearse.tell_rehearsal.Goals as goal

pub returns-clause-ok : goal.returns-clause-ok
returns-clause-ok g c =
    let report = c.in-Ok.report in
    tells c.args.trace c.args.air.now.rounds c.args.workers c.args.setup.now c.args.events.now report.world report.board report.receipts.items _
    c.in-Ok.ensures.reported.accounted c.in_ok-text.ensures

pub returns-in-Err-clause-unreported : goal.returns-in-Err-clause-unreported
returns-in-Err-clause-unreported g c =
    unreported c.args.workers c.args.setup.now c.args.events.now c.rehearse.result _ _ c.in-Err.is c.rehearse.ensures.begins c.rehearsal_error.ensures.fault

pub returns-in_err-text-clause-unreported : goal.returns-in_err-text-clause-unreported
returns-in_err-text-clause-unreported g c =
    let passed = err_from_is_err_and c.from_residual.result c.from_residual.ensures.1 in
    passed_to c.from_residual.result (λ (e : RehearsalError). HasNoReport c.args.workers c.args.setup.now c.args.events.now (fault_of_rehearsal e)) passed.0 _ passed.1 passed.2
    (unremembered c.args.workers c.args.setup.now c.args.events.now fault.OutOfMemory c.in-Ok.ensures.reported.setup_is refl)
