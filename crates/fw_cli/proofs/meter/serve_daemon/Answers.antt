use Rattle.std.proofs.Common.{ap}
use Rattle.std.proofs.lemmas.Result.{err_from_is_err_and}
use Rattle.fw_cli.specs.MeterErrors.{IsOfServing}
use Rattle.fw_cli.specs.declared.meter_error.MeterFailure.{MeterFailure}
use Rattle.fw_cli.proofs.Brought.{closing_serving, closing_told, start_serving, telling_serving, telling_silent}
use Rattle.fw_cli.proofs.Passing.{passed_to}
use Rattle.fw_cli.proofs.meter.serve_daemon.Goals as goal

pub returns-in-Err-clause-number : goal.returns-in-Err-clause-number
returns-in-Err-clause-number g c = ap (λ (f : MeterFailure). f.number) c.not_started.ensures

pub returns-in-Err-clause-asked : goal.returns-in-Err-clause-asked
returns-in-Err-clause-asked g c =
    start_serving c.args.port.capture c.args.options.now.sealing c.in-Err.because.error c.not_started.result.error (ap (λ (f : MeterFailure). f.error) c.not_started.ensures)
    c.in-Err.ensures.asked c.in-Err.ensures.plain

pub returns-in_err-tell_listening-clause-silent : goal.returns-in_err-tell_listening-clause-silent
returns-in_err-tell_listening-clause-silent g c =
    let passed = err_from_is_err_and c.from_residual.result c.from_residual.ensures.1 in
    passed_to c.from_residual.result _ passed.0 _ passed.1 passed.2
    (λ socket output bad counter spent. telling_silent c.in_err-tell_listening.field-0.0 (g.W.Write.contents c.args.writer.now) (g.W.Write.contents c.tell_listening.new.writer)
    c.in_err-tell_listening.ensures.silent output)

pub returns-in_err-tell_listening-clause-asked : goal.returns-in_err-tell_listening-clause-asked
returns-in_err-tell_listening-clause-asked g c =
    let passed = err_from_is_err_and c.from_residual.result c.from_residual.ensures.1 in
    passed_to c.from_residual.result (λ (f : MeterFailure). IsOfServing c.args.port.capture c.args.options.now.sealing f.error) passed.0 _ passed.1 passed.2
    (telling_serving c.args.port.capture c.args.options.now.sealing c.in_err-tell_listening.field-0.0)

pub returns-clause-number : goal.returns-clause-number
returns-clause-number g c = ap (λ (f : MeterFailure). f.number) c.from.ensures

pub returns-clause-silent : goal.returns-clause-silent
returns-clause-silent g c = λ socket output bad counter spent.
    absurd (closing_told c.closing-closed.result.error c.from.result.error (ap (λ (f : MeterFailure). f.error) c.from.ensures) socket bad counter spent)

pub returns-clause-asked : goal.returns-clause-asked
returns-clause-asked g c =
    closing_serving c.args.port.capture c.args.options.now.sealing c.closing-closed.result.error c.from.result.error (ap (λ (f : MeterFailure). f.error) c.from.ensures)
    c.closing-closed.ensures.asked c.closing-closed.ensures.keyed
