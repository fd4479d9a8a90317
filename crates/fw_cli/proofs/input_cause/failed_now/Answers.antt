use Rattle.fw_cli.proofs.Inputs.{of_waves}
use Rattle.fw_cli.proofs.input_cause.failed_now.Goals as goal

pub returns : goal.returns
returns g c = of_waves c.args.options.now.max_failed c.in_ok-book.book c.deref.result.now c.failed_in.result c.failed_in.ensures
