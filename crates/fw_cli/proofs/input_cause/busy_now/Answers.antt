use Rattle.fw_cli.proofs.Inputs.{of_book}
use Rattle.fw_cli.proofs.input_cause.busy_now.Goals as goal

pub returns : goal.returns
returns g c = of_book c.args.opening c.in_ok-book.book c.deref.result.now c.deref-2.result.now c.busy_in.result c.busy_in.ensures
