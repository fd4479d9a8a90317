use Rattle.std.proofs.Common.{subst, sym}
use Rattle.fw_axdr.specs.View.{value_of}
use Rattle.fw_axdr.proofs.Judged.{IsNoWant, value_fault}
use Rattle.fw_axdr.proofs.judging.unwritable.Goals as goal

pub returns-clause-fault : goal.returns-clause-fault
returns-clause-fault c = subst IsNoWant (sym c.unwritable_data.ensures) (value_fault (value_of c.args.value.now) 8)
