use Rattle.fw_ledger.proofs.Endings.{both_judged}
use Rattle.fw_ledger.proofs.record.are_endings.Goals as goal

pub returns-then-are_numbers : goal.returns-then-are_numbers
returns-then-are_numbers c = both_judged c.args.numbers.now c.are_numbers.result c.has_ended.result c.are_numbers.ensures c.has_ended.ensures c.if-are_numbers.true
