use Rattle.fw_blocks.proofs.WindowSearch.{Listing}
use Rattle.fw_blocks.proofs.window.list.Given as goal

abbrev pub invariant-loop-number : goal.invariant-loop-number
invariant-loop-number l = Listing l.initial.numbers l.listed l.width l.from l.to l.number l.numbers l.len
