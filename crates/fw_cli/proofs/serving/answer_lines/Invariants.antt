use Rattle.std.proofs.Common.{◌+◌, ◌≤◌, length}
use Rattle.fw_cli.proofs.Turns.{SoFar}
use Rattle.fw_cli.proofs.serving.answer_lines.Given as goal

abbrev pub invariant-loop-line : goal.invariant-loop-line
invariant-loop-line g l = record {
  counted : l.number + length l.rest ≤ 1 + length l.input;
  so_far : SoFar l.fn.meter l.input l.text.items l.meter l.number l.rest;
}

abbrev pub decreases-loop-line : goal.decreases-loop-line
decreases-loop-line g l = length l.rest
