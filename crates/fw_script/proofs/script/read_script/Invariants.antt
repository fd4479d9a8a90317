use Rattle.std.proofs.Common.{◌+◌, ◌≤◌, length}
use Rattle.fw_script.specs.Script.{script_of}
use Rattle.fw_script.proofs.ScriptSteps.{SoFar}
use Rattle.fw_script.proofs.script.read_script.Given as goal

abbrev pub invariant-loop-line : goal.invariant-loop-line
invariant-loop-line l = record {
  counted : l.number + length l.rest ≤ 1 + length l.input;
  so_far : SoFar l.input (script_of l.script.setup l.script.events.items) l.number l.rest;
}

abbrev pub decreases-loop-line : goal.decreases-loop-line
decreases-loop-line l = length l.rest
