use Rattle.std.proofs.Common.{arith}
use Rattle.fw_script.specs.Script.{script_of}
use Rattle.fw_script.proofs.ScriptSteps.{goes_on, begins_script}
use Rattle.fw_script.proofs.script.read_script.Goals as goal

pub returns-in_err-add_line-clause-memory : goal.returns-in_err-add_line-clause-memory
returns-in_err-add_line-clause-memory c = λ _.
    begins_script c.args.input.now (script_of c.loop-line.script.setup c.loop-line.script.events.items) c.in-Some.line.now c.loop-line.rest.now c.in-Some.after.now c.loop-line.number
    c.loop-line.invariant.so_far c.in-Some.ensures.lines c.in_err-add_line.ensures.memory c.in_err-add_line.ensures.kept

pub loop-line-preserved : goal.loop-line-preserved
loop-line-preserved c = record {
  counted = omega (arith, c.in-Some.ensures.shorter);
  so_far =
      goes_on c.args.input.now (script_of c.loop-line.script.setup c.loop-line.script.events.items) (script_of c.add_line.new.self.setup c.add_line.new.self.events.items) c.in-Some.line.now
      c.loop-line.rest.now c.in-Some.after.now c.loop-line.number c.loop-line.invariant.so_far c.in-Some.ensures.lines (rw c.if-not-branch.false at c.in_ok-add_line.ensures.ok);
}
