use Rattle.std.proofs.Common.{◌≡◌, ◌<◌, length, inl, inr, sym, ◌∙◌, arith}
use Rattle.std.specs.Prelude.{false}
use Rattle.std.proofs.lemmas.Grind.{common_steps}
use Rattle.fw_world.specs.Runs.{events_of}
use Rattle.fw_script.specs.Script.{script_of, is_skipped}
use Rattle.fw_script.proofs.SaidKinds.{late_line, timely_line, events_length}
use Rattle.fw_script.proofs.Refused.{on_err}
use Rattle.fw_script.proofs.script.Script.add_line.Goals as goal
use Rattle.fw_script.proofs.script.Script.add_line.Goals.{else-not-is_empty-via-then-not-is_empty+else-names_setup, else-not-is_empty-via-else-not-is_empty}

pub returns-then-names_setup-clause-ok : goal.returns-then-names_setup-clause-ok
returns-then-names_setup-clause-ok c =
    let some : 0 < length c.args.self.now.events.items = grind (arith, common_steps) in
    let events : 0 < length (events_of c.args.self.now.events.items) = rw (events_length c.args.self.now.events.items) some in
    late_line (script_of c.args.self.now.setup c.args.self.now.events.items) c.args.line.now (sym c.is_skipped.ensures ∙ c.if-is_skipped.false) events
    (sym c.names_setup.ensures ∙ c.if-names_setup.true)

pub returns-in_err-item-clause-memory : goal.returns-in_err-item-clause-memory
returns-in_err-item-clause-memory c =
    let kept : is_skipped c.args.line.now ≡ false = sym c.is_skipped.ensures ∙ c.if-is_skipped.false in
    let script = script_of c.args.self.now.setup c.args.self.now.events.items in
    elim c.else-not-is_empty.branch [
      | else-not-is_empty-via-then-not-is_empty+else-names_setup w ↦
          on_err _ _ (timely_line script c.args.line.now kept (inl (sym w.names_setup.ensures ∙ w.if-names_setup.false)) c.in_err-item.ensures.memory)
      | else-not-is_empty-via-else-not-is_empty w ↦
          let none : length c.args.self.now.events.items ≡ 0 = grind (arith, common_steps) in
          on_err _ _ (timely_line script c.args.line.now kept (inr (events_length c.args.self.now.events.items ∙ none)) c.in_err-item.ensures.memory)
    ]
