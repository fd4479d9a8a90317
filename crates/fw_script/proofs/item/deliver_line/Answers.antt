use Rattle.std.proofs.Common.{rules, ◌≡◌, length, ◌<◌, sym, ◌∙◌, arith}
use Rattle.std.specs.Prelude.{true, is_some}
use Rattle.std.proofs.lemmas.Grind.{common_steps}
use Rattle.fw_world.specs.Runs.{events_of}
use Rattle.fw_text.specs.Words.{numbers_of, words_behind}
use Rattle.fw_script.proofs.ScriptLemmas.{delivers, says_some, said_by}
use Rattle.fw_script.proofs.Refused.{on_err}
use Rattle.fw_script.proofs.item.deliver_line.Goals as goal

pub returns-in_err-deliveries_of-clause-memory : goal.returns-in_err-deliveries_of-clause-memory
returns-in_err-deliveries_of-clause-memory c =
    let some : 0 < length c.args.rest.now = grind (arith, common_steps) in
    let numbers : is_some (numbers_of (words_behind c.args.rest.now)) ≡ true = search rules in
    on_err _ _ (says_some c.args.rest.now some numbers)

pub returns-clause-ok : goal.returns-clause-ok
returns-clause-ok c =
    let some : 0 < length c.args.rest.now = grind (arith, common_steps) in
    sym (delivers c.args.rest.now some ∙ said_by (numbers_of (words_behind c.args.rest.now)) (events_of c.in_ok-deliveries_of.field-0.items) c.in_ok-deliveries_of.ensures)
