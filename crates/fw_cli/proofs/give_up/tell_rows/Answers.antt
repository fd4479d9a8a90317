use Rattle.std.proofs.Common.{◌∙◌, List, refl, rules, subst}
use Rattle.std.proofs.lemmas.List.{get_or_default, take_all}
use Rattle.fw_host.specs.Telling.{Told, lines_of_rows}
use Rattle.fw_host.proofs.Tellings.{told_none}
use Rattle.fw_rollout.specs.declared.ended.Ended.{Ended}
use Rattle.fw_cli.proofs.GivenUp.{rows_next}
use Rattle.fw_cli.proofs.give_up.tell_rows.Goals as goal

pub loop-row-init : goal.loop-row-init
loop-row-init g c = record { writer = refl; told = told_none _ _ }

pub loop-row-preserved : goal.loop-row-preserved
loop-row-preserved g c = record {
  writer = c.tell_ended.ensures.writer ∙ c.loop-row.invariant.writer;
  told = rows_next c.args.rows.now c.loop-row.row-index c.row-item.result _ _ _ _ _ _ c.loop-row-test.true c.loop-row.invariant.told c.tell_ended.ensures.told (search (rules, get_or_default));
}

pub returns-clause-told : goal.returns-clause-told
returns-clause-told g c =
    subst (λ (l : List Ended). Told (lines_of_rows l) c.args.lines.now.lost c.loop-row.lines.lost (g.W.Write.contents c.args.lines.now.writer.now)
    (g.W.Write.contents c.loop-row.lines.writer.now)) (take_all c.loop-row.row-index c.args.rows.now c.loop-row-test.false) c.loop-row.invariant.told
