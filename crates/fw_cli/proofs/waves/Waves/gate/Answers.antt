use Rattle.std.proofs.Common.{List, ap, subst, ◌∙◌}
use Rattle.fw_book.specs.Contents.{Contents}
use Rattle.fw_head.specs.Head.{Head}
use Rattle.fw_plan.specs.Waves.{IsGate, wave_rows}
use Rattle.fw_plan.specs.declared.gate.WaveRow.{WaveRow}
use Rattle.fw_plan.specs.declared.rows.WaveMeter.{WaveMeter}
use Rattle.fw_cli.proofs.waves.Waves.gate.Goals as goal

pub returns-clause-gate : goal.returns-clause-gate
returns-clause-gate g c =
    let meters = c.args.self.now.meters.items in
    subst (λ (rows : List WaveRow). IsGate c.args.self.now.max_failed rows c.gate_of.result)
    (c.deref-2.ensures.value ∙ c.in_ok-rows.ensures
    ∙ ap (λ (list : List WaveMeter). wave_rows c.view.result.book.now list) c.deref.ensures.value
    ∙ ap (λ (book : Contents). wave_rows book meters) (c.view.ensures.book ∙ ap (λ (h : Head). h.book) c.head.ensures)) c.gate_of.ensures.gate
