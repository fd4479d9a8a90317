use Rattle.std.proofs.Common.{◌<◌, ℕ, List, [], ◌∷◌, ◌++◌, Option, take, length, ap, sym, ◌∙◌, arith}
use Rattle.std.proofs.lemmas.List.{flat_map_more, take_more}
use Rattle.fw_book.specs.declared.row.RowState.{RowState}
use Rattle.fw_plan.specs.Waves.{own_state, row_in_wave, wave_rows}
use Rattle.fw_plan.specs.declared.gate.WaveRow.{WaveRow}
use Rattle.fw_plan.specs.declared.rows.WaveMeter.{WaveMeter}
use Rattle.fw_plan.proofs.rows.wave_rows.Goals as goal

pub loop-of-preserved : goal.loop-of-preserved
loop-of-preserved c =
    let book = c.args.book.now in
    let meters = c.args.meters.now in
    let k = c.loop-of.of-index in
    let at : WaveMeter = c.of-item.result in
    let inside : k < length meters = omega (arith, c.loop-of-test.true) in
    let state = c.state_at-state.ensures ∙ c.in_ok-states.ensures _ in
    c.in_ok-push_row.ensures
    ∙ ap (λ (rows : List WaveRow). rows ++ row_in_wave at.wave c.state_at-state.result) c.loop-of.invariant
    ∙ ap (λ (o : Option RowState). wave_rows book (take k meters) ++ row_in_wave at.wave o) (state ∙ ap (λ (m : ℕ). own_state book m) c.number.ensures)
    ∙ flat_map_more (λ (of : WaveMeter). row_in_wave of.wave (own_state book of.meter)) [] (take k meters) at
    ∙ ap (λ (ms : List WaveMeter). wave_rows book ms) (ap (λ (x : WaveMeter). take k meters ++ x ∷ []) c.of-item.is ∙ sym (take_more meters k at inside))
