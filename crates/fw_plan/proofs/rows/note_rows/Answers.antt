use Rattle.std.proofs.Common.{◌<◌, List, [], ◌∷◌, ◌++◌, Option, nat_eq, take, length, ap, sym, ◌∙◌, arith}
use Rattle.std.specs.HashMap.{get}
use Rattle.std.proofs.lemmas.List.{take_more}
use Rattle.fw_book.specs.declared.row.Row.{Row}
use Rattle.fw_book.specs.declared.row.RowState.{RowState}
use Rattle.fw_plan.specs.Private.{after_row, after_rows}
use Rattle.fw_plan.proofs.OwnStates.{after_push}
use Rattle.fw_plan.proofs.rows.note_rows.Goals as goal

pub loop-row-preserved : goal.loop-row-preserved
loop-row-preserved c = λ meter.
    let rows = c.args.rows.now in
    let k = c.loop-row.row-index in
    let row : Row = c.row-item.result in
    let was = get nat_eq c.args.states.now meter in
    let inside : k < length rows = omega (arith, c.loop-row-test.true) in
    c.in_ok-note_row.ensures meter
    ∙ ap (λ (o : Option RowState). after_row o row meter) (c.loop-row.invariant meter)
    ∙ sym (after_push was (take k rows) row meter)
    ∙ ap (λ (rs : List Row). after_rows was rs meter) (ap (λ (x : Row). take k rows ++ x ∷ []) c.row-item.is ∙ sym (take_more rows k row inside))
