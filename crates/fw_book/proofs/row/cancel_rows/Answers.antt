use Rattle.std.proofs.Common.{arith, set, sym, ap, ◌∙◌}
use Rattle.std.proofs.lemmas.List.Edits.{map_over_more}
use Rattle.fw_book.specs.declared.row.Row.{Row}
use Rattle.fw_book.specs.Rows.{cancelled_row}
use Rattle.fw_book.proofs.row.cancel_rows.Goals as goal

pub loop-row-preserved : goal.loop-row-preserved
loop-row-preserved c =
    ap (λ (x : Row). set c.loop-row.rows c.loop-row.row-index x) c.cancelled_row.ensures
    ∙ ap (λ (x : Row). set c.loop-row.rows c.loop-row.row-index (cancelled_row x)) (sym c.row-item.is)
    ∙ map_over_more (λ (row : Row). cancelled_row row) c.args.rows.now c.loop-row.rows c.loop-row.row-index c.row-item.result
    (omega arith) c.loop-row.invariant c.row-item.is
