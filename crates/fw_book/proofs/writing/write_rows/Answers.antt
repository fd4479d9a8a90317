use Rattle.std.proofs.Common.{ℕ, List, ◌++◌, ap, ◌∙◌, arith}
use Rattle.fw_book.specs.Format.{row_bytes}
use Rattle.fw_book.proofs.Parts.{rows_written}
use Rattle.fw_book.proofs.writing.write_rows.Goals as goal

pub loop-row-preserved : goal.loop-row-preserved
loop-row-preserved c =
    c.in_ok-write_row.ensures.ok
    ∙ ap (λ (l : List ℕ). l ++ row_bytes c.row-item.result) c.loop-row.invariant
    ∙ rows_written c.args.rows.now c.loop-row.row-index c.row-item.result c.args.bytes.now.items (omega arith) c.row-item.is
