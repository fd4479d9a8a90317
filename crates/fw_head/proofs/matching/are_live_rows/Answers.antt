use Rattle.std.proofs.Common.{sym, ◌∙◌}
use Rattle.std.proofs.lemmas.Bool.{false≢true}
use Rattle.fw_head.proofs.ByMeter.{by_true, by_false, never, rows_from, live_where, not_live_twice}
use Rattle.fw_head.proofs.matching.are_live_rows.Goals.{then-are_of_book, else-are_of_book}
use Rattle.fw_head.proofs.matching.are_live_rows.Goals as goal

pub returns-then-not-repeats : goal.returns-then-not-repeats
returns-then-not-repeats c =
    let book = c.args.book.now in
    let rows = c.args.rows.now in
    elim c.if-are_of_book.branch [
      | then-are_of_book w ↦ live_where book rows w.repeats.result c.has_each.result c.head-head.ensures.book (by_true _ _ _ c.are_of_book.ensures w.if-are_of_book.true) w.repeats.ensures (sym w.value-is ∙ c.if-not-repeats.true) c.has_each.ensures
      | else-are_of_book w ↦ absurd (false≢true (sym w.if-are_of_book.false ∙ sym w.value-is ∙ c.if-not-repeats.true))
    ]

pub returns-else-not-repeats : goal.returns-else-not-repeats
returns-else-not-repeats c =
    let book = c.args.book.now in
    let rows = c.args.rows.now in
    never _ _ c.if-not-repeats.false (elim c.if-are_of_book.branch [
      | then-are_of_book w ↦ not_live_twice book rows w.repeats.result w.repeats.ensures (sym w.value-is ∙ c.if-not-repeats.false)
      | else-are_of_book w ↦ (λ are. by_false _ _ _ c.are_of_book.ensures w.if-are_of_book.false (rows_from book rows are))
    ])
