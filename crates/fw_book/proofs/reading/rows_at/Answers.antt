use Rattle.std.proofs.Common.{◌≡◌, length, List, sym, ◌∙◌, arith}
use Rattle.fw_book.specs.declared.row.Row.{Row}
use Rattle.fw_book.specs.Private.{rows_in}
use Rattle.fw_book.proofs.Parts.{counted_twice, counted_found}
use Rattle.fw_book.proofs.reading.rows_at.Goals as goal

pub returns-then-repeats-clause-none : goal.returns-then-repeats-clause-none
returns-then-repeats-clause-none c =
    let rows : List Row = rows_in c.in_ok-rows.rows.now in
    let n : length rows ≡ c.in_ok-count.count = c.in_ok-rows.ensures.count ∙ c.from-count.ensures in
    let found = counted_found c.args.bytes.now c.in_ok-count.rest.now c.in_ok-rows.rest.now c.in_ok-count.count rows
    c.in_ok-count.ensures.found c.in_ok-rows.ensures.found n in
    counted_twice c.args.bytes.now c.in_ok-rows.rest.now rows found (omega (arith, c.in_ok-count.ensures.fits, n)) c.in_ok-rows.ensures.fit
    (sym c.repeats.ensures ∙ c.if-repeats.true)
