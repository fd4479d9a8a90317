use Rattle.std.proofs.Common.{length, ap, arith, length-append}
use Rattle.fw_book.specs.Format.{rows_bytes}
use Rattle.fw_book.proofs.Parts.{counted_bad}
use Rattle.fw_book.proofs.Walks.{length_rows}
use Rattle.fw_book.proofs.reading.skim_rows.Goals as goal

pub returns-then-size-rest-clause-none : goal.returns-then-size-rest-clause-none
returns-then-size-rest-clause-none c =
    counted_bad c.args.bytes.now c.in_ok-count.rest.now c.in_ok-count.count c.in_ok-count.ensures.found c.in_ok-count.ensures.fits
    (λ rows is n more spelled. omega (arith, c.from-size.ensures, n, length_rows rows, ap length spelled, length-append (rows_bytes rows) more))
