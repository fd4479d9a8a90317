use Rattle.fw_book.proofs.Parts.{entry_no_rows}
use Rattle.fw_book.proofs.reading.skim.Goals as goal

pub returns-in_err-rows-clause-none : goal.returns-in_err-rows-clause-none
returns-in_err-rows-clause-none c =
    rw c.from_residual-in_err-rows.ensures
    (entry_no_rows c.args.version c.args.bytes.now c.in_ok-serial.rest.now c.in_ok-image.rest.now c.in_ok-image.image.now c.in_ok-serial.serial
    c.in_ok-serial.release c.in_ok-serial.ensures.found c.in_ok-serial.ensures.fits c.in_ok-image.ensures.found c.in_ok-image.ensures.fits c.in_err-rows.ensures.none)
