use Rattle.fw_cuts.specs.Reading.{AreNoTwoParts}
use Rattle.fw_cuts.proofs.Spellings.{second_none, told_none}
use Rattle.fw_cuts.proofs.undo.reading.two_parts.Goals as goal

pub returns-in_err-second-clause-none : goal.returns-in_err-second-clause-none
returns-in_err-second-clause-none c =
    told_none c.from_residual-in_err-second.result (AreNoTwoParts c.args.bytes.now)
    (second_none c.args.bytes.now c.in_ok-first.rest.now c.in_ok-first.first.now c.in_ok-first.ensures.found c.in_ok-first.ensures.fits c.in_err-second.ensures.none)
