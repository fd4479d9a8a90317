use Rattle.std.proofs.Common.{◌≡◌, ◌%◌, length, arith}
use Rattle.fw_ledger.specs.Entry.{meters_bytes}
use Rattle.fw_ledger.specs.View.{source_of}
use Rattle.fw_ledger.proofs.Parts.{odd_meters}
use Rattle.fw_ledger.proofs.reading.front_at.Goals as goal

pub returns-in_default-clause-none : goal.returns-in_default-clause-none
returns-in_default-clause-none c = λ campaign release source meters is fit has e. c.in_default.ensures.none campaign release source (meters_bytes meters) is fit has e

pub returns-then-front-ne0-clause-none : goal.returns-then-front-ne0-clause-none
returns-then-front-ne0-clause-none c =
    let front = c.in-Some.front in
    let odd : ¬ (length front.meters.now % 4 ≡ 0) = λ is. omega (arith, is, c.if-front-ne0.true) in
    odd_meters c.args.bytes.now front.meters.now front.campaign front.release (source_of front.image) c.in-Some.ensures.opened c.in-Some.ensures.fits c.in-Some.ensures.is_source c.in-Some.ensures.found odd
