use Rattle.std.proofs.Common.{ℕ, List, subst}
use Rattle.fw_ledger.specs.Remade.{HaveSerials}
use Rattle.fw_ledger.proofs.Remade.{image_in_front}
use Rattle.fw_ledger.proofs.remaking.source.Goals as goal

pub loop-serial-preserved : goal.loop-serial-preserved
loop-serial-preserved c = λ front have. (subst (λ (l : List ℕ). HaveSerials front l) c.in-Some.ensures.cases.0 (c.loop-serial.invariant front have)).1

pub returns-then-offers-clause-is_image : goal.returns-then-offers-clause-is_image
returns-then-offers-clause-is_image c = λ front rest split have.
    let here = (subst (λ (l : List ℕ). HaveSerials front l) c.in-Some.ensures.cases.0 (c.loop-serial.invariant front have)).0 in
    image_in_front c.args.book.now front rest c.in-Some.serial.now c.args.image.now split here (c.offers.ensures c.if-offers.true)
