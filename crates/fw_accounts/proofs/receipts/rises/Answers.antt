use Rattle.std.proofs.Common.{◌<◌, ◌≤◌, ap, arith}
use Rattle.fw_air.specs.Events.{Receipt}
use Rattle.fw_accounts.proofs.Rising.{rising_more, not_rising}
use Rattle.fw_accounts.proofs.receipts.rises.Goals as goal

pub returns-then-receipt-before : goal.returns-then-receipt-before
returns-then-receipt-before c =
    let before = c.index-receipts-i.result in
    let receipt = c.index-receipts-i-in-loop-i.result in
    let low = ap (λ (r : Receipt). r.number) c.before-in-loop-i.view_is in
    let high = ap (λ (r : Receipt). r.number) c.receipt.view_is in
    let down : receipt.number ≤ before.number = omega (arith, c.if-receipt-before.true, low, high) in (
      (λ h. absurd cc),
      λ rises. absurd (not_rising c.args.receipts.now c.loop-i.i before receipt c.loop-i.auto.i c.loop-i-test.true c.index-receipts-i.is c.index-receipts-i-in-loop-i.is down rises),
    )

pub loop-i-preserved : goal.loop-i-preserved
loop-i-preserved c =
    let before = c.index-receipts-i.result in
    let receipt = c.index-receipts-i-in-loop-i.result in
    let low = ap (λ (r : Receipt). r.number) c.before-in-loop-i.view_is in
    let high = ap (λ (r : Receipt). r.number) c.receipt.view_is in
    let up : before.number < receipt.number = omega (arith, c.if-receipt-before.false, low, high) in
    rising_more c.args.receipts.now c.loop-i.i before receipt c.loop-i.auto.i c.loop-i-test.true c.index-receipts-i.is c.index-receipts-i-in-loop-i.is up c.loop-i.invariant
