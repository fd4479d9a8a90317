use Rattle.std.proofs.Common.{◌≢◌, ◌<◌, length, refl, ap, sym, arith, IsTrue, false}
use Rattle.fw_air.specs.Events.{Receipt}
use Rattle.fw_accounts.proofs.Numbering.{is_next}
use Rattle.fw_accounts.proofs.Unlike.{is_numbered, other_length}
use Rattle.fw_accounts.proofs.accounts.are_for.Goals as goal

pub returns-then-receipts-made : goal.returns-then-receipts-made
returns-then-receipts-made c =
    let other : length c.args.receipts.now ≢ length c.args.made.now = c.if-receipts-made.true in (
      λ h. absurd cc,
      λ same. absurd (other_length c.args.first c.args.receipts.now c.args.made.now other same),
    )

pub returns-then-not-is_for : goal.returns-then-not-is_for
returns-then-not-is_for c =
    let inside : c.loop-at.at < length c.args.made.now = omega (arith, c.loop-at-test.true) in (
      λ h. absurd cc,
      λ same.
          let is = is_numbered c.args.first c.args.receipts.now c.args.made.now c.loop-at.at c.index-receipts-at.result c.index-made-at.result inside c.index-receipts-at.is c.index-made-at.is same in
          let yes : IsTrue false = c.if-not-is_for.ensures.1 (ap (λ (r : Receipt). r.number) is, sym (ap (λ (r : Receipt). r.event) is)) in
          absurd cc,
    )

pub loop-at-preserved : goal.loop-at-preserved
loop-at-preserved c =
    let inside : c.loop-at.at < length c.args.made.now = omega (arith, c.loop-at-test.true) in
    let there : c.loop-at.at < length c.args.receipts.now = omega (arith, c.loop-at-test.true, c.if-receipts-made.false) in
    let is = c.if-not-is_for.ensures.0 refl in
    is_next c.args.first c.args.receipts.now c.args.made.now c.loop-at.at c.index-receipts-at.result c.index-made-at.result there inside c.index-receipts-at.is c.index-made-at.is is.0 (sym is.1) c.loop-at.invariant
