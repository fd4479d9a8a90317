use Rattle.std.proofs.Common.{IsTrue, false, refl, sym, ◌∙◌, map, arith}
use Rattle.std.proofs.lemmas.List.{length-map}
use Rattle.fw_air.specs.Links.{link_of}
use Rattle.fw_accounts.proofs.Dealing.{below_more, all_below}
use Rattle.fw_accounts.proofs.Unlike.{link_there}
use Rattle.fw_accounts.proofs.accounts.has_its_ticks.Goals as goal

pub loop-j-preserved : goal.loop-j-preserved
loop-j-preserved c =
    let its = c.if-not-has_ticks.ensures.0 refl ∙ c.its_ticks-its.ensures in
    below_more c.args.links.now c.args.rounds c.args.workers c.args.worker c.args.receipts.now c.loop-j.j c.index-links-j.result (omega (arith, c.loop-j-test.true)) c.index-links-j.is its c.loop-j.invariant

pub returns-then-not-has_ticks : goal.returns-then-not-has_ticks
returns-then-not-has_ticks c = (
  λ h. absurd cc,
  λ all.
      let link = link_of c.index-links-j.result in
      let there = link_there c.args.links.now c.loop-j.j c.index-links-j.result (omega (arith, c.loop-j-test.true)) c.index-links-j.is in
      let yes : IsTrue false = c.if-not-has_ticks.ensures.1 (all c.loop-j.j link there ∙ sym c.its_ticks-its.ensures) in
      absurd cc,
)

pub returns : goal.returns
returns c = (
  λ _.
      all_below (map link_of c.args.links.now) c.args.rounds c.args.workers c.args.worker c.args.receipts.now c.loop-j.j (omega (arith, c.loop-j-test.false, length-map c.args.links.now link_of)) c.loop-j.invariant,
  λ _. refl,
)
