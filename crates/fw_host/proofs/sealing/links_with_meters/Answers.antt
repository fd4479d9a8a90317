use Rattle.std.proofs.Common.{◌≡◌, rules, subst}
use Rattle.std.specs.Prelude.{slice_index_or}
use Rattle.std.proofs.lemmas.List.{get_or_default, take_all}
use Rattle.fw_host.specs.Sealings.{AreLinksOf, IsListedAt}
use Rattle.fw_host.proofs.Linkings.{first_without, keyed_more, meter_more, no_meters}
use Rattle.fw_host.proofs.sealing.links_with_meters.Goals as goal

pub loop-at-init : goal.loop-at-init
loop-at-init c = no_meters c.args.order c.args.file.now c.new-links.result c.new-links.ensures.none c.new-links.ensures.order

pub loop-at-preserved : goal.loop-at-preserved
loop-at-preserved c =
    let list = c.args.list.now in
    let at = c.at-item.result in
    let is : slice_index_or list c.loop-at.at-index at ≡ at = search (rules, get_or_default) in
    let found = c.in-Some.ensures in (
      meter_more list c.loop-at.at-index at c.loop-at-test.true is c.args.order c.args.file.now c.loop-at.links c.add.new.self c.in-Some.link found.0 c.loop-at.invariant.0
          c.in_ok-add.ensures.added found.1 found.2 found.3,
      keyed_more list c.loop-at.at-index at c.loop-at-test.true is c.args.file.now c.loop-at.invariant.1 (found.0, found.1, found.2),
    )

pub returns-in_default-clause-no_key : goal.returns-in_default-clause-no_key
returns-in_default-clause-no_key c = λ meter e.
    let list = c.args.list.now in
    let at = c.at-item.result in
    let is : slice_index_or list c.loop-at.at-index at ≡ at = search (rules, get_or_default) in
    first_without list c.loop-at.at-index at c.loop-at-test.true is c.args.file.now c.in_default.ensures c.loop-at.invariant.1 meter (search (rules, e))

pub returns-clause-links : goal.returns-clause-links
returns-clause-links c =
    subst (λ list. AreLinksOf c.args.order c.args.file.now (IsListedAt list) c.loop-at.links) (take_all c.loop-at.at-index c.args.list.now c.loop-at-test.false) c.loop-at.invariant.0
