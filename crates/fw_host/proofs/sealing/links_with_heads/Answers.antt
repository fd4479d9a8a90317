use Rattle.std.proofs.Common.{◌≡◌, ◌<◌, ◌≤◌, rules, length, subst, sym, ◌∙◌}
use Rattle.std.specs.Prelude.{slice_index_or}
use Rattle.std.proofs.lemmas.List.{get_or_default, take_all}
use Rattle.fw_host.specs.Sealings.{AreLinksOf, IsNamed, Shows}
use Rattle.fw_host.proofs.Linkings.{head_more, no_heads}
use Rattle.fw_host.proofs.sealing.links_with_heads.Goals as goal

pub loop-entry-init : goal.loop-entry-init
loop-entry-init c = no_heads c.args.own c.args.order c.args.file.now c.new-links.result c.new-links.ensures.none c.new-links.ensures.order

pub loop-entry-preserved : goal.loop-entry-preserved
loop-entry-preserved c =
    let file = c.args.file.now in
    let i = c.loop-entry.entry-index in
    let found = c.in-Some.ensures in
    let within : i < length file.entries = search (rules, c.loop-entry-test.true) in
    let item = slice_index_or file.entries i found.0 in
    let is : slice_index_or file.entries i item ≡ item = get_or_default file.entries i item found.0 within in
    let same : item.end ≡ c.end.result.now = search (rules, get_or_default, within) in
    head_more c.args.own file i item within is c.args.order c.loop-entry.links c.add.new.self c.shown_to.result c.in-Some.link found.0 c.loop-entry.invariant
    (subst (λ e. Shows c.args.own e c.shown_to.result) (sym same) c.shown_to.ensures) c.in_ok-add-in-Some.ensures.added found.1 (found.2 ∙ sym same) found.3

pub returns : goal.returns
returns c =
    let file = c.args.file.now in
    let past : length file.entries ≤ c.loop-entry.entry-index = search (rules, c.loop-entry-test.false) in
    subst (λ entries. AreLinksOf c.args.order file (IsNamed c.args.own entries) c.loop-entry.links) (take_all c.loop-entry.entry-index file.entries past) c.loop-entry.invariant
