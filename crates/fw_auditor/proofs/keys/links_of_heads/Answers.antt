use Rattle.std.proofs.Common.{◌+◌, ◌<◌, length, subst, sym, take, arith}
use Rattle.fw_sealport.specs.declared.links.Links.{Links}
use Rattle.fw_sealport.specs.declared.window.Order.TheVariants.{Strict}
use Rattle.fw_auditor.specs.Keyed.{AreLinksBy, as_it_is}
use Rattle.fw_auditor.proofs.Keyed.{all_links, none_yet, with_link, without}
use Rattle.fw_auditor.proofs.keys.links_of_heads.Goals as goal
use Rattle.fw_auditor.proofs.keys.links_of_heads.Goals.{in-Some+in_ok-add, in_default}

pub loop-head-init : goal.loop-head-init
loop-head-init c = none_yet as_it_is Strict c.args.meter c.new-links.result c.new-links.ensures.none c.new-links.ensures.order

pub loop-head-preserved : goal.loop-head-preserved
loop-head-preserved c =
    let heads = c.args.heads.now in
    let i = c.loop-head.head-index in
    let meter = c.args.meter in
    let within : i < length heads = omega (arith, c.loop-head-test.true) in
    elim c.match-link_with.branch [
      | in-Some+in_ok-add w ↦
          subst (λ (links : Links). AreLinksBy as_it_is Strict (take (i + 1) heads) meter links) (sym w.links-is)
          (with_link as_it_is Strict heads i c.head-item.result meter within c.head-item.is c.loop-head.links w.add.new.self w.in-Some.link c.loop-head.invariant
          w.in_ok-add.ensures.added (record { entry = w.in-Some.ensures.0; within = w.in-Some.ensures.1; named = w.in-Some.ensures.2; is = w.in-Some.ensures.3 }))
      | in_default w ↦
          subst (λ (links : Links). AreLinksBy as_it_is Strict (take (i + 1) heads) meter links) (sym w.links-is)
          (without as_it_is Strict heads i c.head-item.result meter within c.head-item.is c.loop-head.links c.loop-head.invariant w.in_default.ensures)
    ]

pub returns : goal.returns
returns c =
    all_links as_it_is Strict c.args.heads.now c.loop-head.head-index c.args.meter c.loop-head.links (omega (arith, c.loop-head-test.false)) c.loop-head.invariant
