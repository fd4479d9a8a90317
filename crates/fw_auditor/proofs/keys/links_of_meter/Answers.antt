use Rattle.std.proofs.Common.{◌+◌, ◌<◌, length, subst, sym, take, arith}
use Rattle.fw_sealport.specs.declared.links.Links.{Links}
use Rattle.fw_auditor.specs.Keyed.{AreLinksBy, turned}
use Rattle.fw_auditor.proofs.Keyed.{all_links, none_yet, with_link, without}
use Rattle.fw_auditor.proofs.keys.links_of_meter.Goals as goal
use Rattle.fw_auditor.proofs.keys.links_of_meter.Goals.{in-Some+in_ok-add, in_default}

pub loop-head-init : goal.loop-head-init
loop-head-init c = none_yet turned c.args.order c.args.meter c.new-links.result c.new-links.ensures.none c.new-links.ensures.order

pub loop-head-preserved : goal.loop-head-preserved
loop-head-preserved c =
    let heads = c.args.heads.now in
    let i = c.loop-head.head-index in
    let meter = c.args.meter in
    let within : i < length heads = omega (arith, c.loop-head-test.true) in
    elim c.match-branch-2.branch [
      | in-Some+in_ok-add w ↦
          subst (λ (links : Links). AreLinksBy turned c.args.order (take (i + 1) heads) meter links) (sym w.links-is)
          (with_link turned c.args.order heads i c.head-item.result meter within c.head-item.is c.loop-head.links w.add.new.self w.in-Some.link c.loop-head.invariant
          w.in_ok-add.ensures.added (rw w.in-Some.is at c.in_ok-link.ensures))
      | in_default w ↦
          subst (λ (links : Links). AreLinksBy turned c.args.order (take (i + 1) heads) meter links) (sym w.links-is)
          (without turned c.args.order heads i c.head-item.result meter within c.head-item.is c.loop-head.links c.loop-head.invariant (rw w.in_default.is at c.in_ok-link.ensures))
    ]

pub returns : goal.returns
returns c =
    all_links turned c.args.order c.args.heads.now c.loop-head.head-index c.args.meter c.loop-head.links (omega (arith, c.loop-head-test.false)) c.loop-head.invariant
