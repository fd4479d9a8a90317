use Rattle.std.proofs.Common.{◌≡◌, ◌+◌, ◌<◌, ◌≤◌, [], ◌∷◌, ◌++◌, drop, length, map, set, take, refl, subst, sym, ap, ◌∙◌, arith}
use Rattle.std.proofs.lemmas.List.Elements.{All-set}
use Rattle.std.proofs.lemmas.List.{drop-set-lt, length-map, map-set, take_all, take_more_set}
use Rattle.std.proofs.Math.Seq.{map-set_same}
use Rattle.fw_air.specs.Links.{IsThere, link_of, queue_of}
use Rattle.fw_air.specs.Queues.{Queue, HasFates, RoundHasFates}
use Rattle.fw_air.specs.Rounds.{Link, IsLinkRound}
use Rattle.fw_air.proofs.Fated.{LeadsAll, all_led, leads_all}
use Rattle.fw_air.proofs.Present.{all_still_there, still_there, same_link_there}
use Rattle.fw_air.proofs.Runs.{follows_on, goes_on, leads_on, leads_there, left_at, none_left}
use Rattle.fw_air.proofs.record.Record.round.Goals as goal

pub returns-in_err-link_round-clause-goes_on : goal.returns-in_err-link_round-clause-goes_on
returns-in_err-link_round-clause-goes_on c = goes_on c.args.self.now c.loop-link.self c.link_round.new.self c.loop-link.invariant.2.0 c.loop-link.invariant.2.1 c.link_round.ensures.goes_on

pub loop-link-preserved : goal.loop-link-preserved
loop-link-preserved c =
    let stay = c.actors_stay.ensures in
    let old = c.args.self.now in
    let now = c.loop-link.self in
    let new = c.link_round.new.self in
    let links = c.loop-link.links in
    let i = c.loop-link.link-index in
    let link = c.link-item.result in
    let inv = c.loop-link.invariant in
    let made = c.in_ok-link_round.ensures.all in
    let inside : i < length links = omega (arith, c.loop-link-test.true) in
    let before : IsThere now.world link = subst (IsThere now.world) (sym c.link-item.is) (inv.0 i link inside) in
    let same : link_of c.link_round.new.link ≡ link_of link = c.in_ok-link_round.ensures.link ∙ ap link_of (sym c.link-item.is) in
    let round = subst (λ (l : Link). IsLinkRound l now.world made.0 new.world) (ap link_of (sym c.link-item.is)) made.2 in
    let stays = still_there stay now.world new.world made.0 link made.1.run before in
    let there : IsThere new.world c.link_round.new.link = same_link_there new.world link c.link_round.new.link same stays c.in_ok-link_round.ensures.late in
    let left = left_at link_of links (map link_of c.args.links.now) i link inv.1 inside c.link-item.is in
    let after = c.link_round.new.link in
    let queues = map queue_of links in
    let fated = subst (λ (q : Queue). HasFates c.args.fates.now q now.world made.0 (queue_of after) new.world) (ap queue_of (sym c.link-item.is)) made.3 in
    let queued : map queue_of (set links i after) ≡ set queues i (queue_of after) = map-set queue_of links i after in
    let rest : drop (i + 1) (map queue_of (set links i after)) ≡ drop (i + 1) queues = ap (drop (i + 1)) queued ∙ drop-set-lt (i + 1) queues i (queue_of after) (omega arith) in
    let done : take (i + 1) (map queue_of (set links i after)) ≡ take i queues ++ queue_of after ∷ [] =
    ap (take (i + 1)) queued ∙ take_more_set queues i (queue_of after) (omega (arith, inside, length-map links queue_of)) in
    let all_left = left_at queue_of links queues i link refl inside c.link-item.is in
    let all_leads = leads_all c.args.fates.now (map queue_of c.args.links.now) (drop i queues) (drop (i + 1) queues) (queue_of link) (queue_of after) old.world now.world new.world inv.2.0 made.0 (take i queues) all_left inv.2.3 fated in (
      All-set (IsThere new.world) links i c.link_round.new.link there (all_still_there stay now.world new.world made.0 links made.1.run inv.0),
      map-set_same link_of links i c.link_round.new.link link c.in_ok-link_round.ensures.link ∙ inv.1,
      (
        _,
        follows_on old now new inv.2.0 made.0 inv.2.1 made.1,
        leads_on IsLinkRound _ _ _ (link_of link) old.world now.world new.world inv.2.0 made.0 left inv.2.2 round,
        subst (λ l. LeadsAll c.args.fates.now (map queue_of c.args.links.now) old.world l new.world (inv.2.0 ++ made.0) (take (i + 1) (map queue_of (set links i after)))) (sym rest)
            (subst (LeadsAll c.args.fates.now (map queue_of c.args.links.now) old.world (drop (i + 1) queues) new.world (inv.2.0 ++ made.0)) (sym done) all_leads),
      ),
    )

pub returns-clause-all : goal.returns-clause-all
returns-clause-all c =
    let inv = c.loop-link.invariant in
    let past : length c.loop-link.links ≤ c.loop-link.link-index = omega (arith, c.loop-link-test.false) in
    let none = none_left link_of c.loop-link.links (map link_of c.args.links.now) c.loop-link.link-index inv.1 past in
    let none_queued = none_left queue_of c.loop-link.links (map queue_of c.loop-link.links) c.loop-link.link-index refl past in
    let all_done = take_all c.loop-link.link-index (map queue_of c.loop-link.links) (omega (arith, past, length-map c.loop-link.links queue_of)) in (
      inv.2.0,
      inv.2.1,
      leads_there IsLinkRound _ _ c.args.self.now.world c.loop-link.self.world inv.2.0 none inv.2.2,
      subst (λ l. RoundHasFates c.args.fates.now (map queue_of c.args.links.now) c.args.self.now.world inv.2.0 l c.loop-link.self.world) all_done
          (all_led c.args.fates.now (map queue_of c.args.links.now) _ c.args.self.now.world c.loop-link.self.world inv.2.0 _ none_queued inv.2.3),
    )
