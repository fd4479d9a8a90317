use Rattle.std.proofs.Common.{◌≡◌, map, replicate, sym, subst, ap, ◌∙◌, All}
use Rattle.fw_air.specs.Links.{IsThere, link_of, queue_of}
use Rattle.fw_air.specs.Queues.{RoundsHaveFates, new_queue}
use Rattle.fw_air.specs.Rounds.{IsRound, OneByOne, links}
use Rattle.fw_air.proofs.Fated.{new_queues}
use Rattle.fw_air.proofs.Runs.{on_ok}
use Rattle.fw_air.proofs.scheduling.make_rounds.Goals as goal

pub rounds-requires : goal.rounds-requires
rounds-requires g c =
    let there = subst (λ s. All (IsThere s) c.in_ok-links.links.items) c.world.ensures.value c.in_ok-links.ensures.there in
    subst (All (IsThere c.args.made.now.world)) (sym c.deref_mut.ensures.value) there

pub returns-clause-all : goal.returns-clause-all
returns-clause-all g c =
    let old = c.args.made.now in
    let made = c.in_ok-links.links.items in
    let all : map link_of made ≡ links c.args.setup.now old.world = c.in_ok-links.ensures.all ∙ ap (links c.args.setup.now) c.world.ensures.value in
    let them : map link_of c.deref_mut.result.now ≡ links c.args.setup.now old.world = ap (map link_of) c.deref_mut.ensures.value ∙ all in
    let queues : map queue_of c.deref_mut.result.now ≡ map new_queue (links c.args.setup.now old.world) =
    ap (map queue_of) c.deref_mut.ensures.value ∙ new_queues made c.in_ok-links.ensures.unsent ∙ ap (map new_queue) all in
    on_ok c.rounds.result _ _
    (λ done. record {
      events = done.0;
      follows = done.1;
      rounds_run = subst (λ l. OneByOne IsRound (replicate c.args.rounds l) old.world done.0 c.rounds.new.self.world) them done.2;
      have_fates = subst (λ q. RoundsHaveFates c.args.fates.now c.args.rounds q old.world done.0 c.rounds.new.self.world) queues done.3;
    })
    c.rounds.ensures.all
