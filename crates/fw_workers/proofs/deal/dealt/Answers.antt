use Rattle.std.proofs.Common.{sym, ap, ◌∙◌, arith}
use Rattle.std.proofs.lemmas.Iterator.Adapters.{YieldsList-from_vec}
use Rattle.std.proofs.lemmas.Iterator.Consumers.{YieldsList-at, YieldsList-end, YieldsList-from_enumerate}
use Rattle.std.proofs.lemmas.List.{map-id}
use Rattle.fw_workers.proofs.Dealing.{shares_of, links_of, empty_more, dealt_more}
use Rattle.fw_workers.proofs.deal.dealt.Goals as goal

pub loop-preserved : goal.loop-preserved
loop-preserved g c =
    record {
      many = omega (arith, c.in_ok-push.ensures.len);
      empty = ap links_of c.in_ok-push.ensures.items
          ∙ empty_more c.args.workers c.loop.counter c.loop.shares.items c.new.result c.loop.invariant.empty c.new.ensures.items;
    }

pub loop-j-preserved : goal.loop-j-preserved
loop-j-preserved g c =
    record {
      many = c.loop-j.invariant.many;
      dealt = dealt_more c.args.workers c.loop-j.yielded c.loop-j.shares.items c.in-Some.j c.in-Some.link c.index_mut.result.now c.push-in-loop-j.new.self
          c.requires c.loop-j.invariant.dealt c.index_mut.ensures.value c.in_ok-push-2.ensures.items;
    }

pub returns : goal.returns
returns g c =
    let links = c.args.links in
    let all = YieldsList-from_vec links.items c.into_iter.ensures.rest (omega (arith, links.ok.0, c.into_iter.ensures.len)) in
    let numbered = YieldsList-from_enumerate (YieldsList-at c.enumerate-j-items.ensures.source all) c.enumerate-j-items.ensures.count in
    let end = YieldsList-end (YieldsList-at c.into_iter-j-iterator.ensures.into_iter_gives numbered) c.loop-j.yielded c.loop-j.j-iterator c.loop-j.yielded_by
    c.next.result c.next.new.self c.in-None.is c.next.ensures.steps in
    record { dealt = c.loop-j.invariant.dealt ∙ ap (λ ps. shares_of c.args.workers ps) (sym (map-id c.loop-j.yielded) ∙ end.0) }
