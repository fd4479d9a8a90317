use Rattle.std.proofs.Common.{List, [], ap, subst, sym, arith}
use Rattle.std.specs.List.{AllZip}
use Rattle.std.proofs.lemmas.List.{take_all}
use Rattle.fw_order.specs.Order.{End}
use Rattle.fw_auditor.specs.Fitting.{IsHeadTold}
use Rattle.fw_auditor.specs.Private.{ends_in}
use Rattle.fw_auditor.specs.declared.options.HeadLog.{HeadLog}
use Rattle.fw_auditor.proofs.Ending.{counted_head}
use Rattle.fw_auditor.proofs.heads.tell_each.Goals as goal

pub loop-at-init : goal.loop-at-init
loop-at-init g c none =
    subst (λ (ends : List End). AllZip (IsHeadTold c.args.asked.now c.args.given.now.books.books.items) [] ends) (sym (ap ends_in c.new-heads.ensures.ends)) tt

pub loop-at-preserved : goal.loop-at-preserved
loop-at-preserved g c =
    counted_head c.args.asked.now c.args.given.now.books.books.items c.args.logs.now c.loop-at.at _ c.in_ok-verdict.verdict c.loop-at.heads c.count.new.self
    (omega (arith, c.loop-at-test.true)) c.in_ok-verdict.ensures c.in_ok-count.ensures c.loop-at.invariant

pub returns : goal.returns
returns g c none =
    subst (λ (logs : List HeadLog). AllZip (IsHeadTold c.args.asked.now c.args.given.now.books.books.items) logs (ends_in c.loop-at.heads.ends.items))
    (take_all c.loop-at.at c.args.logs.now (omega (arith, c.loop-at-test.false))) (c.loop-at.invariant none)
