use Rattle.std.proofs.Common.{sym, subst}
use Rattle.fw_shared.specs.Acts.{RowsHear}
use Rattle.fw_shared.specs.declared.acts.Shard.{Shard}
use Rattle.fw_shared.proofs.acts.Shard.hear_under.Goals as goal

pub returns-clause-step : goal.returns-clause-step
returns-clause-step c =
    let act = c.in_ok-act.act in
    let told = c.in_ok-act.told in
    let datagram = c.args.datagram.now in
    let left = subst (λ (s : Shard). RowsHear c.deref_mut.result.now.rows.items datagram told s.rows.items) (sym c.in_ok-act.ensures.left) c.in_ok-act.ensures.step in
    subst (λ (s : Shard). RowsHear s.rows.items datagram told act.left.rows.items) c.deref_mut.ensures.value left
