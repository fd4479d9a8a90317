use Rattle.std.proofs.Common.{sym, subst}
use Rattle.fw_shared.specs.Acts.{RowsTick}
use Rattle.fw_shared.specs.declared.acts.Shard.{Shard}
use Rattle.fw_shared.proofs.acts.Shard.tick_under.Goals as goal

pub returns-clause-step : goal.returns-clause-step
returns-clause-step c =
    let act = c.in_ok-act.act in
    let book = c.args.book.now in
    let width = c.args.width in
    let meter = c.args.meter in
    let left = subst (λ (s : Shard). RowsTick book width meter c.deref_mut.result.now.rows.items act.sent s.rows.items) (sym c.in_ok-act.ensures.left) c.in_ok-act.ensures.step in
    subst (λ (s : Shard). RowsTick book width meter s.rows.items act.sent act.left.rows.items) c.deref_mut.ensures.value left
