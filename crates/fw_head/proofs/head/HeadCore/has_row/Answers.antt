use Rattle.std.proofs.Common.{IsSomeAnd, sym, subst, ◌∙◌}
use Rattle.fw_head.specs.Phase.{IsLive}
use Rattle.fw_head.specs.Head.{Head, row_of}
use Rattle.fw_head.proofs.HasRow.{some_copied, live_row}
use Rattle.fw_head.proofs.head.HeadCore.has_row.Goals as goal

pub returns-clause-live : goal.returns-clause-live
returns-clause-live c has =
    let P : Head → Type 0 = λ h. IsSomeAnd (row_of h.rows c.args.meter) (λ row. IsLive row.stage) in
    let head : Head = record { book = c.self.inside.book; width = c.self.inside.width; rows = c.self.inside.rows.rows.entries } in
    subst P c.self.view_is (live_row head c.self.invariant c.args.meter (some_copied _ _ c.get.ensures (sym c.is_some.ensures ∙ has)))
