use Rattle.std.proofs.Common.{nat_eq, ap, ◌∙◌}
use Rattle.indexmap.specs.IndexMap.{swap_remove_entry}
use Rattle.fw_head.proofs.rows.Rows.end.Goals as goal

pub returns : goal.returns
returns c = c.swap_remove-row.ensures.entries ∙ ap (λ k. swap_remove_entry (nat_eq k) c.args.self.now.rows.entries) c.number.ensures
