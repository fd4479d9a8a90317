use Rattle.std.proofs.Common.{nat_eq, ap, ◌∙◌}
use Rattle.indexmap.specs.IndexMap.{insert_entry}
use Rattle.indexmap.proofs.CallerLemmas.{insert_entry-new}
use Rattle.fw_head.proofs.rows.Rows.add_row.Goals as goal

pub returns-in-Ok : goal.returns-in-Ok
returns-in-Ok c =
    let es = c.args.self.now.rows.entries in
    c.in-Ok.ensures.entries
    ∙ ap (λ k. insert_entry nat_eq es k c.args.row) (c.number.ensures ∙ c.meter.ensures)
    ∙ insert_entry-new nat_eq c.args.self.now.rows c.args.row.client.meter c.args.row c.requires.none
