use Rattle.std.proofs.Common.{◌≡◌, ◌+◌, ◌<◌, nat_eq, [], ◌∷◌, ◌++◌, drop, length, None, sym, ap, ◌∙◌, arith}
use Rattle.std.proofs.lemmas.List.{drop_more}
use Rattle.indexmap.specs.IndexMap.{insert_entry}
use Rattle.indexmap.proofs.CallerLemmas.{insert_entry-new}
use Rattle.fw_head.specs.Row.{Row, new_row}
use Rattle.fw_head.specs.Head.{row_of}
use Rattle.fw_head.proofs.NewRows.{absent, rows_more, once_more, fewer_left}
use Rattle.fw_head.proofs.rows.Rows.add.Goals as goal

pub loop-meter-preserved : goal.loop-meter-preserved
loop-meter-preserved c =
    let meters = c.args.meters.now in
    let i = c.loop-meter.meter-index in
    let meter = c.meter-item.result in
    let rows = c.loop-meter.self.rows.entries in
    let new = c.insert.new.self.entries in
    let so_far = c.loop-meter.invariant in
    let inside : i < length meters = omega (arith, c.loop-meter-test.true) in
    let next : drop i meters ≡ meter ∷ drop (i + 1) meters = drop_more meters i meter inside ∙ ap (λ m. m ∷ drop (i + 1) meters) (sym c.meter-item.is) in
    let none : row_of rows meter ≡ None = absent rows meter (drop i meters) (drop (i + 1) meters) next so_far.1 in
    let added : new ≡ rows ++ (meter, new_row meter c.args.name c.args.size) ∷ [] =
    c.in-Ok.ensures.entries
    ∙ ap (λ k. insert_entry nat_eq rows k c.new-row.result) c.number.ensures
    ∙ ap (λ (r : Row). insert_entry nat_eq rows meter r) c.new-row.ensures
    ∙ insert_entry-new nat_eq c.loop-meter.self.rows meter (new_row meter c.args.name c.args.size) none in (
      rows_more rows new c.args.name c.args.size meter (drop i meters) (drop (i + 1) meters) _ so_far.0 next added,
      once_more rows new (new_row meter c.args.name c.args.size) meter (drop i meters) (drop (i + 1) meters) next added so_far.1,
      fewer_left meter (drop i meters) (drop (i + 1) meters) _ _ next so_far.2 c.insert.ensures.spare,
    )
