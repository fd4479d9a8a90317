use Rattle.std.proofs.Common.{◌≡◌, ◌+◌, ◌<◌, true, None, ◌∷◌, drop, length, sym, ap, ◌∙◌, arith}
use Rattle.std.proofs.lemmas.List.{drop_more}
use Rattle.fw_book.specs.Rows.{is_live}
use Rattle.fw_head.specs.Head.{row_of}
use Rattle.fw_head.specs.Private.{live_meters}
use Rattle.fw_head.proofs.NewRows.{absent}
use Rattle.fw_head.proofs.Reopened.{meters_live}
use Rattle.fw_head.proofs.rows.Rows.add_live.Goals as goal

pub add_row-requires : goal.add_row-requires
add_row-requires c =
    let rows = c.args.rows.now in
    let i = c.loop-row.row-index in
    let row = c.row-item.result in
    let es = c.loop-row.self.rows.entries in
    let rest = live_meters (drop (i + 1) rows) in
    let inside : i < length rows = omega (arith, c.loop-row-test.true) in
    let next : drop i rows ≡ row ∷ drop (i + 1) rows = drop_more rows i row inside ∙ ap (λ r. r ∷ drop (i + 1) rows) (sym c.row-item.is) in
    let live : is_live row.state ≡ true = search (c.if-not-is_live.false, c.is_live.ensures) in
    let meters : live_meters (drop i rows) ≡ row.meter ∷ rest = ap (λ rs. live_meters rs) next ∙ meters_live row (drop (i + 1) rows) live in
    let none : row_of es row.meter ≡ None = absent es row.meter (live_meters (drop i rows)) rest meters c.loop-row.invariant.1 in
    record {
      none = ap (λ k. row_of es k) (search (c.reopened.ensures)) ∙ none;
    }
