use Rattle.std.proofs.Common.{◌≡◌, nat_eq, List, [], ◌∷◌, ◌++◌, None, Some, sym, ap, ◌∙◌, rules}
use Rattle.std.specs.Vec.Iter.{into_iter_items}
use Rattle.indexmap.specs.IndexMap.{get}
use Rattle.indexmap.proofs.CallerLemmas.{insert_entry-new}
use Rattle.fw_head.specs.Row.{Row}
use Rattle.fw_head.specs.Head.{Rows, row_of}
use Rattle.fw_head.specs.Parts.{by_meter}
use Rattle.fw_head.proofs.NewRows.{fewer_left}
use Rattle.fw_head.proofs.ByMeter.{none_twice, gathered_more, gathered_twice}
use Rattle.fw_head.proofs.rows.Rows.gather.Goals as goal

pub loop-row-init : goal.loop-row-init
loop-row-init c =
    let items : into_iter_items c.into_iter-row-iterator.result ≡ c.args.rows.items = search rules in (
      ap (λ (es : Rows). es ++ by_meter (into_iter_items c.into_iter-row-iterator.result)) c.requires.none ∙ ap (λ (rs : List Row). by_meter rs) items,
      none_twice c.args.self.now.rows.entries c.requires.none,
      search rules,
      search rules,
    )

pub loop-row-preserved-in-Ok-None-3 : goal.loop-row-preserved-in-Ok-None-3
loop-row-preserved-in-Ok-None-3 c =
    let so_far = c.loop-row.invariant in
    let row = c.in-Some.row in
    let es = c.loop-row.self.rows.entries in
    let rest = into_iter_items c.loop-row.row-iterator in
    let others = into_iter_items c.next.new.self in
    let next : rest ≡ row ∷ others = search rules in
    let none : get nat_eq c.loop-row.self.rows c.number.result ≡ None = sym c.in-Ok-None.ensures.old ∙ c.in-Ok-None.field-0-is in
    let added : c.insert.new.self.entries ≡ es ++ (row.client.meter, row) ∷ [] =
    c.in-Ok-None.ensures.entries ∙ insert_entry-new nat_eq c.loop-row.self.rows c.number.result row none
    ∙ ap (λ k. (let all : Rows = es ++ (k, row) ∷ [] in all)) (c.number.ensures ∙ c.meter.ensures) in (
      gathered_more es c.insert.new.self.entries row rest others _ so_far.0 next added,
      c.insert.ensures.unique,
      search rules,
      fewer_left row rest others _ _ next so_far.3 c.insert.ensures.spare,
    )

pub returns-in-Ok-Some-clause-once : goal.returns-in-Ok-Some-clause-once
returns-in-Ok-Some-clause-once c =
    let so_far = c.loop-row.invariant in
    let row = c.in-Some.row in
    let es = c.loop-row.self.rows.entries in
    let rest = into_iter_items c.loop-row.row-iterator in
    let others = into_iter_items c.next.new.self in
    let next : rest ≡ row ∷ others = search rules in
    let there : row_of es row.client.meter ≡ Some c.in-Ok-Some.field-0-0 =
    ap (λ k. row_of es k) (sym (c.number.ensures ∙ c.meter.ensures)) ∙ sym c.in-Ok-Some.ensures.old ∙ c.in-Ok-Some.field-0-is in
    gathered_twice es row c.in-Ok-Some.field-0-0 rest others _ so_far.0 next there
