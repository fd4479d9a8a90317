use Rattle.std.proofs.Common.{◌≡◌, nat_eq, List, sym, ap, subst, ◌∙◌}
use Rattle.std.specs.List.{AllByRecursion, IsDistinct}
use Rattle.std.specs.Map.{keys_of, values_of}
use Rattle.fw_book.specs.Contents.{Contents}
use Rattle.fw_head.specs.Row.{Row}
use Rattle.fw_head.specs.Head.{Head, Rows}
use Rattle.fw_head.specs.Parts.{by_meter, still_live, with_ends}
use Rattle.fw_head.specs.Private.{IsOfBook}
use Rattle.fw_head.proofs.ByMeter.{rows_from, once_from}
use Rattle.fw_head.proofs.Joined.{joined_by, values_by_meter}
use Rattle.fw_head.proofs.head.HeadCore.put_rows.Goals as goal

pub mark_ended-requires-clause-of_book : goal.mark_ended-requires-clause-of_book
mark_ended-requires-clause-of_book c =
    let rows = c.args.rows.items in
    let given : values_of c.in_ok-rows.rows.rows.entries ≡ rows = ap (λ (es : Rows). values_of es) c.in_ok-rows.ensures.rows ∙ values_by_meter rows in
    let P : List Row → Type 0 = λ rs. AllByRecursion (IsOfBook c.args.book) rs in
    subst P (sym given) (rows_from c.args.book rows c.in_ok-rows.ensures.live)

pub mark_ended-requires-clause-once : goal.mark_ended-requires-clause-once
mark_ended-requires-clause-once c =
    let rows = c.args.rows.items in
    let given : values_of c.in_ok-rows.rows.rows.entries ≡ rows = ap (λ (es : Rows). values_of es) c.in_ok-rows.ensures.rows ∙ values_by_meter rows in
    let P : List Row → Type 0 = λ rs. IsDistinct nat_eq (keys_of (by_meter rs)) in
    subst P (sym given) (once_from c.args.book rows c.in_ok-rows.ensures.live)

pub invariant_of-result : goal.invariant_of-result
invariant_of-result c =
    let rows = c.args.rows.items in
    let given : values_of c.in_ok-rows.rows.rows.entries ≡ rows = ap (λ (es : Rows). values_of es) c.in_ok-rows.ensures.rows ∙ values_by_meter rows in
    joined_by c.states_follow.ensures c.images_stay.ensures c.args.book c.mark_ended.new.book rows c.keep_live.new.self.rows.entries c.in_ok-rows.ensures.live
    (c.mark_ended.ensures ∙ ap (λ (rs : List Row). with_ends c.args.book rs) given) (c.keep_live.ensures ∙ ap (λ (es : Rows). still_live es) c.in_ok-rows.ensures.rows)

pub returns-clause-joined : goal.returns-clause-joined
returns-clause-joined c =
    let rows = c.args.rows.items in
    let given : values_of c.in_ok-rows.rows.rows.entries ≡ rows = ap (λ (es : Rows). values_of es) c.in_ok-rows.ensures.rows ∙ values_by_meter rows in
    let marks = c.mark_ended.ensures ∙ ap (λ (rs : List Row). with_ends c.args.book rs) given in
    let left = c.keep_live.ensures ∙ ap (λ (es : Rows). still_live es) c.in_ok-rows.ensures.rows in
    ap (λ (b : Contents). (let h : Head = record { book = b; width = c.args.width; rows = c.keep_live.new.self.rows.entries } in h)) marks
    ∙ ap (λ (es : Rows). (let h : Head = record { book = with_ends c.args.book rows; width = c.args.width; rows = es } in h)) left
