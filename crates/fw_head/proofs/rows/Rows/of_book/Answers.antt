use Rattle.std.proofs.Common.{List, sym, ap, subst, ◌∙◌}
use Rattle.std.specs.List.{AllByRecursion}
use Rattle.std.proofs.lemmas.Bool.{false≢true}
use Rattle.fw_head.specs.Row.{Row}
use Rattle.fw_head.specs.Head.{Rows}
use Rattle.fw_head.specs.Parts.{by_meter}
use Rattle.fw_head.specs.Private.{IsOfBook, has_each}
use Rattle.fw_head.proofs.ByMeter.{by_true, by_false, to_rows, rows_from, once_from, each_from, has_from, has_each_from}
use Rattle.fw_head.proofs.rows.Rows.of_book.Goals as goal

pub returns-then-not-are_of_book-clause-refused : goal.returns-then-not-are_of_book-clause-refused
returns-then-not-are_of_book-clause-refused c are =
    let P : List Row → Type 0 = λ rs. AllByRecursion (IsOfBook c.args.book.now) rs in
    by_false _ _ _ c.are_of_book.ensures c.if-not-are_of_book.true (subst P (sym c.deref-2.ensures.value) (rows_from c.args.book.now c.args.rows.items are))

pub returns-then-not-gather-clause-refused : goal.returns-then-not-gather-clause-refused
returns-then-not-gather-clause-refused c are =
    by_false _ _ _ c.gather.ensures.once c.if-not-gather.true (once_from c.args.book.now c.args.rows.items are)

pub returns-then-not-has_each-clause-refused : goal.returns-then-not-has_each-clause-refused
returns-then-not-has_each-clause-refused c are =
    let book = c.args.book.now in
    let rows = c.args.rows.items in
    let all = c.gather.ensures.all c.if-not-gather.false in
    false≢true (sym c.if-not-has_each.true ∙ c.has_each.ensures ∙ ap (λ (es : Rows). has_each es book.campaigns) all
    ∙ has_from book (by_meter rows) c.head-head.ensures.book (has_each_from book rows are))

pub returns-clause-live : goal.returns-clause-live
returns-clause-live c =
    let book = c.args.book.now in
    let rows = c.args.rows.items in
    let P : List Row → Type 0 = λ rs. AllByRecursion (IsOfBook book) rs in
    let of = subst P c.deref-2.ensures.value (by_true _ _ _ c.are_of_book.ensures c.if-not-are_of_book.false) in
    let gathered = c.if-not-gather.false in
    let has = ap (λ (es : Rows). has_each es book.campaigns) (sym (c.gather.ensures.all gathered)) ∙ sym c.has_each.ensures ∙ c.if-not-has_each.false in
    to_rows book rows of (by_true _ _ _ c.gather.ensures.once gathered) (each_from book rows of has)
