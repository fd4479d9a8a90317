use Rattle.std.proofs.Common.{refl, sym, ap, subst, ◌∙◌}
use Rattle.fw_head.specs.Head.{Rows, AreRowsOf, renewed, asking}
use Rattle.fw_head.proofs.Reopened.{are_rows, all_new}
use Rattle.fw_head.proofs.head.HeadCore.of_book.Goals as goal

pub invariant_of-result : goal.invariant_of-result
invariant_of-result c =
    let P : Rows → Type 0 = λ rows. AreRowsOf c.args.book rows in
    subst P (sym c.in_ok-rows.ensures.rows) (are_rows c.args.book c.live_in.ensures.is_book)

pub returns-clause-begun : goal.returns-clause-begun
returns-clause-begun c =
    let P : Rows → Type 0 = λ rows. AreRowsOf c.args.book rows in
    record {
      book_is = refl;
      width_is = refl;
      live = subst P (sym c.in_ok-rows.ensures.rows) (are_rows c.args.book c.live_in.ensures.is_book);
      new = ap (λ (rows : Rows). asking (renewed rows)) c.in_ok-rows.ensures.rows ∙ all_new c.args.book.head c.args.book.campaigns ∙ sym c.in_ok-rows.ensures.rows;
    }
