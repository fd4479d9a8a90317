use Rattle.std.proofs.Common.{◌≡◌, sym, ◌∙◌}
use Rattle.fw_air.proofs.Alike.{same_head_iff}
use Rattle.fw_air.proofs.sameness.is_same_head.Goals as goal

pub returns-then-is_same_book : goal.returns-then-is_same_book
returns-then-is_same_book c =
    let one = c.args.one.now in
    let other = c.args.other.now in
    let book : one.book ≡ other.book = sym c.view-one.ensures.book ∙ c.is_same_book.ensures.0 c.if-is_same_book.true ∙ c.view-other.ensures.book in
    same_head_iff one other c.view-one.ensures.live c.view-other.ensures.live c.are_in_phases.result c.as_slice.result.now c.as_slice-then-is_same_book.result.now book
    (c.as_slice.ensures ∙ c.view-one.ensures.rows) (c.as_slice-then-is_same_book.ensures ∙ c.view-other.ensures.rows) c.are_in_phases.ensures
