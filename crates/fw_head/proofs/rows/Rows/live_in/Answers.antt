use Rattle.std.proofs.Common.{◌≡◌, ℕ, nat_eq, List, ◌∷◌, ◌++◌, sym, ap, subst, ◌∙◌}
use Rattle.std.specs.List.{IsDistinct}
use Rattle.std.specs.Map.{keys_of}
use Rattle.fw_book.specs.declared.row.Row as book_row
use Rattle.fw_book.specs.Contents.{Offered}
use Rattle.fw_head.specs.Private.{live_meters, live_rows}
use Rattle.fw_head.proofs.Reopened.{next_once}
use Rattle.fw_head.proofs.rows.Rows.live_in.Goals as goal

pub add_live-requires : goal.add_live-requires
add_live-requires c =
    let es = c.loop-serial.live.rows.entries in
    let head = c.args.book.now.head in
    let entry : ℕ × Offered = (c.in-Some.serial.now, c.in-Some.offer.now) in
    let rest : List (ℕ × Offered) = c.next.new.self in
    let next : c.loop-serial.serial-iterator ≡ entry ∷ rest = search (c.in-Some.ensures.steps) in
    let whole = ap (λ (cs : List (ℕ × Offered)). es ++ live_rows head cs) (sym next) ∙ c.loop-serial.invariant.whole in
    let P : List book_row.Row → Type 0 = λ rows. IsDistinct nat_eq (keys_of es ++ live_meters rows) in
    record { once = subst P (sym c.rows.ensures) (next_once c.args.book.now es entry rest c.head-head.ensures.book whole) }
