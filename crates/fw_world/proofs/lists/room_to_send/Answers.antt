use Rattle.std.proofs.Common.{◌≡◌, ℕ, false, [], length, Option, Some, None, is_some, arith, refl, sym, ◌∙◌}
use Rattle.std.specs.Option.{option_map_or}
use Rattle.fw_head.specs.Head.{Head, row_of, image_of, sends_to}
use Rattle.fw_head.specs.Row.{Row, sends}
use Rattle.fw_world.proofs.lists.room_to_send.Goals as goal

-- a meter without a live row is sent nothing
no_sends : (head : Head) (meter : ℕ) → is_some (row_of head.rows meter) ≡ false → length (sends_to head meter) ≡ 0
no_sends head meter none = go (row_of head.rows meter) none
  where
    go : (o : Option Row) → is_some o ≡ false → length (option_map_or (λ (row : Row). sends row (image_of head row) head.width) o []) ≡ 0
    go None e = refl
    go (Some row) e = absurd cc

pub returns-then-not-has_row-clause-room : goal.returns-then-not-has_row-clause-room
returns-then-not-has_row-clause-room c = λ few.
    let none = no_sends c.args.head.now c.args.meter (sym c.has_row.ensures.value ∙ c.if-not-has_row.true) in
    let within = c.args.sent.now.ok.1 in
    omega arith
