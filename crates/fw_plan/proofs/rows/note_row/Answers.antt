use Rattle.std.proofs.Common.{◌≡◌, ℕ, ◌∙◌, Option, Some, true, false, ap, cond, nat_eq}
use Rattle.std.specs.HashMap.{get}
use Rattle.fw_book.specs.declared.row.RowState.{RowState}
use Rattle.fw_plan.specs.Private.{is_live_state}
use Rattle.fw_plan.proofs.OwnStates.{kept, noted}
use Rattle.fw_plan.proofs.rows.note_row.Goals as goal

pub returns : goal.returns
returns c =
    let states = c.args.states.now in
    let dead : is_live_state (get nat_eq states c.args.row.meter) ≡ false = cc (c.is_live_at.ensures, c.number-meter.ensures, c.if-is_live_at.false) in
    noted c.args.row (λ m. get nat_eq states m) (λ m. get nat_eq c.insert.new.self m) dead
    (λ q. c.in_ok-insert.ensures.updates.0 q
    ∙ ap (λ (k : ℕ). cond {A = Option RowState} (nat_eq k q) (Some c.args.row.state) (get nat_eq states q)) c.number-meter.ensures)

pub returns-then-is_live_at : goal.returns-then-is_live_at
returns-then-is_live_at c =
    let states = c.args.states.now in
    let lives : is_live_state (get nat_eq states c.args.row.meter) ≡ true = cc (c.is_live_at.ensures, c.number-meter.ensures, c.if-is_live_at.true) in
    kept c.args.row (λ m. get nat_eq states m) lives
