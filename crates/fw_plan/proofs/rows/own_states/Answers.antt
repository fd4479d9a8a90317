use Rattle.std.proofs.Common.{◌≡◌, ℕ, List, ◌∷◌, nat_eq, rules}
use Rattle.std.specs.HashMap.{get}
use Rattle.fw_book.specs.Contents.{Offered}
use Rattle.fw_plan.proofs.OwnStates.{begun, noted_more}
use Rattle.fw_plan.proofs.rows.own_states.Goals as goal

pub loop-serial-init : goal.loop-serial-init
loop-serial-init c = begun (λ m. get nat_eq c.new-states.result m) c.into_iter-serial-iterator.result c.args.book.now.campaigns (search rules) (λ m. search rules)

pub loop-serial-preserved : goal.loop-serial-preserved
loop-serial-preserved c =
    let entry : ℕ × Offered = (c.in-Some._serial.now, c.in-Some.offer.now) in
    let rest : List (ℕ × Offered) = c.next.new.self in
    let next : c.loop-serial._serial-iterator ≡ entry ∷ rest = search (c.in-Some.ensures.steps) in
    noted_more (λ m. get nat_eq c.loop-serial.states m) (λ m. get nat_eq c.note_rows.new.states m) c.rows.result.now c.in-Some.offer.now c.in-Some._serial.now
    c.loop-serial._serial-iterator rest c.args.book.now.campaigns next c.rows.ensures c.in_ok-note_rows.ensures c.loop-serial.invariant
