use Rattle.std.proofs.Common.{◌≡◌, ℕ, List, ◌∷◌, nat_eq}
use Rattle.std.specs.HashSet.{contains}
use Rattle.fw_book.specs.Contents.{Offered}
use Rattle.fw_plan.proofs.Campaigns.{unlisted_more}
use Rattle.fw_plan.proofs.absent.unlisted.Goals as goal

pub loop-serial-preserved : goal.loop-serial-preserved
loop-serial-preserved c =
    let entry : ℕ × Offered = (c.in-Some.serial.now, c.in-Some.offer.now) in
    let rest : List (ℕ × Offered) = c.next.new.self in
    let next : c.loop-serial.serial-iterator ≡ entry ∷ rest = search (c.in-Some.ensures.steps) in
    unlisted_more (λ meter. contains nat_eq c.in_ok-listed.listed meter) c.loop-serial.unlisted.items c.push_unlisted.new.unlisted.items
    c.in-Some.serial.now c.in-Some.offer.now c.rows.result.now c.loop-serial.serial-iterator rest c.args.book.now.campaigns next c.rows.ensures
    c.in_ok-push_unlisted.ensures c.loop-serial.invariant
