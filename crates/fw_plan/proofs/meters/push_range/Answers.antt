use Rattle.std.proofs.Common.{◌≡◌, ℕ, List, ◌∷◌}
use Rattle.fw_book.specs.Contents.{Offered}
use Rattle.fw_plan.proofs.Campaigns.{live_more}
use Rattle.fw_plan.proofs.meters.push_range.Goals as goal

pub loop-offer-preserved : goal.loop-offer-preserved
loop-offer-preserved c =
    let entry : ℕ × Offered = (c.in-Some.field-0-0.now, c.in-Some.offer.now) in
    let rest : List (ℕ × Offered) = c.next.new.self in
    let next : c.loop-offer.offer-iterator ≡ entry ∷ rest = search (c.in-Some.ensures.steps) in
    live_more c.args.first c.args.last c.loop-offer.meters.items c.push_live.new.meters.items _ c.in-Some.field-0-0.now c.in-Some.offer.now c.rows.result.now
    c.loop-offer.offer-iterator rest next c.rows.ensures c.in_ok-push_live.ensures c.loop-offer.invariant
