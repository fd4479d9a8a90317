use Rattle.std.proofs.Common.{◌≡◌, ◌∷◌, rules}
use Rattle.fw_head.proofs.Joined.{marked_more}
use Rattle.fw_head.proofs.rows.Rows.mark_ended.Goals as goal

pub loop-row-preserved : goal.loop-row-preserved
loop-row-preserved c =
    let so_far = c.loop-row.invariant in
    let next : c.loop-row.row-iterator ≡ c.in-Some.row.now ∷ c.next.new.self = search rules in
    marked_more c.states_follow.ensures c.images_stay.ensures c.loop-row.book c.mark_end.new.book c.in-Some.row.now c.loop-row.row-iterator c.next.new.self _ next c.mark_end.ensures so_far.0 so_far.1 so_far.2
