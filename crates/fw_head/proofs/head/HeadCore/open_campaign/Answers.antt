use Rattle.std.proofs.Common.{nat_eq, ◌++◌, length, sym, ap, subst, ◌∙◌}
use Rattle.std.specs.List.{IsDistinct}
use Rattle.std.specs.Map.{keys_of}
use Rattle.fw_names.specs.Name.{Name}
use Rattle.fw_head.specs.Head.{Rows, new_rows}
use Rattle.fw_head.proofs.Openings.{all_once, head_opened_by}
use Rattle.fw_head.proofs.head.HeadCore.open_campaign.Goals as goal

pub add-requires-clause-once : goal.add-requires-clause-once
add-requires-clause-once c =
    let book = c.self.inside.book in
    let campaign = c.campaign-campaign.result in
    let meters = c.args.meters.now in
    let o = (c.admitted_opens.ensures book campaign c.args.image.now meters).0 c.in_ok-name.ensures.admitted in
    let P : Rows → Type 0 = λ rs. IsDistinct nat_eq (keys_of rs ++ meters) in
    subst P (sym c.reserve.ensures.same) (all_once book c.self.inside.width c.self.inside.rows.rows.entries campaign c.args.image.now meters c.self.invariant o)

pub invariant_of-self-2 : goal.invariant_of-self-2
invariant_of-self-2 c =
    let book = c.self.inside.book in
    let campaign = c.campaign-campaign.result in
    let image = c.args.image.now in
    let meters = c.args.meters.now in
    let rows = c.self.inside.rows.rows.entries in
    let o = (c.admitted_opens.ensures book campaign image meters).0 c.in_ok-name.ensures.admitted in
    let added = c.add.ensures
    ∙ ap (λ (rs : Rows). rs ++ new_rows c.in_ok-name.name (length image) meters) c.reserve.ensures.same
    ∙ ap (λ (n : Name). rows ++ new_rows n (length image) meters) c.in_ok-name.ensures.name in
    head_opened_by c.states_follow.ensures c.opening_offers.ensures book c.open_campaign.new.self c.self.inside.width rows c.add.new.self.rows.entries campaign c.args.release image meters o c.in_ok-name.ensures.opened added c.self.invariant
