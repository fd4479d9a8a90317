use Rattle.std.proofs.Common.{ap, ◌∙◌}
use Rattle.fw_names.specs.Name.{Campaign}
use Rattle.fw_book.specs.Changes.{cancelled}
use Rattle.fw_head.proofs.Cancelling.{head_cancelled_by}
use Rattle.fw_head.proofs.head.HeadCore.cancel.Goals as goal

pub invariant_of-self-2 : goal.invariant_of-self-2
invariant_of-self-2 c =
    let at_serial = ap (λ (x : Campaign). cancelled c.self.inside.book x.serial) c.campaign-campaign.ensures in
    head_cancelled_by c.states_follow.ensures c.images_stay.ensures c.self.inside.book c.cancel.new.self c.self.inside.width c.self.inside.rows.rows.entries c.cancel-2.new.self.rows.entries c.args.serial (c.in_ok-cancel.ensures.cancelled ∙ at_serial) c.cancel-2.ensures c.self.invariant
