use Rattle.std.proofs.Common.{◌∙◌, List, ℕ, ap}
use Rattle.fw_head.specs.Head.{Head}
use Rattle.fw_plan.specs.Openings.{unlisted}
use Rattle.fw_host.specs.Openings.{listed_meters}
use Rattle.fw_cli.proofs.going_on.tell_unlisted.Goals as goal

pub returns : goal.returns
returns g c = record {
  rows = c.in_ok-rows.ensures
      ∙ ap (λ (meters : List ℕ). unlisted meters c.view.result.book.now) (c.deref.ensures.value ∙ c.in_ok-meters.ensures ∙ ap listed_meters c.meters.ensures.meters)
      ∙ ap (unlisted (listed_meters c.args.list.now)) (c.view.ensures.book ∙ ap (λ (h : Head). h.book) c.head.ensures);
}
