use Rattle.std.proofs.Common.{sym, ap, ◌∙◌}
use Rattle.fw_names.specs.Name.{Name}
use Rattle.fw_world.specs.World.{Datagram}
use Rattle.fw_shared.proofs.Rows.{hears}
use Rattle.fw_shared.proofs.acts.Shard.hear.Goals as goal

pub returns-clause-step : goal.returns-clause-step
returns-clause-step c =
    let from = ap (λ (d : Datagram). d.meter) c.datagram.view_is in
    let bytes = c.deref.ensures.value ∙ ap (λ (d : Datagram). d.bytes) c.datagram.view_is in
    let heard = c.in_ok-news.ensures.heard in
    let of = ap (λ (n : Name). n.campaign) (c.campaign.view_is ∙ c.name.ensures) in
    hears c.args.datagram.now _ _ from bytes c.args.self.now.rows.items c.in-Some.at c.index_mut-row.result.now c.heard.new.row _ _ _
    (sym c.place.ensures ∙ c.in-Some.is) c.index_mut-row.ensures.value of heard.1 heard.2
