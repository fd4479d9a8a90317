use Rattle.std.proofs.Common.{List, [], ◌++◌, unwrap_or, sym, ap, ◌∙◌}
use Rattle.fw_names.specs.Name.{Name, Campaign}
use Rattle.fw_book.specs.Contents.{image_in}
use Rattle.fw_head.specs.Row.{bytes_of, sends}
use Rattle.fw_world.specs.State.{sent_to}
use Rattle.fw_world.specs.World.{Datagram}
use Rattle.fw_shared.proofs.Rows.{ticks}
use Rattle.fw_shared.proofs.acts.Shard.tick.Goals as goal

pub returns-clause-step : goal.returns-clause-step
returns-clause-step c =
    let book = c.args.book.now in
    let meter = c.args.meter in
    let ok = c.in_ok-sends.ensures in
    let of = ap (λ (n : Name). n.campaign) (c.image_of.view_is ∙ c.name.ensures) in
    let image = c.image_of-image.ensures ∙ ap (λ (campaign : Campaign). unwrap_or (image_in book campaign) []) of in
    let sent = c.send.ensures ∙ ap (λ (room : List Datagram). room ++ sent_to c.head-head.result meter (bytes_of c.in_ok-sends.sends.items)) c.requires
    ∙ ap (sent_to c.head-head.result meter) ok.sent ∙ ap (λ head. sent_to head meter (sends c.index_mut-row.result.now c.image_of-image.result.now c.args.width)) c.head-head.ensures.value in
    ticks book c.args.width meter c.args.self.now.rows.items c.in-Some.at c.index_mut-row.result.now c.tick.new.self c.image_of-image.result.now c.send.new.room
    (sym c.place.ensures ∙ c.in-Some.is) c.index_mut-row.ensures.value image sent ok.ticked
