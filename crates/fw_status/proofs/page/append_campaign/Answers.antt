use Rattle.std.proofs.lemmas.Result.{on_ok_weaker}
use Rattle.std.specs.Prelude.{codes, string_bytes}
use Rattle.fw_status.specs.Page.{bar_html, offer_html}
use Rattle.fw_status.proofs.Told.{around_time}
use Rattle.fw_status.proofs.page.append_campaign.Goals as goal

pub returns : goal.returns
returns c =
    on_ok_weaker c.append_bar.result
    (λ it. let all = around_time (codes ", opened ") c.args.campaign.now.opened (string_bytes c.args.text.now) (string_bytes c.append_offer.new.text)
    (string_bytes c.append_time_if.new.text) (string_bytes c.append_bar.new.text) (offer_html c.args.campaign.now) (bar_html c.args.campaign.now)
    c.in_ok-append_offer.ensures c.in_ok-append_time_if.ensures it in
    (all.0, (all.1, all.2, all.3), all.4))
    c.append_bar.ensures
