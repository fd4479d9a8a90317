use Rattle.std.proofs.Common.{arith}
use Rattle.std.specs.Prelude.{string_bytes}
use Rattle.fw_status.specs.Page.{IsCampaignHtml}
use Rattle.fw_status.proofs.Told.{all_told, none_told, told_next}
use Rattle.fw_status.proofs.page.append_campaigns.Goals as goal

pub loop-campaign-init : goal.loop-campaign-init
loop-campaign-init c = none_told IsCampaignHtml (string_bytes c.args.text.now)

pub loop-campaign-preserved : goal.loop-campaign-preserved
loop-campaign-preserved c =
    told_next IsCampaignHtml c.args.campaigns.now c.loop-campaign.campaign-index c.campaign-item.result (string_bytes c.args.text.now)
    (string_bytes c.loop-campaign.text) (string_bytes c.append_campaign.new.text) (omega (arith, c.loop-campaign-test.true)) c.campaign-item.is
    c.loop-campaign.invariant c.in_ok-append_campaign.ensures

pub returns : goal.returns
returns c =
    all_told IsCampaignHtml c.args.campaigns.now c.loop-campaign.campaign-index (string_bytes c.args.text.now) (string_bytes c.loop-campaign.text)
    (omega (arith, c.loop-campaign-test.false)) c.loop-campaign.invariant
