use Rattle.std.proofs.Common.{◌++◌, ◌∙◌, ◌+◌, arith, ap, sym, take}
use Rattle.std.specs.Prelude.{flat_map, string_bytes}
use Rattle.fw_status.specs.declared.campaign.CampaignStatus.{CampaignStatus}
use Rattle.fw_events.specs.Metrics.{campaign_samples}
use Rattle.fw_events.proofs.Parts.{flat_more, onto}
use Rattle.fw_events.proofs.metrics.append_campaigns.Goals as goal

pub loop-campaign-preserved : goal.loop-campaign-preserved
loop-campaign-preserved c =
    let samples = λ (campaign : CampaignStatus). campaign_samples c.args.head campaign in
    let first = string_bytes c.args.text.now in
    let so_far = flat_map samples (take c.loop-campaign.campaign-index c.args.campaigns.now) in
    onto first (string_bytes c.loop-campaign.text) (string_bytes c.append_campaign.new.text) so_far (samples c.campaign-item.result)
    c.loop-campaign.invariant c.in_ok-append_campaign.ensures
    ∙ ap (λ t. first ++ t)
    (sym (flat_more samples c.args.campaigns.now c.loop-campaign.campaign-index c.campaign-item.result (omega (arith, c.loop-campaign-test.true)) c.campaign-item.is))
