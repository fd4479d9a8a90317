use Rattle.std.proofs.Common.{◌≡◌, ◌++◌, take, flat_map}
use Rattle.std.specs.Prelude.{string_bytes}
use Rattle.fw_status.specs.declared.campaign.CampaignStatus.{CampaignStatus}
use Rattle.fw_events.specs.Metrics.{campaign_samples}
use Rattle.fw_events.proofs.metrics.append_campaigns.Given as goal

abbrev pub invariant-loop-campaign : goal.invariant-loop-campaign
invariant-loop-campaign l =
    string_bytes l.text
    ≡ string_bytes l.initial.text ++ flat_map (λ (campaign : CampaignStatus). campaign_samples l.head campaign) (take l.campaign-index l.campaigns)
