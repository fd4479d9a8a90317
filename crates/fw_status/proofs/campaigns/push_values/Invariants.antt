use Rattle.std.proofs.Common.{◌≡◌, ◌++◌, map, take}
use Rattle.serde_json.specs.View.{view}
use Rattle.fw_status.specs.Campaigns.{campaign_data}
use Rattle.fw_status.specs.declared.campaign.CampaignStatus.{CampaignStatus}
use Rattle.fw_status.proofs.campaigns.push_values.Given as goal

abbrev pub invariant-loop-campaign : goal.invariant-loop-campaign
invariant-loop-campaign l =
    map view l.values.items ≡ map view l.initial.values.items ++ map (λ (campaign : CampaignStatus). campaign_data campaign) (take l.campaign-index l.campaigns)
