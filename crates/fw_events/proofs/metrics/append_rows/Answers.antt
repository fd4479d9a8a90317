use Rattle.std.proofs.lemmas.Result.{on_ok_weaker}
use Rattle.std.specs.Prelude.{codes, flat_map, string_bytes}
use Rattle.fw_status.specs.declared.campaign.CampaignStatus.{CampaignStatus}
use Rattle.fw_events.specs.Metrics.{campaign_samples, heading}
use Rattle.fw_events.proofs.Parts.{onto}
use Rattle.fw_events.proofs.metrics.append_rows.Goals as goal

pub returns : goal.returns
returns c =
    on_ok_weaker c.append_campaigns.result
    (λ it. onto (string_bytes c.args.text.now) (string_bytes c.append_heading.new.text) (string_bytes c.append_campaigns.new.text)
    (heading (codes "dlmsfw_rows") (codes "Rows of a campaign by state.") (codes "gauge")) (flat_map (λ (campaign : CampaignStatus). campaign_samples c.args.head campaign) c.args.campaigns.now) c.in_ok-append_heading.ensures it)
    c.append_campaigns.ensures
