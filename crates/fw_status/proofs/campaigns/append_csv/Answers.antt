use Rattle.std.proofs.Common.{flat_map}
use Rattle.std.proofs.lemmas.Result.{on_ok_weaker}
use Rattle.std.specs.Prelude.{string_bytes}
use Rattle.fw_status.specs.Campaigns.{campaign_csv, campaign_headings}
use Rattle.fw_status.specs.declared.campaign.CampaignStatus.{CampaignStatus}
use Rattle.fw_status.proofs.Told.{onto}
use Rattle.fw_status.proofs.campaigns.append_csv.Goals as goal

pub returns : goal.returns
returns c =
    on_ok_weaker c.append_csv_lines.result
    (λ it. onto (string_bytes c.args.text.now) (string_bytes c.push_str.new.self) (string_bytes c.append_csv_lines.new.text) campaign_headings
    (flat_map (λ (campaign : CampaignStatus). campaign_csv campaign) c.args.campaigns.now) c.in_ok-push_str.ensures.bytes it)
    c.append_csv_lines.ensures
