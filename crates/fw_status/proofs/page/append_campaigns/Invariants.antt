use Rattle.std.proofs.Common.{take}
use Rattle.std.specs.Prelude.{string_bytes}
use Rattle.fw_status.specs.Page.{IsCampaignHtml}
use Rattle.fw_status.proofs.Told.{Behind}
use Rattle.fw_status.proofs.page.append_campaigns.Given as goal

abbrev pub invariant-loop-campaign : goal.invariant-loop-campaign
invariant-loop-campaign l = Behind IsCampaignHtml (take l.campaign-index l.campaigns) (string_bytes l.initial.text) (string_bytes l.text)
