-- Public vocabulary: what a book tells, in each form.
use Rattle.std.specs.Prelude.{◌≡◌, ℕ, List}
use Rattle.fw_rows.specs.Noted.{Noted}
use Rattle.fw_status.specs.Campaigns.{AreLines, AreTold, campaigns_csv, campaigns_json}
use Rattle.fw_status.specs.Page.{IsCampaignsPage, IsPage}
use Rattle.fw_status.specs.Rows.{rows_csv, rows_json, rows_table}
use Rattle.fw_status.specs.declared.campaign.CampaignStatus.{CampaignStatus}
use Rattle.fw_status.specs.declared.status.Listing.{Listing}
use Rattle.fw_status.specs.declared.status.Listing.TheVariants as listing
use Rattle.fw_status.specs.declared.status.StatusForm.{StatusForm}
use Rattle.fw_status.specs.declared.status.StatusForm.TheVariants as form

-- each row of a book
abbrev pub TellsRows : StatusForm → List CampaignStatus → List Noted → List ℕ → Type 0
TellsRows form.Table campaigns rows text = text ≡ rows_table rows
TellsRows form.Csv campaigns rows text = text ≡ rows_csv rows
TellsRows form.Json campaigns rows text = text ≡ rows_json rows
TellsRows form.Html campaigns rows text = IsPage campaigns rows text

-- each campaign of a book
abbrev pub TellsCampaigns : StatusForm → List CampaignStatus → List ℕ → Type 0
TellsCampaigns form.Table campaigns text = AreTold AreLines campaigns text
TellsCampaigns form.Csv campaigns text = text ≡ campaigns_csv campaigns
TellsCampaigns form.Json campaigns text = text ≡ campaigns_json campaigns
TellsCampaigns form.Html campaigns text = IsCampaignsPage campaigns text

-- one of both, as asked for
abbrev pub Tells : StatusForm → Listing → List CampaignStatus → List Noted → List ℕ → Type 0
Tells form listing.Rows campaigns rows text = TellsRows form campaigns rows text
Tells form listing.Campaigns campaigns rows text = TellsCampaigns form campaigns text
