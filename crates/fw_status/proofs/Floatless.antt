-- What is told in JSON has no float, so that its text is known.
use Rattle.std.proofs.Common.{◌≡◌, ℕ, List, [], ◌∷◌, map, false, Option, None, Some, refl}
use Rattle.serde_json.specs.View.{items_of}
use Rattle.serde_json.specs.Written.{has_float, items_have_float}
use Rattle.fw_book.specs.declared.notes.Reason.{Reason}
use Rattle.fw_rows.specs.Noted.{Noted, end_time, noted_data, reason_data, reason_of_end, time_data}
use Rattle.fw_status.specs.Campaigns.{campaign_data, campaigns_data}
use Rattle.fw_status.specs.Rows.{rows_data}
use Rattle.fw_status.specs.declared.campaign.CampaignStatus.{CampaignStatus}

time_floatless : (time : Option ℕ) → has_float (time_data time) ≡ false
time_floatless None = refl
time_floatless (Some time) = refl

reason_floatless : (reason : Option Reason) → has_float (reason_data reason) ≡ false
reason_floatless None = refl
reason_floatless (Some why) = refl

row_floatless : (row : Noted) → has_float (noted_data row) ≡ false
row_floatless row = simp (time_floatless (end_time row.end), time_floatless row.opened, reason_floatless (reason_of_end row.end))

rows_have_none : (rows : List Noted) → items_have_float (items_of (map (λ (row : Noted). noted_data row) rows)) ≡ false
rows_have_none [] = refl
rows_have_none (row ∷ rows) = simp (row_floatless row, rows_have_none rows)

pub rows_floatless : (rows : List Noted) → has_float (rows_data rows) ≡ false
rows_floatless rows = simp (rows_have_none rows)

campaign_floatless : (campaign : CampaignStatus) → has_float (campaign_data campaign) ≡ false
campaign_floatless campaign = simp (time_floatless campaign.opened)

campaigns_have_none : (campaigns : List CampaignStatus)
    → items_have_float (items_of (map (λ (campaign : CampaignStatus). campaign_data campaign) campaigns)) ≡ false
campaigns_have_none [] = refl
campaigns_have_none (campaign ∷ campaigns) = simp (campaign_floatless campaign, campaigns_have_none campaigns)

pub campaigns_floatless : (campaigns : List CampaignStatus) → has_float (campaigns_data campaigns) ≡ false
campaigns_floatless campaigns = simp (campaigns_have_none campaigns)
