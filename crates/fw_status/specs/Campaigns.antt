-- Public vocabulary: what a book tells of each campaign: what it offers, when it was opened, and how many of its rows are in which state; as
-- lines, as comma-separated values (RFC 4180) and as JSON (RFC 8259). A time is in seconds since 1970 began (UTC).
use Rattle.std.specs.Prelude.{◌≡◌, ℕ, Bool, true, false, List, [], ◌∷◌, ◌++◌, length, filter, map, flat_map, Option, None, Some, codes, decimal}
use Rattle.hex.specs.Hex.{encode_lower}
use Rattle.serde_json.specs.Data.{Data, array, string, object, member, no_members}
use Rattle.serde_json.specs.View.{items_of}
use Rattle.serde_json.specs.Written.{compact_text}
use Rattle.fw_names.specs.Name.{Campaign, name_of}
use Rattle.fw_book.specs.declared.row.Row.{Row}
use Rattle.fw_book.specs.declared.row.RowState.{RowState}
use Rattle.fw_book.specs.declared.row.RowState.TheVariants as state
use Rattle.fw_book.specs.Contents.{Contents, Offered}
use Rattle.fw_book.specs.Notes.{Known, opened_at}
use Rattle.fw_calendar.specs.Times.{IsSecond}
use Rattle.fw_rows.specs.Json.{number_data}
use Rattle.fw_rows.specs.Noted.{time_data, time_field}
use Rattle.fw_status.specs.declared.campaign.CampaignStatus.{CampaignStatus}

-- ---- how many rows are in which state

-- whether a row is in this state
abbrev pub is_in : RowState → RowState → Bool
is_in state.Live state.Live = true
is_in state.Done state.Done = true
is_in state.Failed state.Failed = true
is_in state.Cancelled state.Cancelled = true
is_in wanted other = false

-- how many rows of a campaign are
abbrev pub count_in : RowState → List Row → ℕ
count_in wanted rows = length (filter (λ (row : Row). is_in wanted row.state) rows)

-- ---- the campaigns

abbrev pub campaign_status : Known → Campaign → Offered → CampaignStatus
campaign_status known campaign offer = record {
  name = name_of campaign offer.release offer.image;
  size = length offer.image;
  opened = opened_at known campaign.serial;
  live = count_in state.Live offer.rows;
  done = count_in state.Done offer.rows;
  failed = count_in state.Failed offer.rows;
  cancelled = count_in state.Cancelled offer.rows;
}

-- a campaign of the book of this head end, with its serial number
abbrev pub status_of_entry : Known → ℕ → ℕ × Offered → CampaignStatus
status_of_entry known head entry = campaign_status known (record { head = head; serial = entry.0 }) entry.1

-- the campaigns of a book, in opening order
abbrev pub campaigns_of : Known → Contents → List CampaignStatus
campaigns_of known book = map (λ (entry : ℕ × Offered). status_of_entry known book.head entry) book.campaigns

-- ---- lines

-- the texts of all of these, one behind the other, each of which is as `Is` says
abbrev pub AreTold : {X : Type 0} → (X → List ℕ → Type 0) → List X → List ℕ → Type 0
AreTold Is [] text = text ≡ []
AreTold Is (x ∷ xs) text = (first rest : List ℕ) × Is x first × AreTold Is xs rest × (text ≡ first ++ rest)

-- a time behind a word, if it is known
abbrev pub IsTimeIf : List ℕ → Option ℕ → List ℕ → Type 0
IsTimeIf word None text = text ≡ []
IsTimeIf word (Some at) text = (time : List ℕ) × IsSecond at time × (text ≡ word ++ time)

-- what a campaign offers
abbrev pub offer_lines : CampaignStatus → List ℕ
offer_lines campaign =
    codes "campaign " ++ (decimal campaign.name.campaign.head ++ (codes " " ++ (decimal campaign.name.campaign.serial
    ++ (codes " release " ++ (decimal campaign.name.release ++ (codes " size " ++ (decimal campaign.size
    ++ (codes "\n  digest " ++ encode_lower campaign.name.digest))))))))

-- how many of its rows are in which state
abbrev pub counts_lines : CampaignStatus → List ℕ
counts_lines campaign =
    codes "\n  live " ++ (decimal campaign.live ++ (codes " done " ++ (decimal campaign.done ++ (codes " failed " ++ (decimal campaign.failed
    ++ (codes " cancelled " ++ (decimal campaign.cancelled ++ codes "\n")))))))

-- the lines of a campaign, one of which tells when it was opened, if that is known
abbrev pub AreLines : CampaignStatus → List ℕ → Type 0
AreLines campaign text =
    (opened : List ℕ) × IsTimeIf (codes "\n  opened ") campaign.opened opened × (text ≡ offer_lines campaign ++ (opened ++ counts_lines campaign))

-- ---- comma-separated values

abbrev pub campaign_headings : List ℕ
campaign_headings = codes "head,campaign,release,size,digest,opened,live,done,failed,cancelled\n"

-- what a campaign offers, and when it was opened
abbrev pub offer_fields : CampaignStatus → List ℕ
offer_fields campaign =
    decimal campaign.name.campaign.head ++ (codes "," ++ (decimal campaign.name.campaign.serial ++ (codes ","
    ++ (decimal campaign.name.release ++ (codes "," ++ (decimal campaign.size ++ (codes "," ++ (encode_lower campaign.name.digest
    ++ time_field campaign.opened))))))))

-- how many of its rows are in which state, each behind a comma
abbrev pub counts_fields : CampaignStatus → List ℕ
counts_fields campaign =
    codes "," ++ (decimal campaign.live ++ (codes "," ++ (decimal campaign.done ++ (codes "," ++ (decimal campaign.failed
    ++ (codes "," ++ (decimal campaign.cancelled ++ codes "\n")))))))

abbrev pub campaign_csv : CampaignStatus → List ℕ
campaign_csv campaign = offer_fields campaign ++ counts_fields campaign

abbrev pub campaigns_csv : List CampaignStatus → List ℕ
campaigns_csv campaigns = campaign_headings ++ flat_map (λ (campaign : CampaignStatus). campaign_csv campaign) campaigns

-- ---- JSON

abbrev pub image_data : CampaignStatus → Data
image_data campaign = object (member (codes "digest") (string (encode_lower campaign.name.digest))
    (member (codes "release") (number_data campaign.name.release) (member (codes "size") (number_data campaign.size) no_members)))

abbrev pub counts_data : CampaignStatus → Data
counts_data campaign = object (member (codes "cancelled") (number_data campaign.cancelled) (member (codes "done") (number_data campaign.done)
    (member (codes "failed") (number_data campaign.failed) (member (codes "live") (number_data campaign.live) no_members))))

abbrev pub campaign_data : CampaignStatus → Data
campaign_data campaign = object (member (codes "campaign") (number_data campaign.name.campaign.serial)
    (member (codes "head") (number_data campaign.name.campaign.head) (member (codes "image") (image_data campaign)
    (member (codes "opened") (time_data campaign.opened) (member (codes "rows") (counts_data campaign) no_members)))))

abbrev pub campaigns_data : List CampaignStatus → Data
campaigns_data campaigns =
    object (member (codes "campaigns") (array (items_of (map (λ (campaign : CampaignStatus). campaign_data campaign) campaigns))) no_members)

abbrev pub campaigns_json : List CampaignStatus → List ℕ
campaigns_json campaigns = compact_text (campaigns_data campaigns) ++ codes "\n"
