-- Public vocabulary: a page of HTML (the WHATWG's) that needs nothing from outside: each campaign with a bar of its rows, and the rows by
-- state. It holds numbers, times, hexadecimal digits and words of letters alone, so nothing has to be escaped.
use Rattle.std.specs.Prelude.{◌≡◌, ℕ, Bool, true, false, List, [], ◌++◌, Option, None, Some, codes, decimal}
use Rattle.hex.specs.Hex.{encode_lower}
use Rattle.fw_book.specs.declared.notes.Reason.{Reason}
use Rattle.fw_book.specs.declared.row.RowState.{RowState}
use Rattle.fw_book.specs.declared.row.RowState.TheVariants as state
use Rattle.fw_rows.specs.Failure.{failure_words}
use Rattle.fw_rows.specs.Noted.{Noted, end_time, reason_of_end}
use Rattle.fw_rows.specs.States.{state_word}
use Rattle.fw_status.specs.Campaigns.{AreTold, IsTimeIf, is_in}
use Rattle.fw_status.specs.Rows.{count_of}
use Rattle.fw_status.specs.declared.campaign.CampaignStatus.{CampaignStatus}

-- ---- the frame

abbrev pub page_top : List ℕ
page_top = codes "<!DOCTYPE html>\n<html lang=en>\n<meta charset=utf-8>\n<meta name=viewport content='width=device-width'>\n<title>Campaigns</title>\n"

abbrev pub text_style : List ℕ
text_style = codes "<style>\nbody{font:16px/1.5 sans-serif;max-width:60rem;margin:auto;padding:1rem;color:#222}\nh2{font-size:1.2rem;margin:2rem 0 0}\np{margin:.3rem 0}\n"

abbrev pub bar_style : List ℕ
bar_style = codes ".digest{font-family:monospace;overflow-wrap:anywhere;color:#555}\n.bar{display:flex;height:1rem}\np i{display:inline-block;width:.8rem;height:.8rem;margin:0 .3rem}\n"

abbrev pub state_style : List ℕ
state_style = codes ".done{background:#2e7d32}\n.live{background:#90caf9}\n.failed{background:#c62828}\n.cancelled{background:#9e9e9e}\n"

abbrev pub table_style : List ℕ
table_style = codes "details{margin-top:2rem;overflow-x:auto}\nsummary{font-weight:bold}\ntd,th{text-align:left;padding:.1rem 1rem .1rem 0}\n</style>\n<h1>Campaigns</h1>\n"

abbrev pub page_head : List ℕ
page_head = page_top ++ (text_style ++ (bar_style ++ (state_style ++ table_style)))

-- ---- campaigns

-- its head end, and its serial number
abbrev pub number_html : CampaignStatus → List ℕ
number_html campaign = decimal campaign.name.campaign.head ++ (codes " " ++ decimal campaign.name.campaign.serial)

abbrev pub title_html : CampaignStatus → List ℕ
title_html campaign = codes "<h2>Campaign " ++ (number_html campaign ++ codes "</h2>\n")

abbrev pub image_html : CampaignStatus → List ℕ
image_html campaign =
    codes "<p>release " ++ (decimal campaign.name.release ++ (codes ", " ++ (decimal campaign.size ++ codes " bytes")))

-- what a campaign offers
abbrev pub offer_html : CampaignStatus → List ℕ
offer_html campaign = title_html campaign ++ image_html campaign

-- a part of a bar, as wide as there are rows in this state
abbrev pub width_html : ℕ → List ℕ
width_html count = codes " style=flex:" ++ (decimal count ++ codes "></i>")

abbrev pub bar_part : RowState → ℕ → List ℕ
bar_part state count = codes "<i class=" ++ (state_word state ++ width_html count)

abbrev pub bar : CampaignStatus → List ℕ
bar campaign =
    bar_part state.Done campaign.done ++ (bar_part state.Live campaign.live ++ (bar_part state.Failed campaign.failed
    ++ bar_part state.Cancelled campaign.cancelled))

-- the colour of a part of a bar, and how many rows it stands for
abbrev pub key_part : RowState → ℕ → List ℕ
key_part state count = codes "<i class=" ++ (state_word state ++ (codes "></i>" ++ (decimal count ++ (codes " " ++ (state_word state ++ codes "\n")))))

abbrev pub key : CampaignStatus → List ℕ
key campaign =
    key_part state.Done campaign.done ++ (key_part state.Live campaign.live ++ (key_part state.Failed campaign.failed
    ++ key_part state.Cancelled campaign.cancelled))

-- the digest of the image, and the bar with its key
abbrev pub bar_html : CampaignStatus → List ℕ
bar_html campaign =
    codes "</p>\n<p class=digest>" ++ (encode_lower campaign.name.digest ++ (codes "</p>\n<div class=bar>" ++ (bar campaign
    ++ (codes "</div>\n<p>" ++ (key campaign ++ codes "</p>\n")))))

-- a campaign, with when it was opened, if that is known
abbrev pub IsCampaignHtml : CampaignStatus → List ℕ → Type 0
IsCampaignHtml campaign text =
    (opened : List ℕ) × IsTimeIf (codes ", opened ") campaign.opened opened × (text ≡ offer_html campaign ++ (opened ++ bar_html campaign))

-- ---- rows by state

-- why a row failed, if that is known
abbrev pub reason_words : Option Reason → List ℕ
reason_words None = []
reason_words (Some why) = failure_words why

abbrev pub row_html : Noted → List ℕ
row_html noted =
    codes "<tr><td>" ++ (decimal noted.row.head ++ (codes " " ++ (decimal noted.row.serial ++ (codes "<td>" ++ decimal noted.row.meter))))

abbrev pub reason_html : Noted → List ℕ
reason_html noted = codes "<td>" ++ (reason_words (reason_of_end noted.end) ++ codes "\n")

-- a line of a table: the campaign, the meter, when its row ended, and why it failed
abbrev pub IsRowHtml : Noted → List ℕ → Type 0
IsRowHtml noted text =
    (ended : List ℕ) × IsTimeIf (codes "") (end_time noted.end) ended × (text ≡ row_html noted ++ (codes "<td>" ++ (ended ++ reason_html noted)))

-- just this, or nothing
abbrev pub OnlyIf : Bool → (List ℕ → Type 0) → List ℕ → Type 0
OnlyIf true Is text = Is text
OnlyIf false Is text = text ≡ []

-- what stands of a row in the table of a state: its line, if it is in that state
abbrev pub IsLineOf : RowState → Noted → List ℕ → Type 0
IsLineOf state noted text = OnlyIf (is_in state noted.row.state) (IsRowHtml noted) text

-- the table of the failed rows is shown at once, and each other one once it is asked for
abbrev pub details_tag : RowState → List ℕ
details_tag state.Failed = codes "<details open><summary>"
details_tag other = codes "<details><summary>"

abbrev pub count_html : ℕ → List ℕ
count_html count = decimal count ++ codes " "

abbrev pub table_head : RowState → ℕ → List ℕ
table_head state count =
    details_tag state ++ (count_html count ++ (state_word state ++ (codes "</summary>\n<table>\n"
    ++ codes "<tr><th>campaign<th>meter<th>ended<th>reason\n")))

-- the table of the rows in a state
abbrev pub IsTableHtml : RowState → List Noted → List ℕ → Type 0
IsTableHtml state rows text =
    (lines : List ℕ) × AreTold (IsLineOf state) rows lines × (text ≡ table_head state (count_of state rows) ++ (lines ++ codes "</table></details>\n"))

-- ---- the page

-- of campaigns alone
abbrev pub IsCampaignsPage : List CampaignStatus → List ℕ → Type 0
IsCampaignsPage campaigns text = (bars : List ℕ) × AreTold IsCampaignHtml campaigns bars × (text ≡ page_head ++ bars)

-- of campaigns, and of their rows: those that failed, those that are live, those that are done, and those that were cancelled
pub record IsPage (campaigns : List CampaignStatus) (rows : List Noted) (text : List ℕ) : Type 0 where
  pub bars : List ℕ
  pub failed : List ℕ
  pub live : List ℕ
  pub done : List ℕ
  pub cancelled : List ℕ
  pub has_bars : IsCampaignsPage campaigns bars
  pub has_failed : IsTableHtml state.Failed rows failed
  pub has_live : IsTableHtml state.Live rows live
  pub has_done : IsTableHtml state.Done rows done
  pub has_cancelled : IsTableHtml state.Cancelled rows cancelled
  pub whole : text ≡ bars ++ (failed ++ (live ++ (done ++ cancelled)))
