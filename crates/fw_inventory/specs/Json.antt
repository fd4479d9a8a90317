-- Public vocabulary: what a survey found as JSON (RFC 8259), on one line without spaces. The members of an object stand by their keys.
use Rattle.std.specs.Prelude.{ℕ, List, ◌++◌, map, Option, None, Some, codes}
use Rattle.hex.specs.Hex.{encode_lower}
use Rattle.serde_json.specs.Data.{Data, boolean, number, unsigned, string, null, array, object, member, no_members}
use Rattle.serde_json.specs.View.{items_of}
use Rattle.serde_json.specs.Written.{compact_text}
use Rattle.fw_names.specs.Name.{Name}
use Rattle.fw_survey.specs.declared.answer.Answer.{Answer}
use Rattle.fw_survey.specs.declared.answer.Answer.TheVariants as answer
use Rattle.fw_survey.specs.Rows.{Row}
use Rattle.fw_inventory.specs.Cells.{state_word, verdict_words}
use Rattle.fw_inventory.specs.Verdicts.{name_in, verdict_of}
use Rattle.fw_inventory.specs.declared.verdict.Offer.{Offer}

abbrev pub number_data : ℕ → Data
number_data n = number (unsigned n)

abbrev pub number_data_if : Option ℕ → Data
number_data_if None = null
number_data_if (Some n) = number_data n

-- an answer that is no name
abbrev pub answered_data : Answer → Data
answered_data (answer.Active name) = null
answered_data (answer.BlockSize size) = number_data size
answered_data (answer.Enabled enabled) = boolean enabled
answered_data (answer.Status status) = number_data status
answered_data (answer.Refused code) = object (member (codes "code") (number_data code) no_members)
answered_data answer.Other = string (codes "other")

abbrev pub answer_data : Option Answer → Data
answer_data None = null
answer_data (Some a) = answered_data a

abbrev pub name_data : Name → Data
name_data name = object (member (codes "campaign") (number_data name.campaign.serial) (member (codes "digest") (string (encode_lower name.digest))
    (member (codes "head") (number_data name.campaign.head) (member (codes "release") (number_data name.release) no_members))))

-- the image that a meter runs, or what else it answered
abbrev pub image_by : Option Name → Option Answer → Data
image_by None a = answer_data a
image_by (Some name) a = name_data name

abbrev pub image_data : Option Answer → Data
image_data a = image_by (name_in a) a

abbrev pub transfer_data : Row → Data
transfer_data row = object (member (codes "block_size") (answer_data row.block_size.answer) (member (codes "enabled") (answer_data row.enabled.answer)
    (member (codes "round_trip_us") (number_data_if row.active.trip) (member (codes "status") (answer_data row.status.answer) no_members))))

-- what it would do with the image that is offered, if one is
abbrev pub offer_data : Row → Option Offer → Data
offer_data row None = null
offer_data row (Some offer) = string (verdict_words (verdict_of row offer))

abbrev pub row_data : Option Offer → Row → Data
row_data offer row = object (member (codes "image") (image_data row.active.answer) (member (codes "meter") (number_data row.meter)
    (member (codes "offer") (offer_data row offer) (member (codes "state") (string (state_word row)) (member (codes "transfer") (transfer_data row) no_members)))))

abbrev pub inventory_data : List Row → Option Offer → Data
inventory_data rows offer = object (member (codes "meters") (array (items_of (map (λ (row : Row). row_data offer row) rows))) no_members)

abbrev pub json_of : List Row → Option Offer → List ℕ
json_of rows offer = compact_text (inventory_data rows offer) ++ codes "\n"
