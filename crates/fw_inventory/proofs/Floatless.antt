-- What is told in JSON has no float, so that its text is known.
use Rattle.std.proofs.Common.{◌≡◌, ℕ, List, [], ◌∷◌, map, false, Option, None, Some, refl}
use Rattle.serde_json.specs.View.{items_of}
use Rattle.serde_json.specs.Written.{has_float, items_have_float}
use Rattle.fw_names.specs.Name.{Name}
use Rattle.fw_inventory.specs.Json.{answer_data, answered_data, image_by, inventory_data, number_data_if, offer_data, row_data, transfer_data}
use Rattle.fw_inventory.specs.Verdicts.{name_in}
use Rattle.fw_inventory.specs.declared.verdict.Offer.{Offer}
use Rattle.fw_survey.specs.declared.answer.Answer.{Answer}
use Rattle.fw_survey.specs.declared.answer.Answer.TheVariants as answer
use Rattle.fw_survey.specs.Rows.{Row}

number_floatless : (n : Option ℕ) → has_float (number_data_if n) ≡ false
number_floatless None = refl
number_floatless (Some n) = refl

answered_floatless : (a : Answer) → has_float (answered_data a) ≡ false
answered_floatless (answer.Active name) = refl
answered_floatless (answer.BlockSize size) = refl
answered_floatless (answer.Enabled enabled) = refl
answered_floatless (answer.Status status) = refl
answered_floatless (answer.Refused code) = refl
answered_floatless answer.Other = refl

answer_floatless : (a : Option Answer) → has_float (answer_data a) ≡ false
answer_floatless None = refl
answer_floatless (Some a) = answered_floatless a

image_floatless : (name : Option Name) (a : Option Answer) → has_float (image_by name a) ≡ false
image_floatless None a = answer_floatless a
image_floatless (Some name) a = refl

offer_floatless : (row : Row) (offer : Option Offer) → has_float (offer_data row offer) ≡ false
offer_floatless row None = refl
offer_floatless row (Some offer) = refl

transfer_floatless : (row : Row) → has_float (transfer_data row) ≡ false
transfer_floatless row =
    simp (answer_floatless row.block_size.answer, answer_floatless row.enabled.answer, number_floatless row.active.trip, answer_floatless row.status.answer)

row_floatless : (offer : Option Offer) (row : Row) → has_float (row_data offer row) ≡ false
row_floatless offer row = simp (image_floatless (name_in row.active.answer) row.active.answer, offer_floatless row offer, transfer_floatless row)

rows_have_none : (offer : Option Offer) (rows : List Row) → items_have_float (items_of (map (λ (row : Row). row_data offer row) rows)) ≡ false
rows_have_none offer [] = refl
rows_have_none offer (row ∷ rows) = simp (row_floatless offer row, rows_have_none offer rows)

pub inventory_floatless : (rows : List Row) (offer : Option Offer) → has_float (inventory_data rows offer) ≡ false
inventory_floatless rows offer = simp (rows_have_none offer rows)
