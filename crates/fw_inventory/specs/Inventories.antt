-- Public vocabulary: what a survey found, in each form.
use Rattle.std.specs.Prelude.{ℕ, List, Option}
use Rattle.fw_survey.specs.Rows.{Row}
use Rattle.fw_inventory.specs.Cells.{csv_of, table_of}
use Rattle.fw_inventory.specs.Json.{json_of}
use Rattle.fw_inventory.specs.declared.inventory.InventoryForm.{InventoryForm}
use Rattle.fw_inventory.specs.declared.inventory.InventoryForm.TheVariants as form
use Rattle.fw_inventory.specs.declared.verdict.Offer.{Offer}

abbrev pub inventory_in : InventoryForm → List Row → Option Offer → List ℕ
inventory_in form.Table rows offer = table_of rows offer
inventory_in form.Csv rows offer = csv_of rows offer
inventory_in form.Json rows offer = json_of rows offer
