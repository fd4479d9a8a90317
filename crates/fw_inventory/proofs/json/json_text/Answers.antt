use Rattle.std.proofs.Common.{◌∙◌, ap}
use Rattle.std.proofs.lemmas.Result.{IfOk-weaker}
use Rattle.serde_json.specs.Written.{has_float, compact_text}
use Rattle.fw_inventory.proofs.Floatless.{inventory_floatless}
use Rattle.fw_inventory.proofs.json.json_text.Goals as goal

pub returns : goal.returns
returns c =
    let value = c.in_ok-value.ensures in
    IfOk-weaker c.to_string.result _ _ (λ text h. h (ap has_float value ∙ inventory_floatless c.args.rows.now c.args.offer) ∙ ap compact_text value) c.to_string.ensures.text
