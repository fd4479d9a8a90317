use Rattle.std.proofs.Common.{◌∙◌, ap}
use Rattle.std.proofs.lemmas.Result.{IfOk-weaker}
use Rattle.serde_json.specs.Written.{has_float, compact_text}
use Rattle.fw_status.proofs.Floatless.{rows_floatless}
use Rattle.fw_status.proofs.rows.json_text.Goals as goal

pub returns : goal.returns
returns c =
    let value = c.in_ok-value.ensures in
    IfOk-weaker c.to_string.result _ _ (λ text h. h (ap has_float value ∙ rows_floatless c.args.rows.now) ∙ ap compact_text value) c.to_string.ensures.text
