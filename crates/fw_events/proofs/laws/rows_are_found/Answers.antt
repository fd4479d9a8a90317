use Rattle.std.proofs.Common.{◌∙◌, Option, ap}
use Rattle.std.specs.Prelude.{option_and_then}
use Rattle.serde_json.specs.Data.{Data}
use Rattle.fw_events.specs.Told.{row_in}
use Rattle.fw_events.proofs.Found.{found}
use Rattle.fw_events.proofs.laws.rows_are_found.Goals as goal

pub returns : goal.returns
returns c = λ nanoseconds head serial meter state end line is low few.
    ap (λ (o : Option Data). option_and_then (row_in head) o) is.reads ∙ found is.time head serial meter state end low few
