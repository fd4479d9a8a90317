-- Public vocabulary: the report of a world in each of its forms, a whole text, with the event that was refused there, if one was.
use Rattle.std.specs.Prelude.{ℕ, List, ◌++◌, length, Option}
use Rattle.fw_world.specs.declared.setup.Setup.{Setup}
use Rattle.fw_world.specs.State.{State}
use Rattle.fw_report.specs.declared.forms.ReportForm.{ReportForm}
use Rattle.fw_report.specs.declared.forms.ReportForm.TheVariants.{Lines, Table, Json}
use Rattle.fw_report.specs.declared.refusal.Refusal.{Refusal}
use Rattle.fw_report.specs.Json.{json_of}
use Rattle.fw_report.specs.Refusal.{refusal_line_if}
use Rattle.fw_report.specs.Report.{report_of}
use Rattle.fw_report.specs.Summary.{rows_of_world, meters_of_world}
use Rattle.fw_report.specs.Table.{table_of}

abbrev pub report_lines : Setup → State → Option Refusal → List ℕ
report_lines setup s refusal = report_of setup s ++ refusal_line_if refusal

abbrev pub report_in : ReportForm → Setup → State → Option Refusal → List ℕ
report_in Lines setup s refusal = report_lines setup s refusal
report_in Table setup s refusal = table_of (rows_of_world setup s) (meters_of_world setup s) (length s.activations) refusal
report_in Json setup s refusal = json_of (rows_of_world setup s) (meters_of_world setup s) (length s.activations) refusal
