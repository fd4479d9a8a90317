-- An event in JSON has no float, so that its text is known.
use Rattle.std.proofs.Common.{◌≡◌, ℕ, List, false, Option, None, Some, refl}
use Rattle.serde_json.specs.Written.{has_float}
use Rattle.fw_book.specs.declared.notes.End.{End}
use Rattle.fw_book.specs.declared.notes.Reason.{Reason}
use Rattle.fw_book.specs.declared.row.RowState.{RowState}
use Rattle.fw_rows.specs.Noted.{end_time, reason_data, reason_of_end, time_data}
use Rattle.fw_events.specs.declared.event.Event.{Event}
use Rattle.fw_events.specs.declared.event.Event.TheVariants.{Started, GoingOn, Opened, Cancelled, Row, Stuck, Progress, Over}
use Rattle.fw_events.specs.Events.{event_data, fault_data, row_data}

time_floatless : (time : Option ℕ) → has_float (time_data time) ≡ false
time_floatless None = refl
time_floatless (Some time) = refl

reason_floatless : (reason : Option Reason) → has_float (reason_data reason) ≡ false
reason_floatless None = refl
reason_floatless (Some why) = refl

row_floatless : (time : List ℕ) (head serial meter : ℕ) (state : RowState) (end : Option End) → has_float (row_data time head serial meter state end) ≡ false
row_floatless time head serial meter state end = simp (time_floatless (end_time end), reason_floatless (reason_of_end end))

pub event_floatless : (time : List ℕ) (head : ℕ) (event : Event) → has_float (event_data time head event) ≡ false
event_floatless time head Started = refl
event_floatless time head (GoingOn serial live done failed) = refl
event_floatless time head (Opened name) = refl
event_floatless time head (Cancelled serial) = refl
event_floatless time head (Row serial meter state end) = row_floatless time head serial meter state end
event_floatless time head (Stuck serial meter from) = refl
event_floatless time head (Progress figures) = refl
event_floatless time head (Over done failed) = refl

pub fault_floatless : (time : List ℕ) (head : ℕ) (name : List ℕ) → has_float (fault_data time head name) ≡ false
fault_floatless time head name = refl
