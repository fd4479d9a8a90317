-- An event in JSON is an object without another in it, so that it is read back.
use Rattle.std.proofs.Common.{◌≡◌, ℕ, ◌≤◌, List, Option, None, Some, refl, arith}
use Rattle.serde_json.specs.Data.{depth}
use Rattle.serde_json.specs.Read.{max_depth}
use Rattle.fw_book.specs.declared.notes.End.{End}
use Rattle.fw_book.specs.declared.notes.Reason.{Reason}
use Rattle.fw_book.specs.declared.row.RowState.{RowState}
use Rattle.fw_rows.specs.Noted.{end_time, reason_data, reason_of_end, time_data}
use Rattle.fw_events.specs.declared.event.Event.{Event}
use Rattle.fw_events.specs.declared.event.Event.TheVariants.{Started, GoingOn, Opened, Cancelled, Row, Stuck, Progress, Over}
use Rattle.fw_events.specs.Events.{event_data, fault_data, row_data}

time_shallow : (time : Option ℕ) → depth (time_data time) ≡ 0
time_shallow None = refl
time_shallow (Some time) = refl

reason_shallow : (reason : Option Reason) → depth (reason_data reason) ≡ 0
reason_shallow None = refl
reason_shallow (Some why) = refl

row_shallow : (time : List ℕ) (head serial meter : ℕ) (state : RowState) (end : Option End) → depth (row_data time head serial meter state end) ≡ 1
row_shallow time head serial meter state end = simp (time_shallow (end_time end), reason_shallow (reason_of_end end))

pub event_shallow : (time : List ℕ) (head : ℕ) (event : Event) → depth (event_data time head event) ≤ max_depth
event_shallow time head Started = omega arith
event_shallow time head (GoingOn serial live done failed) = omega arith
event_shallow time head (Opened name) = omega arith
event_shallow time head (Cancelled serial) = omega arith
event_shallow time head (Row serial meter state end) = omega (arith, row_shallow time head serial meter state end)
event_shallow time head (Stuck serial meter from) = omega arith
event_shallow time head (Progress figures) = omega arith
event_shallow time head (Over done failed) = omega arith

pub fault_shallow : (time : List ℕ) (head : ℕ) (name : List ℕ) → depth (fault_data time head name) ≤ max_depth
fault_shallow time head name = omega arith
