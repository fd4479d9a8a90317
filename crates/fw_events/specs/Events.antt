-- Public vocabulary: the events of a head end. Each is an object of JSON (RFC 8259) without spaces on a line of its own, whose members stand by
-- their keys: what happened, the number of the head end, the time, and what belongs to it. A time is as RFC 3339 writes it; when a row ended
-- is in seconds since 1970 began (UTC), as `status` has it, and null if it isn't known.
use Rattle.std.specs.Prelude.{◌≡◌, ◌≢◌, ℕ, List, ◌++◌, Option, Some, codes}
use Rattle.std.specs.List.{AllByRecursion}
use Rattle.hex.specs.Hex.{encode_lower}
use Rattle.serde_json.specs.Data.{Data, string, object, member, no_members}
use Rattle.serde_json.specs.Read.{read}
use Rattle.serde_json.specs.Written.{compact_text}
use Rattle.fw_names.specs.Name.{Name}
use Rattle.fw_book.specs.declared.notes.End.{End}
use Rattle.fw_book.specs.declared.phase.Phase.{Phase}
use Rattle.fw_book.specs.declared.phase.Phase.TheVariants as phase
use Rattle.fw_book.specs.declared.row.RowState.{RowState}
use Rattle.fw_calendar.specs.Times.{IsTime}
use Rattle.fw_rows.specs.Json.{number_data}
use Rattle.fw_rows.specs.Noted.{end_time, reason_data, reason_of_end, time_data}
use Rattle.fw_rows.specs.States.{state_word}
use Rattle.fw_events.specs.declared.event.Event.{Event}
use Rattle.fw_events.specs.declared.event.Event.TheVariants.{Started, GoingOn, Opened, Cancelled, Row, Stuck, Progress, Over}
use Rattle.fw_events.specs.declared.figures.Figures.{Figures}

-- ---- the objects

-- it began
abbrev pub started_data : List ℕ → ℕ → Data
started_data time head =
    object (member (codes "event") (string (codes "started")) (member (codes "head") (number_data head) (member (codes "time") (string time) no_members)))

-- it goes on with a campaign that has live rows from an earlier run: its serial number, and how many rows are live, done and failed
abbrev pub going_on_data : List ℕ → ℕ → ℕ → ℕ → ℕ → ℕ → Data
going_on_data time head serial live done failed = object (member (codes "campaign") (number_data serial) (member (codes "done") (number_data done)
    (member (codes "event") (string (codes "going_on")) (member (codes "failed") (number_data failed) (member (codes "head") (number_data head)
    (member (codes "live") (number_data live) (member (codes "time") (string time) no_members)))))))

-- a campaign was opened: its serial number, and the release and the digest of its image
abbrev pub opened_data : List ℕ → ℕ → Name → Data
opened_data time head name = object (member (codes "campaign") (number_data name.campaign.serial)
    (member (codes "digest") (string (encode_lower name.digest)) (member (codes "event") (string (codes "opened"))
    (member (codes "head") (number_data head) (member (codes "release") (number_data name.release) (member (codes "time") (string time) no_members))))))

-- the campaign of this serial number was cancelled
abbrev pub cancelled_data : List ℕ → ℕ → ℕ → Data
cancelled_data time head serial = object (member (codes "campaign") (number_data serial) (member (codes "event") (string (codes "cancelled"))
    (member (codes "head") (number_data head) (member (codes "time") (string time) no_members))))

-- a row ended: the serial number of its campaign, its meter, how, when, and why it failed
abbrev pub row_data : List ℕ → ℕ → ℕ → ℕ → RowState → Option End → Data
row_data time head serial meter state end = object (member (codes "campaign") (number_data serial)
    (member (codes "ended") (time_data (end_time end)) (member (codes "event") (string (codes "row")) (member (codes "head") (number_data head)
    (member (codes "meter") (number_data meter) (member (codes "reason") (reason_data (reason_of_end end))
    (member (codes "state") (string (state_word state)) (member (codes "time") (string time) no_members))))))))

abbrev pub asked_again : List ℕ
asked_again = codes "it is asked again whether it has all blocks"

-- what a row met that came from this phase to ask again whether its meter has all blocks
abbrev pub met_words : Phase → List ℕ
met_words phase.Poll = codes "verify 2, status 1"
met_words phase.Gaps = codes "a block is missing by attribute 4, and none by attribute 3"
met_words phase.Blocks = codes "blocks are missing again that were taken"
met_words phase.Size = asked_again
met_words phase.Enable = asked_again
met_words phase.Start = asked_again
met_words phase.Check = asked_again
met_words phase.Verify = asked_again
met_words phase.Info = asked_again
met_words phase.Activate = asked_again
met_words phase.Confirm = asked_again
met_words phase.Done = asked_again
met_words phase.Failed = asked_again

-- a row got nowhere in a lap, and rests: the serial number of its campaign, its meter, and what it met
abbrev pub stuck_data : List ℕ → ℕ → ℕ → ℕ → Phase → Data
stuck_data time head serial meter from = object (member (codes "campaign") (number_data serial) (member (codes "event") (string (codes "no_progress"))
    (member (codes "head") (number_data head) (member (codes "met") (string (met_words from)) (member (codes "meter") (number_data meter)
    (member (codes "time") (string time) no_members))))))

-- so far it is, in what it counted since it began
abbrev pub progress_data : List ℕ → ℕ → Figures → Data
progress_data time head figures = object (member (codes "done") (number_data figures.done) (member (codes "event") (string (codes "progress"))
    (member (codes "failed") (number_data figures.failed) (member (codes "faults") (number_data figures.faults)
    (member (codes "head") (number_data head) (member (codes "live") (number_data figures.live)
    (member (codes "received") (number_data figures.received) (member (codes "resends") (number_data figures.resends)
    (member (codes "sent") (number_data figures.sent) (member (codes "strangers") (number_data figures.strangers)
    (member (codes "time") (string time) (member (codes "unopened") (number_data figures.unopened) no_members))))))))))))

-- no row is live any more that it leads: how many were done in this run, and how many failed
abbrev pub over_data : List ℕ → ℕ → ℕ → ℕ → Data
over_data time head done failed = object (member (codes "done") (number_data done) (member (codes "event") (string (codes "over"))
    (member (codes "failed") (number_data failed) (member (codes "head") (number_data head) (member (codes "time") (string time) no_members)))))

abbrev pub event_data : List ℕ → ℕ → Event → Data
event_data time head Started = started_data time head
event_data time head (GoingOn serial live done failed) = going_on_data time head serial live done failed
event_data time head (Opened name) = opened_data time head name
event_data time head (Cancelled serial) = cancelled_data time head serial
event_data time head (Row serial meter state end) = row_data time head serial meter state end
event_data time head (Stuck serial meter from) = stuck_data time head serial meter from
event_data time head (Progress figures) = progress_data time head figures
event_data time head (Over done failed) = over_data time head done failed

-- a fault of this name ended it
abbrev pub fault_data : List ℕ → ℕ → List ℕ → Data
fault_data time head name = object (member (codes "event") (string (codes "fault")) (member (codes "fault") (string name)
    (member (codes "head") (number_data head) (member (codes "time") (string time) no_members))))

-- ---- the lines

-- no byte is a line feed
abbrev pub IsOneLine : List ℕ → Type 0
IsOneLine text = AllByRecursion (λ (byte : ℕ). byte ≢ 10) text

-- at this time, so many nanoseconds after 1970 began: an object, which is read as what it was written for, and a line feed, the only one
pub record IsLineOf (object_at : List ℕ → Data) (nanoseconds : ℕ) (line : List ℕ) : Type 0 where
  pub time : List ℕ
  pub at : IsTime nanoseconds time
  pub text : line ≡ compact_text (object_at time) ++ codes "\n"
  pub reads : read (compact_text (object_at time)) ≡ Some (object_at time)
  pub one : IsOneLine (compact_text (object_at time))

abbrev pub IsEvent : ℕ → ℕ → Event → List ℕ → Type 0
IsEvent nanoseconds head event line = IsLineOf (λ (time : List ℕ). event_data time head event) nanoseconds line

abbrev pub IsFault : ℕ → ℕ → List ℕ → List ℕ → Type 0
IsFault nanoseconds head name line = IsLineOf (λ (time : List ℕ). fault_data time head name) nanoseconds line
