-- Public vocabulary: what the law says.
use Rattle.std.specs.Prelude.{◌≡◌, ℕ, List, Option}
use Rattle.fw_world.specs.World.{Datagram}
use Rattle.fw_report.specs.declared.course.Course.{Course}
use Rattle.fw_report.specs.declared.reason.Reason.{Reason}
use Rattle.fw_report.specs.Trace.{IsTrace}

-- What was sent has one trace, by what the network did with it and why initiates were refused.
abbrev pub OneTrace : Type 0
OneTrace = (courses : List Course) (reasons : List (Option Reason)) (sent : List Datagram) (text other : List ℕ)
    → IsTrace courses reasons sent text → IsTrace courses reasons sent other → text ≡ other
