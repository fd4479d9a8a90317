use Rattle.std.proofs.Common.{take}
use Rattle.fw_world.specs.Runs.{events_of}
use Rattle.fw_report.proofs.Courses.{SoFar}
use Rattle.fw_report.proofs.course.courses_of.Given as goal

-- the courses are those by the events so far
abbrev pub invariant-loop-at : goal.invariant-loop-at
invariant-loop-at l = SoFar (events_of (take l.at l.events)) l.count l.courses.items l.highest
