-- For private clauses alone: no public clause cites it.
use Rattle.std.specs.Prelude.{Bool, true, false, cond, ◌+◌, ◌-◌, ◌^◌, ◌==◌, nat_lt, min, max, if◌then◌else◌, ℕ, List, slice_set, slice_index_or, Option, Some, None}
use Rattle.fw_world.specs.Step.{Event, deliver, stop}
use Rattle.fw_report.specs.declared.course.Coming.{Coming}
use Rattle.fw_report.specs.declared.course.Course.{Course}

-- which datagram an event brings to its addressee, if it brings one
abbrev pub coming_in : Event → Option Coming
coming_in (deliver number) = Some (record { number = number; stopped = false })
coming_in (stop number calls torn) = Some (record { number = number; stopped = true })
coming_in event = None

-- the course of a datagram that came once more, and at first after one that was sent after it
abbrev pub with_one_more : Course → Bool → Bool → Course
with_one_more course stopped overtaken = record {
  times = min (course.times + 1) (2 ^ 64 - 1);
  late = if course.times == 0 then overtaken else course.late;
  stops = min (course.stops + cond stopped 1 0) (2 ^ 64 - 1);
}

-- where the last of those that came is this one
abbrev pub with_coming : List Course → Coming → ℕ → List Course
with_coming courses coming highest =
    slice_set courses coming.number
    (with_one_more (slice_index_or courses coming.number (record { times = 0; late = false; stops = 0 })) coming.stopped (nat_lt coming.number highest))

-- where the last of those that came may be one
abbrev pub with_event : List Course → ℕ → Option Coming → List Course
with_event courses highest None = courses
with_event courses highest (Some coming) = with_coming courses coming highest

-- the highest number of those that came, with one that may have come last
abbrev pub highest_with : ℕ → Option Coming → ℕ
highest_with highest None = highest
highest_with highest (Some coming) = max highest coming.number
