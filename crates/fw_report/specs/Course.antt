-- Public vocabulary: what the network did with a datagram in a run: how often it came to its addressee, whether one that was sent after it
-- came before it, and in how many of its comings the meter stopped.
use Rattle.std.specs.Prelude.{◌≡◌, ℕ, ◌<◌, ◌==◌, nat_lt, ◌&&◌, Bool, true, false, if◌then◌else◌, List, [], ◌∷◌, ◌++◌, length, count_by, slice_index_or, codes, decimal}
use Rattle.std.specs.List.{list_any}
use Rattle.fw_world.specs.Step.{Event, deliver, stop}
use Rattle.fw_report.specs.declared.course.Course.{Course}

-- whether an event brings the datagram of this number to its addressee, which may stop in it
abbrev pub brings : ℕ → Event → Bool
brings number (deliver k) = k == number
brings number (stop k calls torn) = k == number
brings number event = false

-- whether a meter stops in it
abbrev pub stops_in : ℕ → Event → Bool
stops_in number (stop k calls torn) = k == number
stops_in number event = false

-- whether it brings one that was sent after that datagram
abbrev pub brings_later : ℕ → Event → Bool
brings_later number (deliver k) = nat_lt number k
brings_later number (stop k calls torn) = nat_lt number k
brings_later number event = false

-- the events before the first that brings it
abbrev pub before_it : ℕ → List Event → List Event
before_it number [] = []
before_it number (event ∷ events) = if brings number event then [] else (event ∷ before_it number events)

-- it comes, and before it one that was sent after it
abbrev pub is_late : ℕ → List Event → Bool
is_late number events = list_any (brings number) events && list_any (brings_later number) (before_it number events)

abbrev pub course_of : ℕ → List Event → Course
course_of number events =
    record { times = count_by (brings number) events; late = is_late number events; stops = count_by (stops_in number) events }

-- what the network did with each of the first `count` datagrams
pub record AreCourses (events : List Event) (count : ℕ) (courses : List Course) : Type 0 where
  pub long : length courses ≡ count
  pub each : (number : ℕ) (d : Course) → number < count → slice_index_or courses number d ≡ course_of number events

-- ---- the words

-- none for a datagram that came once
abbrev pub times_words : ℕ → List ℕ
times_words n =
    if n == 0 then codes "  lost" else (if n == 1 then [] else (if n == 2 then codes "  twice" else (codes "  " ++ (decimal n ++ codes " times"))))

abbrev pub late_words : Bool → List ℕ
late_words true = codes "  late"
late_words false = []

abbrev pub stops_words : ℕ → List ℕ
stops_words n = if n == 0 then [] else codes "  stopped"

abbrev pub course_words : Course → List ℕ
course_words course = times_words course.times ++ (late_words course.late ++ stops_words course.stops)
