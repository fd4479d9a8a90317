-- Public vocabulary: the clock of a port, and the date.
use Rattle.std.specs.Prelude.{ℕ, ◌-◌, ◌/◌, ◌^◌, Option, None, Some, min}
use Rattle.std.specs.Time.{instant_nanos, system_time_nanos}
use Rattle.std.specs.declared.time.Instant.{Instant}
use Rattle.std.specs.declared.time.SystemTime.{SystemTime}

-- the microseconds from one moment to another, as far as 64 bits count them
abbrev pub micros_between : Instant → Instant → ℕ
micros_between began now = min ((instant_nanos now - instant_nanos began) / 1000) (2 ^ 64 - 1)

-- the time of a clock that began at this moment, if there was one, when the system says this
abbrev pub reading : Option Instant → Option Instant → Option ℕ
reading (Some began) (Some now) = Some (micros_between began now)
reading began now = None

-- the seconds since 1970 began (UTC), when the system says this, and 0 if it says nothing
abbrev pub date_of : Option SystemTime → ℕ
date_of None = 0
date_of (Some now) = system_time_nanos now / 10 ^ 9
