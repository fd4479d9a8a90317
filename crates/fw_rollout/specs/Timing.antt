-- Public vocabulary: how long an answer is waited for, in microseconds, and how many datagrams are out at once.
use Rattle.std.specs.Prelude.{◌≡◌, ◌⊎◌, ℕ, ◌+◌, ◌*◌, ◌/◌, ◌≤◌, min, max}
use Rattle.fw_blocks.specs.Width.{max_width}

-- a minute
abbrev pub longest_wait : ℕ
longest_wait = 60000000

-- the first pause before a meter is asked again that isn't ready for what it was asked
abbrev pub first_pause : ℕ
first_pause = 5000

-- half a second
abbrev pub longest_pause : ℕ
longest_pause = 500000

-- the most datagrams of one tick: those of a whole window
abbrev pub max_tick : ℕ
max_tick = max_width

-- four times the last round trip, no less than the first wait, and a minute at most
abbrev pub wait_after : ℕ → ℕ → ℕ
wait_after resend trip = min (max (4 * trip) resend) longest_wait

-- the retry wait after a silence in which nothing at all came: a quarter longer than the last one
abbrev pub lengthened : ℕ → ℕ
lengthened wait = min (wait + wait / 4) longest_wait

-- twice the last pause, where the meter isn't ready still
abbrev pub longer : ℕ → ℕ
longer pause = min (2 * pause) longest_pause

-- nothing is out, or the flight has room for a whole tick
abbrev pub HasRoom : ℕ → ℕ → Type 0
HasRoom out flight = (out ≡ 0) ⊎ (out + max_tick ≤ flight)

-- the most datagrams that are out
abbrev pub most_out : ℕ → ℕ
most_out flight = max flight max_tick
