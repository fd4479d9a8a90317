-- Public vocabulary: how far the live rows of a head end are, as the progress line tells it.
use Rattle.std.specs.Prelude.{ℕ, List, sum_by, unwrap_or}
use Rattle.fw_head.specs.Row.{Row, blocks_in, known_of}

-- how many blocks their meters are known to have
abbrev pub known_among : List Row → ℕ
known_among rows = sum_by known_of rows

-- how many blocks a row needs; it isn't counted before its meter told its block size
abbrev pub needed_of : Row → ℕ
needed_of row = unwrap_or (blocks_in row.stage) 0

-- how many blocks they need
abbrev pub needed_among : List Row → ℕ
needed_among rows = sum_by needed_of rows
