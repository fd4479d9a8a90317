-- Public vocabulary: a number as JSON (RFC 8259).
use Rattle.std.specs.Prelude.{ℕ}
use Rattle.serde_json.specs.Data.{Data, number, unsigned}

abbrev pub number_data : ℕ → Data
number_data n = number (unsigned n)
