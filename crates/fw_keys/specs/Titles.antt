-- System titles that are made of numbers (own): three letters as of a maker, the kind of the end, and its number in four bytes, the highest
-- first.
use Rattle.std.specs.Prelude.{ℕ, List, ◌++◌, codes}
use Rattle.std.specs.Int.{w32, to_be_bytes}

abbrev pub head_title : ℕ → List ℕ
head_title head = codes "KZBH" ++ to_be_bytes w32 head

abbrev pub meter_title : ℕ → List ℕ
meter_title meter = codes "KZBM" ++ to_be_bytes w32 meter
