-- Public vocabulary: a table of rows. A number fills a column of 12 letters, so that the columns stand below their headings.
use Rattle.std.specs.Prelude.{ℕ, ◌-◌, List, ◌++◌, length, replicate, codes, decimal}

-- how wide a column of numbers is
abbrev pub column : ℕ
column = 12

-- a number, and spaces to the end of its column
abbrev pub number_cell : ℕ → List ℕ
number_cell n = decimal n ++ replicate (column - length (decimal n)) 32

abbrev pub row_headings : List ℕ
row_headings = codes "head end    campaign    meter       state\n"
