-- Public vocabulary: in how many slices the bytes of a slot are read (own).
use Rattle.std.specs.Prelude.{ℕ}
use Rattle.std.specs.Int.{div_ceil}

-- the most bytes that are read at once
abbrev pub slice_size : ℕ
slice_size = 4096

-- how many slices `size` bytes have, of which the last may be shorter
abbrev pub slice_count : ℕ → ℕ
slice_count size = div_ceil size slice_size
