-- Public vocabulary: how many numbers a window has at most (own limit).
use Rattle.std.specs.Prelude.{ℕ, ◌≤◌}

abbrev pub max_width : ℕ
max_width = 15

-- 1 to 15
pub record IsWidth (n : ℕ) : Type 0 where
  pub begins : 1 ≤ n
  pub ends : n ≤ max_width
