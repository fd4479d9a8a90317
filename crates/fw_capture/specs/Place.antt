-- Public vocabulary: how far a capture has been read.
use Rattle.std.specs.Prelude.{ℕ, List}
use Rattle.fw_capture.specs.declared.format.Format.{Format}

-- how its records are written, the bytes that are left, and how many were passed
pub record Place : Type 0 where
  pub format : Format
  pub rest : List ℕ
  pub offset : ℕ
