-- Public vocabulary: what a meter said of the image that it runs.
use Rattle.std.specs.Prelude.{ℕ}
use Rattle.fw_names.specs.Name.{Name}

pub record Claim : Type 0 where
  pub meter : ℕ
  pub name : Name
