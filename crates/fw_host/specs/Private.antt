-- For private clauses alone: what a record of a list has behind its first two fields.
use Rattle.std.specs.Prelude.{◌≡◌, ℕ, List, ◌∷◌}
use Rattle.csv.specs.Records.{AllText}
use Rattle.fw_host.specs.Lists.{SpellsWave}

-- two fields or more, and those behind them, in UTF-8, spell this wave
pub record HasWave (fields : List (List ℕ)) (wave : ℕ) : Type 0 where
  pub first : List ℕ
  pub second : List ℕ
  pub rest : List (List ℕ)
  pub are : fields ≡ first ∷ second ∷ rest
  pub text : AllText rest
  pub is_wave : SpellsWave rest wave
