-- Public vocabulary: what the law says.
use Rattle.std.specs.Prelude.{◌≡◌, ℕ, List}
use Rattle.fw_script.specs.Script.{Script, SpellsScript, IsBadLine}

-- An input is a script or has a bad line, and never both; and it is one script, or has one bad line.
pub record OneScript : Type 0 where
  pub one_script : (input : List ℕ) (script other : Script) → SpellsScript input script → SpellsScript input other → script ≡ other
  pub never_both : (input : List ℕ) (script : Script) (number : ℕ) → SpellsScript input script → IsBadLine input number → ⊥
  pub one_bad_line : (input : List ℕ) (number other : ℕ) → IsBadLine input number → IsBadLine input other → number ≡ other
