-- Public vocabulary: a world taken apart.
use Rattle.std.specs.Prelude.{◌≡◌, ℕ, false, map}
use Rattle.fw_head.specs.Head.{Head}
use Rattle.fw_world.specs.declared.parts.Parts.{Parts}
use Rattle.fw_world.specs.Setup.{repeats}
use Rattle.fw_world.specs.State.{State}

-- a head end under its own number
abbrev pub head_behind : Head → ℕ × Head
head_behind head = (head.book.head, head)

-- the world of these parts
abbrev pub state_of : Parts → State
state_of parts = record {
  heads = map head_behind parts.heads.items;
  meters = parts.meters.items;
  sent = parts.sent.items;
  activations = parts.activations.items;
}

abbrev pub number_of : {X : Type 0} → ℕ × X → ℕ
number_of entry = entry.0

-- no two head ends have one number, and no two meters
pub record IsOnce (s : State) : Type 0 where
  pub heads : repeats number_of s.heads ≡ false
  pub meters : repeats number_of s.meters ≡ false
