-- For the models of the world's types and private clauses alone.
use Rattle.std.specs.Prelude.{◌≡◌, ℕ, Bool, IsTrue, cond, List, [], ◌∷◌, length, Option, Some, None, slice_get}
use Rattle.std.specs.Option.{option_map}
use Rattle.fw_names.specs.Name.{Name}
use Rattle.fw_store.specs.declared.header.Goal.{Goal}
use Rattle.fw_image.specs.Meter.{Image, Meter, verified}
use Rattle.fw_image.specs.State.{State}
use Rattle.fw_meter.specs.Private.{no_state}
use Rattle.fw_world.specs.declared.datagram.Direction.{Direction}
use Rattle.fw_world.specs.declared.datagram.Direction.TheVariants.{ToHead}
use Rattle.fw_world.specs.World.{Datagram, Activation}
use Rattle.fw_world.specs.State as kept
use Rattle.fw_world.specs.Parts.{IsOnce}

-- the meter is there, over a store that gives what was written and doesn't fail
pub record IsSound (state : State) : Type 0 where
  pub honest : IsTrue state.honest
  pub sound : IsTrue state.sound

abbrev pub IsSeated : Option State → Type 0
IsSeated None = ⊥
IsSeated (Some state) = IsSound state

abbrev pub meter_in : Option State → Meter
meter_in None = no_state.meter
meter_in (Some state) = state.meter

-- the name of an image that a meter switched to
abbrev pub switched_name : Option Image → Option Name
switched_name switched = option_map (λ (image : Image). image.name) switched

-- which is the one that runs
abbrev pub IsRunning : Option Image → Meter → Type 0
IsRunning None m = Unit {0}
IsRunning (Some image) m = image ≡ m.running

-- there is room for the image that an activate would switch to
abbrev pub HasRoom : Meter → List ℕ → Type 0
HasRoom m room = (goal : Goal) → m.phase ≡ verified goal → length room ≡ goal.size

-- a datagram of this number was sent, in this direction
abbrev pub IsSentTo : List Datagram → ℕ → Direction → Type 0
IsSentTo sent number direction = (d : Datagram) × (slice_get sent number ≡ Some d) × (d.direction ≡ direction)

-- what is sent back on a link
abbrev pub replied : ℕ → ℕ → Option (List ℕ) → List Datagram
replied head meter None = []
replied head meter (Some bytes) = record { head = head; meter = meter; direction = ToHead; bytes = bytes } ∷ []

-- an image that a meter switched to, as it is noted
abbrev pub noted : ℕ → Option Image → List Activation
noted meter None = []
noted meter (Some image) = record { meter = meter; name = image.name; bytes = image.bytes } ∷ []

-- with this entry in the place of the first whose key passes
abbrev pub set_entry : {X : Type 0} → (ℕ → Bool) → List (ℕ × X) → ℕ × X → List (ℕ × X)
set_entry test [] new = []
set_entry test (entry ∷ entries) new = cond (test entry.0) (new ∷ entries) (entry ∷ set_entry test entries new)

-- what holds of each world
pub record IsWorld (s : kept.State) : Type 0 where
  pub state : kept.IsState s
  pub once : IsOnce s
