-- Public vocabulary: lines that are written one after another, and what is left of one that can't be written.
use Rattle.std.specs.Prelude.{◌≡◌, ℕ, Bool, false, List, [], ◌∷◌, ◌++◌, Option, Some, map}
use Rattle.std.specs.List.{concat}
use Rattle.std.specs.Io.KnownBytes.{Appends}
use Rattle.fw_rollout.specs.declared.ended.Ended.{Ended}
use Rattle.fw_rollout.specs.Leading.{state_after}
use Rattle.fw_events.specs.declared.event.Event.{Event}
use Rattle.fw_events.specs.declared.event.Event.TheVariants.{Row}
use Rattle.fw_host.specs.Heads.{ended_line}

-- known bytes grow by a front of these: by none, some or all of them
abbrev pub AppendsFront : Option (List ℕ) → Option (List ℕ) → List ℕ → Type 0
AppendsFront before after bytes = (front : List ℕ) × (lost : List ℕ) × (bytes ≡ front ++ lost) × Appends before after front

-- a front of each of these lines, one after another
abbrev pub AreFronts : List (List ℕ) → List ℕ → Type 0
AreFronts [] text = text ≡ []
AreFronts (line ∷ lines) text =
    (front : List ℕ) × (lost : List ℕ) × (others : List ℕ) × (line ≡ front ++ lost) × (text ≡ front ++ others) × AreFronts lines others

-- A writer was told just these lines, the oldest first. Each is there whole, unless one was lost, of which a front may be there.
pub record Told (lines : List (List ℕ)) (was_lost is_lost : Bool) (before after : Option (List ℕ)) : Type 0 where
  pub text : List ℕ
  pub appends : Appends before after text
  pub fronts : AreFronts lines text
  pub whole : is_lost ≡ false → (was_lost ≡ false) × (text ≡ concat lines)

-- the event of a row that ended
abbrev pub row_event : Ended → Event
row_event ended = Row ended.campaign.serial ended.meter (state_after ended.ending) (Some ended.end)

-- the lines of rows that ended
abbrev pub lines_of_rows : List Ended → List (List ℕ)
lines_of_rows rows = map (λ (row : Ended). ended_line row) rows
