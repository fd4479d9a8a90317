-- Public vocabulary: the laws of counters. They speak of definitions alone.
use Rattle.std.specs.Prelude.{◌≡◌, ℕ, List, []}
use Rattle.fw_counter.specs.Reserved.{Reserves}
use Rattle.fw_counter.specs.Moves.{Counter, Move, MovesLead, IsFalling}

-- bytes reserve the counters below one number at most
abbrev pub OneBound : Type 0
OneBound = (bytes : List ℕ) (a b : ℕ) → Reserves bytes a → Reserves bytes b → a ≡ b

-- whatever is used and reserved, and however often it ends at any moment, no counter is used twice
abbrev pub CountersNeverRepeat : Type 0
CountersNeverRepeat = (start : ℕ) (moves : List Move) (used : List ℕ) (now : Counter) → MovesLead [] (record { next = start; reserved = start }) moves used now → IsFalling used
