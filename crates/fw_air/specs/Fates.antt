-- Public vocabulary: lists of fates.
use Rattle.std.specs.List.{flat_map, range_with_len}
use Rattle.std.specs.Prelude.{ℕ, ◌+◌, ◌-◌, ◌%◌, ◌≤◌, List, [], ◌∷◌, length, slice_get, Option, Some}
use Rattle.fw_air.specs.declared.fates.Fate.{Fate}
use Rattle.fw_air.specs.declared.fates.Fate.TheVariants.{Deliver, Late, Twice}
use Rattle.fw_air.specs.Logs.{capped}

-- the most fates of a list (own limit)
abbrev pub max_fates : ℕ
max_fates = 4096

-- a list that can be repeated
pub record IsFates (list : List Fate) : Type 0 where
  pub some : 1 ≤ length list
  pub most : length list ≤ max_fates

-- the fate of the datagram of this number on its link: the list is repeated
abbrev pub fate_of : List Fate → ℕ → Option Fate
fate_of fates number = slice_get fates (number % length fates)

-- a datagram of this fate, as often as it comes now
abbrev pub comes : Option Fate → ℕ → List ℕ
comes (Some Deliver) number = number ∷ []
comes (Some Twice) number = number ∷ number ∷ []
comes fate number = []

-- a datagram of this fate, if it comes a round late
abbrev pub waits : Option Fate → ℕ → List ℕ
waits (Some Late) number = number ∷ []
waits fate number = []

-- The datagrams from one number up to another, each as its fate says. `passed` datagrams had their fates on the link before them. The
-- number of a fate stays at 2^64 - 1 once it is there.
abbrev pub by_fates : (Option Fate → ℕ → List ℕ) → List Fate → ℕ → ℕ → ℕ → List ℕ
by_fates says fates passed from end =
    flat_map (λ (number : ℕ). says (fate_of fates (capped (passed + (number - from)))) number) (range_with_len from (end - from))
