-- Public vocabulary: a counter as a value, and how it is used.
use Rattle.std.specs.Prelude.{◌≡◌, ⊤, ℕ, ◌+◌, ◌-◌, ◌^◌, ◌<◌, ◌≤◌, min, List, [], ◌∷◌, nat_lt, if◌then◌else◌}

-- the next one to be used, and the number below which all are reserved
pub record Counter : Type 0 where
  pub next : ℕ
  pub reserved : ℕ

-- how many are reserved at a time
abbrev pub range : ℕ
range = 65536

-- it ends here: this one is never used
abbrev pub limit : ℕ
limit = 2 ^ 32 - 1

-- what is reserved before one is used: a range more, where all reserved ones are used
abbrev pub reserved_after : Counter → ℕ
reserved_after c = if nat_lt c.next c.reserved then c.reserved else min (c.next + range) limit

-- the counter after one is used
abbrev pub taken : Counter → Counter
taken c = record { next = c.next + 1; reserved = reserved_after c }

-- ---- over kills and power cuts

pub data Move : Type 0 where
  -- the next one is used
  uses : Move
  -- those below this number are reserved
  reserves : ℕ → Move
  -- it ends at any moment, and is begun anew from what is left: those below this number are reserved there
  killed : ℕ → Move

-- what was used, the newest first, and the counter, before a move and after it
abbrev pub Goes : List ℕ → Counter → Move → List ℕ → Counter → Type 0
Goes used c uses used' c' = (c.next < c.reserved) × (used' ≡ c.next ∷ used) × (c' ≡ record c { next = c.next + 1 })
Goes used c (reserves n) used' c' = (c.reserved ≤ n) × (used' ≡ used) × (c' ≡ record c { reserved = n })
Goes used c (killed n) used' c' = (c.reserved ≤ n) × (used' ≡ used) × (c' ≡ record { next = n; reserved = n })

-- the same of several moves
abbrev pub MovesLead : List ℕ → Counter → List Move → List ℕ → Counter → Type 0
MovesLead used c [] used' c' = (used' ≡ used) × (c' ≡ c)
MovesLead used c (move ∷ moves) used' c' = (between : List ℕ) × (middle : Counter) × Goes used c move between middle × MovesLead between middle moves used' c'

-- all are below this number
abbrev pub AreBelow : ℕ → List ℕ → Type 0
AreBelow n [] = ⊤
AreBelow n (m ∷ ms) = (m < n) × AreBelow n ms

-- each is above all that were used before it, so none is used twice
abbrev pub IsFalling : List ℕ → Type 0
IsFalling [] = ⊤
IsFalling (n ∷ ns) = AreBelow n ns × IsFalling ns
