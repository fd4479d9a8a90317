-- Public vocabulary: what a client is, and what an ask, an answer and forgetting change of it.
use Rattle.std.specs.Prelude.{ℕ, ◌+◌, ◌%◌, IsSome}
use Rattle.std.specs.Ordering.{nat_cmp}
use Rattle.std.specs.FinMap.{FinMap, empty, get, insert, remove}
use Rattle.fw_apdu.specs.Request.{invoke_ids}
use Rattle.fw_client.specs.declared.ask.Asked.{Asked}

-- the asks that no answer came to yet, by their invoke-ids: no reuse of an invoke-id while its ask waits
abbrev pub Asks : Type 0
Asks = FinMap nat_cmp Asked

pub record State : Type 0 where
  -- whom it asks
  pub meter : ℕ
  -- the invoke-id of its next ask, below 16
  pub next : ℕ
  pub asks : Asks

abbrev pub fresh : ℕ → State
fresh meter = record { meter = meter; next = 0; asks = empty }

-- The invoke byte of an id: confirmed, of high priority.
abbrev pub invoke_byte : ℕ → ℕ
invoke_byte id = 0xc0 + id

-- the client once it asked with the next id
abbrev pub asking : State → Asked → State
asking c asked = record { meter = c.meter; next = (c.next + 1) % invoke_ids; asks = insert c.asks c.next asked }

-- the client once an ask is answered
abbrev pub without : State → ℕ → State
without c id = record { meter = c.meter; next = c.next; asks = remove c.asks id }

-- the client once its asks are forgotten: the next id stays
abbrev pub forgetting : State → State
forgetting c = record { meter = c.meter; next = c.next; asks = empty }

-- an ask is outstanding
abbrev pub IsWaiting : State → Type 0
IsWaiting c = (id : ℕ) × IsSome (get c.asks id)
