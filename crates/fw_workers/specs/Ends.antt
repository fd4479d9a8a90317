-- Public vocabulary: how workers end.
use Rattle.std.specs.Prelude.{◌≡◌, ◌≤◌, ◌^◌, ◌⊎◌, ℕ, List, [], ◌∷◌, All, Option, None, Some, Result, Ok, Err, IfErr, IsErrOf}
use Rattle.fw_workers.specs.declared.error.RoundsError.{RoundsError}
use Rattle.fw_workers.specs.declared.error.RoundsError.TheVariants as unaccounted

-- how the rounds of a worker end
abbrev pub End : Type 0
End = Result (Unit {0}) RoundsError

-- the refusal of the lowest worker that was refused, where the ends stand in the order of the workers' numbers
abbrev pub lowest_refusal : List End → Option RoundsError
lowest_refusal [] = None
lowest_refusal (Err refusal ∷ ends) = Some refusal
lowest_refusal (Ok done ∷ ends) = lowest_refusal ends

-- Of these shares, in the order of their workers' numbers, the rounds of one may be refused so, and those of all lower ones may end
-- well. How the rounds of a share may end, `may_end` says.
abbrev pub IsLowestRefusal : {H : Type 0} → (H → End → Type 0) → List H → RoundsError → Type 0
IsLowestRefusal may_end [] refusal = ⊥
IsLowestRefusal may_end (share ∷ shares) refusal = may_end share (Err refusal) ⊎ (may_end share (Ok tt) × IsLowestRefusal may_end shares refusal)

-- a thread or memory is refused
abbrev pub IsUnstarted : RoundsError → Type 0
IsUnstarted unaccounted.OutOfMemory = Unit {0}
IsUnstarted unaccounted.ThreadRefused = Unit {0}
IsUnstarted other = ⊥

-- What is refused before any worker makes an event, where this many rows are done at the beginning: memory or a thread is refused,
-- or these rows are too many to count.
abbrev pub ComesFirst : ℕ → RoundsError → Type 0
ComesFirst done unaccounted.OutOfMemory = Unit {0}
ComesFirst done unaccounted.ThreadRefused = Unit {0}
ComesFirst done unaccounted.Mismatch = 2 ^ 63 ≤ done
ComesFirst done unaccounted.GateShut = ⊥

-- what is refused when all workers ended well: memory, or what they left isn't what the record says
abbrev pub ComesLast : RoundsError → Type 0
ComesLast unaccounted.OutOfMemory = Unit {0}
ComesLast unaccounted.Mismatch = Unit {0}
ComesLast other = ⊥

-- Why there is no report: the first of these that applies. It comes first; it is the refusal of the lowest worker that was refused; or
-- the rounds of all shares may end well, and it comes last.
abbrev pub IsReason : {H : Type 0} → ℕ → (H → End → Type 0) → List H → RoundsError → Type 0
IsReason done may_end shares refusal =
    ComesFirst done refusal
    ⊎ (IsLowestRefusal may_end shares refusal ⊎ (All (λ share. may_end share (Ok tt)) shares × ComesLast refusal))

-- a reason of an event of a worker: no thread is started for one
abbrev pub IsOfEvent : RoundsError → Type 0
IsOfEvent unaccounted.ThreadRefused = ⊥
IsOfEvent other = Unit {0}

-- it ends for a reason of an event of the worker at most, and for a shut gate only if one may shut
abbrev pub EndsUnder : {R : Type 0} → Type 0 → Result R RoundsError → Type 0
EndsUnder may_shut end = IfErr end IsOfEvent × (IsErrOf end unaccounted.GateShut → may_shut)

-- a worker with this share ends as its share may end, or was not to begin
abbrev pub EndsAs : {H : Type 0} → (H → End → Type 0) → H → End → Type 0
EndsAs may_end share end = may_end share end ⊎ (end ≡ Err unaccounted.ThreadRefused)
