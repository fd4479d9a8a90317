-- Public vocabulary: how many workers there may be, and what is dealt to them in turn.
use Rattle.std.specs.List.{enumerate_from, filter, range_with_len}
use Rattle.std.specs.Prelude.{ℕ, ◌≤◌, ◌%◌, ◌==◌, List, map}

-- the greatest worker count
abbrev pub max_workers : ℕ
max_workers = 8

-- a worker count: 1 to 8 workers, so nine workers are too many
abbrev pub AreWorkers : ℕ → Type 0
AreWorkers workers = (1 ≤ workers) × (workers ≤ max_workers)

-- what worker i has of the xs: those whose place, modulo the number of workers, is i, in their order
abbrev pub share : {X : Type 0} → ℕ → List X → ℕ → List X
share {X} workers xs i = map (λ (p : ℕ × X). p.1) (filter (λ (p : ℕ × X). p.0 % workers == i) (enumerate_from 0 xs))

-- the share of each worker, from worker 0 on
abbrev pub shares : {X : Type 0} → ℕ → List X → List (List X)
shares workers xs = map (share workers xs) (range_with_len 0 workers)
