use Rattle.std.proofs.Common.{◌≡◌, drop, map}
use Rattle.fw_workers.specs.Ends.{lowest_refusal}
use Rattle.fw_workers.proofs.seating.refusal_among.Given as goal

-- nobody was refused so far
abbrev pub invariant-loop-outcome : goal.invariant-loop-outcome
invariant-loop-outcome l =
    lowest_refusal (map (λ outcome. outcome.ended) l.outcomes)
    ≡ lowest_refusal (map (λ outcome. outcome.ended) (drop l.outcome-index l.outcomes))
