use Rattle.std.specs.List.{range_with_len}
use Rattle.std.proofs.Common.{◌≡◌, [], map, vec_len}
use Rattle.fw_workers.specs.Deals.{share}
use Rattle.fw_workers.proofs.Dealing.{shares_of}
use Rattle.fw_workers.proofs.deal.dealt.Given as goal

-- an empty share for each that was made
abbrev pub invariant-loop : goal.invariant-loop
invariant-loop g l = record {
  many : vec_len l.shares ≡ l.counter;
  empty : map (λ v. v.items) l.shares.items ≡ map (share l.workers []) (range_with_len 0 l.counter);
}

-- the shares of those that were dealt
abbrev pub invariant-loop-j : goal.invariant-loop-j
invariant-loop-j g l = record {
  many : vec_len l.shares ≡ l.workers;
  dealt : map (λ v. v.items) l.shares.items ≡ shares_of l.workers l.yielded;
}
