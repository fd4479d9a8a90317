use Rattle.std.proofs.Common.{◌≡◌, ◌++◌, vec_len, map, All}
use Rattle.fw_workers.proofs.threads.fn.spawned.scope.Given as goal

-- the workers that were started and those that are left are all, in order
abbrev pub invariant-starts : goal.invariant-starts
invariant-starts g l = record {
  jobs : All (λ job. job.seat.board ≡ l.shared.board.id) l.rest.items;
  children : All (λ child. child.promise.board.now.id ≡ l.shared.board.id) l.children.items;
  shares : map (λ child. child.promise.share.value) l.children.items ++ map (λ job. job.share) l.rest.items ≡ map (λ job. job.share) l.initial.rest.items;
}

abbrev pub decreases-starts : goal.decreases-starts
decreases-starts g l = vec_len l.rest
