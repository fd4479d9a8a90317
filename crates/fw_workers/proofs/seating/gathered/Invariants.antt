use Rattle.std.proofs.Common.{◌≡◌, ◌++◌, vec_len, map, All}
use Rattle.fw_workers.proofs.seating.gathered.Given as goal

-- the seats that are left are of the board; what was gathered and what is left is the whole
abbrev pub invariant-loop-rest : goal.invariant-loop-rest
invariant-loop-rest l = record {
  seat : l.seat.board ≡ l.fn.seat.board;
  on_board : All (λ outcome. outcome.seat.board ≡ l.board.id) l.rest.items;
  receipts : l.all.items ++ map (λ outcome. outcome.seat.receipts) l.rest.items ≡ map (λ outcome. outcome.seat.receipts) l.fn.outcomes.items;
}

abbrev pub decreases-loop-rest : goal.decreases-loop-rest
decreases-loop-rest l = vec_len l.rest
