use Rattle.std.proofs.Common.{◌≡◌, map, min, vec_len, All}
use Rattle.fw_workers.specs.Private.{halves, left_after, numbers}
use Rattle.fw_workers.proofs.seating.Seating.seat.Given as goal

abbrev pub invariant-loop-share : goal.invariant-loop-share
invariant-loop-share g l = record {
  seats : All (λ job. job.seat.board ≡ l.self.shared.board.id) l.jobs.items;
  shares : map (λ job. job.share) l.jobs.items ≡ l.yielded;
  workers : All (λ job. job.workers ≡ l.workers) l.jobs.items;
  next : l.number ≡ min (vec_len l.jobs) 4294967295;
  numbers : map (λ job. job.number) l.jobs.items ≡ numbers (vec_len l.jobs);
  left : l.self.seat.allowance ≡ left_after l.fn.self.seat.allowance (vec_len l.jobs);
  marks : map (λ job. job.seat.allowance) l.jobs.items ≡ halves l.fn.self.seat.allowance (vec_len l.jobs);
}
