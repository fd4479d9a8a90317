use Rattle.std.proofs.Common.{◌≡◌, max, length}
use Rattle.fw_journal.specs.Book.{contents_of}
use Rattle.fw_counter.specs.Reserved.{AreReservations, reserved_by}
use Rattle.fw_counter.proofs.reading.bound_of.Given as goal

abbrev pub invariant-loop-record : goal.invariant-loop-record
invariant-loop-record l = record {
  so_far : reserved_by (contents_of l.records) ≡ max l.bound (reserved_by (contents_of l.rest));
  fit : AreReservations (contents_of l.rest) → AreReservations (contents_of l.records);
  only : AreReservations (contents_of l.records) → AreReservations (contents_of l.rest);
}

abbrev pub decreases-loop-record : goal.decreases-loop-record
decreases-loop-record l = length l.rest
