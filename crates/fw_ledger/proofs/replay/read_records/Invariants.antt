use Rattle.std.proofs.Common.{◌≡◌, ◌+◌, ◌++◌, ℕ, List, length}
use Rattle.fw_ledger.specs.Replay.{IsBookOf, records_of}
use Rattle.fw_ledger.proofs.Known.{AreExactly}
use Rattle.fw_ledger.proofs.replay.read_records.Given as goal

abbrev pub invariant-loop-bytes : goal.invariant-loop-bytes
invariant-loop-bytes l =
    record {
      front : List (List ℕ);
      split : records_of l.records ≡ front ++ records_of l.rest;
      count : length front + length l.rest ≡ length l.records;
      is_book : IsBookOf l.fn.head front l.book;
      are_notes : AreExactly front l.notes;
    }

abbrev pub decreases-loop-bytes : goal.decreases-loop-bytes
decreases-loop-bytes l = length l.rest
