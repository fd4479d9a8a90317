use Rattle.std.proofs.Common.{◌≡◌, ◌++◌, List, length}
use Rattle.fw_ledger.specs.Entry.{Entry}
use Rattle.fw_ledger.specs.Remade.{rows_notes, Puts}
use Rattle.fw_ledger.proofs.remaking.put_rows_notes.Given as goal

abbrev pub invariant-loop-row : goal.invariant-loop-row
invariant-loop-row l =
    record {
      done : List Entry;
      puts : Puts l.initial.records.items l.records.items done;
      split : done ++ rows_notes l.notes l.campaign l.rest ≡ rows_notes l.notes l.campaign l.rows;
    }

abbrev pub decreases-loop-row : goal.decreases-loop-row
decreases-loop-row l = length l.rest
