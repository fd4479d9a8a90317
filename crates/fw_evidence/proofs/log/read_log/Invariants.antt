use Rattle.std.proofs.Common.{◌+◌, ◌≤◌, length}
use Rattle.fw_audit.specs.Log.{log_of}
use Rattle.fw_evidence.specs.Captures.{IsReadTo}
use Rattle.fw_evidence.specs.Entries.{entries_of}
use Rattle.fw_evidence.proofs.log.read_log.Given as goal

-- the records so far say these items
abbrev pub invariant-loop-number : goal.invariant-loop-number
invariant-loop-number l = record {
  read : IsReadTo l.site l.capture l.number l.reader (entries_of (log_of l.log.items.items)) l.log.marks.items;
  within : l.number + length l.reader.rest ≤ length l.capture;
}
