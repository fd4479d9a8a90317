use Rattle.std.proofs.Common.{◌≡◌, map, take}
use Rattle.fw_audit.specs.Log.{log_of}
use Rattle.fw_evidence.proofs.Logs.{entry_item, entry_mark}
use Rattle.fw_evidence.proofs.opened.OpenedLog.to_log.Given as goal

-- the entries so far
abbrev pub invariant-loop-at : goal.invariant-loop-at
invariant-loop-at l = record {
  items : log_of l.log.items.items ≡ map entry_item (take l.at l.self.entries.items);
  marks : l.log.marks.items ≡ map entry_mark (take l.at l.self.entries.items);
}
