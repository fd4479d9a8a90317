use Rattle.std.proofs.Common.{◌≡◌, length, take}
use Rattle.fw_audit.specs.Log.{log_of}
use Rattle.fw_evidence.specs.Sealed.{Begins, Opens, items_in, marks_in}
use Rattle.fw_evidence.specs.declared.unsealing.Opening.{Opening}
use Rattle.fw_evidence.proofs.sealed.open_log.Given as goal

-- the items so far say this in plain words
abbrev pub invariant-loop-at : goal.invariant-loop-at
invariant-loop-at g l = record {
  first : Opening;
  begins : Begins (g.K.EndKeys.hears l.keys) (g.K.EndKeys.seals l.keys) first;
  opens : Opens (g.K.EndKeys.hears l.keys) first (log_of (take l.at l.wire)) (take l.at l.marks) (items_in l.log) (marks_in l.log) l.opening;
  count : l.log.count ≡ length l.wire;
}
