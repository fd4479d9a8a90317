use Rattle.std.proofs.Common.{◌≡◌, ℕ, List, length}
use Rattle.fw_journal.specs.Book.{contents_of}
use Rattle.fw_journal.specs.Past.{LeavesOfAll, fated_all}
use Rattle.fw_journal.proofs.disk.left_of_all.Given as goal

abbrev pub invariant-loop-change : goal.invariant-loop-change
invariant-loop-change l = record {
  may : (new : List ℕ) → LeavesOfAll l.later l.left.items new → LeavesOfAll l.changes l.synced new;
  chosen : fated_all l.later (contents_of l.rest) l.left.items ≡ fated_all l.changes (contents_of l.fates) l.synced;
}

abbrev pub decreases-loop-change : goal.decreases-loop-change
decreases-loop-change l = length l.later
