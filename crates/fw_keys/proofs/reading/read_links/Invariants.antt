use Rattle.std.proofs.Common.{◌≡◌, ◌+◌, ◌≤◌, length}
use Rattle.fw_keys.proofs.Steps.{SoFar}
use Rattle.fw_keys.proofs.reading.read_links.Given as goal

-- the file has the links of the lines so far
abbrev pub invariant-loop-line : goal.invariant-loop-line
invariant-loop-line g l = record {
  counted : l.number + length l.rest ≤ 1 + length l.text;
  own : l.file.own ≡ l.fn.own;
  so_far : SoFar g.N.EndName.names l.fn.own (l.before + 1) l.text l.rest l.number l.file.entries;
}

abbrev pub decreases-loop-line : goal.decreases-loop-line
decreases-loop-line g l = length l.rest
