use Rattle.std.proofs.Common.{◌≡◌, ◌++◌, take}
use Rattle.fw_keys.specs.Private.{AreWritten}
use Rattle.fw_keys.specs.Writing.{links_text}
use Rattle.fw_keys.proofs.writing.put_links.Given as goal

-- the lines so far
abbrev pub invariant-loop-entry : goal.invariant-loop-entry
invariant-loop-entry g l = record {
  lines : l.out.items ≡ l.initial.out.items ++ links_text g.N.EndName.spelling (take l.entry-index l.entries);
  written : AreWritten g.N.EndName.names g.N.EndName.spelling g.N.EndName.shown (take l.entry-index l.entries);
}
