use Rattle.std.specs.Io.KnownBytes.{Consumes}
use Rattle.fw_key_files.proofs.system.read_all.Given as goal

-- the text is what the reader gave so far
abbrev pub invariant-loop : goal.invariant-loop
invariant-loop g l = Consumes (g.R.Read.remaining l.initial.reader) (g.R.Read.remaining l.reader) l.text.items
