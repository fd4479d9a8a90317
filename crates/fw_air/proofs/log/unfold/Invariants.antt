use Rattle.std.proofs.Common.{◌≡◌, ◌≤◌, ◌++◌, length, reverse, vec_len}
use Rattle.fw_air.specs.Parts.{datagrams_of, entries_of}
use Rattle.fw_air.proofs.log.unfold.Given as goal

abbrev pub invariant-loop-part : goal.invariant-loop-part
invariant-loop-part l =
    (l.sent.items ++ datagrams_of (reverse l.rest.items) ≡ l.fn.sent.items ++ datagrams_of (reverse l.fn.newest_first.items))
    × (l.entries.items ++ entries_of (reverse l.rest.items) ≡ l.fn.entries.items ++ entries_of (reverse l.fn.newest_first.items))
    × (length l.rest.items ≤ length l.fn.newest_first.items)

abbrev pub decreases-loop-part : goal.decreases-loop-part
decreases-loop-part l = vec_len l.rest
