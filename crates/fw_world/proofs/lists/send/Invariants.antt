use Rattle.std.proofs.Common.{◌≡◌, ◌+◌, ◌≤◌, ◌++◌, length}
use Rattle.std.specs.Vec.{vec_len, vec_capacity}
use Rattle.std.specs.Vec.Iter.{into_iter_items, into_iter_len}
use Rattle.fw_head.specs.Row.{bytes_of}
use Rattle.fw_world.specs.State.{sent_to}
use Rattle.fw_world.proofs.lists.send.Given as goal

-- what is noted and what is left is the whole, for which there is room
abbrev pub invariant-loop-bytes : goal.invariant-loop-bytes
invariant-loop-bytes l =
    (l.sent.items ++ sent_to l.head l.meter (bytes_of (into_iter_items l.bytes-iterator)) ≡ l.fn.sent.items ++ sent_to l.head l.meter (bytes_of l.fn.sends.items))
    × (into_iter_len l.bytes-iterator ≡ length (into_iter_items l.bytes-iterator))
    × (vec_len l.sent + length (into_iter_items l.bytes-iterator) ≤ vec_capacity l.sent)
