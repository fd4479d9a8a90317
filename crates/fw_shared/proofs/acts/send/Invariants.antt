use Rattle.std.proofs.Common.{◌≡◌, ◌+◌, ◌≤◌, ◌++◌, length}
use Rattle.std.specs.Vec.Iter.{into_iter_items, into_iter_len}
use Rattle.fw_blocks.specs.Width.{max_width}
use Rattle.fw_head.specs.Row.{bytes_of}
use Rattle.fw_world.specs.State.{sent_to}
use Rattle.fw_shared.proofs.acts.send.Given as goal

-- what is in the room and what is left is the whole, and fits
abbrev pub invariant-loop-bytes : goal.invariant-loop-bytes
invariant-loop-bytes l =
    (l.room ++ sent_to l.head l.meter (bytes_of (into_iter_items l.bytes-iterator)) ≡ l.fn.room ++ sent_to l.head l.meter (bytes_of l.fn.sends.items))
    × (into_iter_len l.bytes-iterator ≡ length (into_iter_items l.bytes-iterator))
    × (length l.room + length (into_iter_items l.bytes-iterator) ≤ max_width)
