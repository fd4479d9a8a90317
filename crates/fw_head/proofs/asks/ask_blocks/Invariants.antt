use Rattle.std.proofs.Common.{◌≡◌, ℕ, List, ◌+◌, ◌-◌, ◌≤◌, ◌++◌, length, map}
use Rattle.fw_blocks.specs.Width.{max_width}
use Rattle.fw_head.specs.Phase.{block_ask}
use Rattle.fw_head.specs.Row.{bytes_of, datagrams, asking_all}
use Rattle.fw_head.specs.Private.{AskedLately, Carry}
use Rattle.fw_head.proofs.asks.ask_blocks.Given as goal

-- what was sent, and then what is still to be asked, is the whole
abbrev pub invariant-loop-number : goal.invariant-loop-number
invariant-loop-number l =
    (bytes_of l.sent.items ++ datagrams l.client (map (block_ask l.image l.geometry) l.rest) ≡ datagrams l.fn.client (map (block_ask l.image l.geometry) l.numbers))
    × (asking_all l.client (map (block_ask l.image l.geometry) l.rest) ≡ asking_all l.fn.client (map (block_ask l.image l.geometry) l.numbers))
    × AskedLately l.client (max_width - length l.rest)
    × (length l.rest ≤ max_width)
    × (length l.sent.items + length l.rest ≤ max_width)
    × ((later : List (List ℕ)) → Carry l.client (map (block_ask l.image l.geometry) l.rest) later → Carry l.fn.client (map (block_ask l.image l.geometry) l.numbers) (bytes_of l.sent.items ++ later))

abbrev pub decreases-loop-number : goal.decreases-loop-number
decreases-loop-number l = length l.rest
