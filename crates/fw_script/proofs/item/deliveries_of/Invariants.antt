use Rattle.std.proofs.Common.{◌≡◌, map, length}
use Rattle.std.specs.Prelude.{option_map}
use Rattle.fw_world.specs.Runs.{events_of}
use Rattle.fw_world.specs.Step.{deliver}
use Rattle.fw_text.specs.Words.{numbers_of, words_behind}
use Rattle.fw_text.proofs.WordLemmas.{collected}
use Rattle.fw_script.proofs.item.deliveries_of.Given as goal

abbrev pub invariant-loop-datagram : goal.invariant-loop-datagram
invariant-loop-datagram l = collected deliver (events_of l.events.items) (words_behind l.left) ≡ option_map (map deliver) (numbers_of (words_behind l.rest))

abbrev pub decreases-loop-datagram : goal.decreases-loop-datagram
decreases-loop-datagram l = length l.left
