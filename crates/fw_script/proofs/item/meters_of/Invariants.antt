use Rattle.std.proofs.Common.{◌≡◌, length}
use Rattle.fw_text.specs.Words.{numbers_of, words_behind}
use Rattle.fw_text.proofs.WordLemmas.{collected}
use Rattle.fw_script.proofs.item.meters_of.Given as goal

abbrev pub invariant-loop-meter : goal.invariant-loop-meter
invariant-loop-meter l = collected (λ n. n) l.meters.items (words_behind l.left) ≡ numbers_of (words_behind l.rest)

abbrev pub decreases-loop-meter : goal.decreases-loop-meter
decreases-loop-meter l = length l.left
