use Rattle.std.proofs.Common.{◌≡◌, length}
use Rattle.std.specs.Prelude.{is_some}
use Rattle.fw_text.specs.Words.{numbers_of, words_behind}
use Rattle.fw_text.proofs.words.are_numbers.Given as goal

abbrev pub invariant-loop-word : goal.invariant-loop-word
invariant-loop-word l = is_some (numbers_of (words_behind l.left)) ≡ is_some (numbers_of (words_behind l.rest))

abbrev pub decreases-loop-word : goal.decreases-loop-word
decreases-loop-word l = length l.left
