use Rattle.std.proofs.Common.{◌≡◌, map, take}
use Rattle.fw_script.specs.Fates.{letter_of}
use Rattle.fw_script.proofs.fates.read_fates.Given as goal

abbrev pub invariant-loop-letter : goal.invariant-loop-letter
invariant-loop-letter l = map letter_of l.fates.items ≡ take l.letter-index l.letters
