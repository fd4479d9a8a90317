use Rattle.std.proofs.Common.{◌≡◌, take}
use Rattle.fw_cli.specs.Keying.{numbers_of}
use Rattle.fw_cli.proofs.keys.numbers_of.Given as goal

abbrev pub invariant-loop-at : goal.invariant-loop-at
invariant-loop-at l = l.meters.items ≡ numbers_of (take l.at-index l.list)
