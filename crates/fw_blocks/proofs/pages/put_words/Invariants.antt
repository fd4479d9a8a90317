use Rattle.std.proofs.Common.{◌≡◌, ◌*◌, w64, length, take}
use Rattle.std.specs.Int.{to_be_bytes}
use Rattle.std.specs.List.{flat_map}
use Rattle.fw_blocks.proofs.pages.put_words.Given as goal

abbrev pub invariant-loop-page : goal.invariant-loop-page
invariant-loop-page l = (take (8 * l.page) l.bytes ≡ flat_map (to_be_bytes w64) (take l.page l.words)) × (length l.bytes ≡ 8 * length l.words)
