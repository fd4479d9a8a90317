use Rattle.std.proofs.Common.{◌≡◌, ◌%◌, ◌^◌, ◌∷◌, [], refl, arith}
use Rattle.std.specs.Int.{w32, to_be_bytes}
use Rattle.fw_aes.proofs.StreamFacts.{counter_placed}
use Rattle.fw_aes.proofs.gcm.counter_block.Goals as goal

pub returns : goal.returns
returns c =
    let small : c.args.n % 2 ^ 32 ≡ c.args.n = omega arith in
    rw (c.copy_from_slice.ensures.after, c.copy_from_slice-2.ensures.after, c.to_be_bytes.ensures, small) (counter_placed c.args.iv.now (0 ∷ 0 ∷ 0 ∷ 0 ∷ []) (to_be_bytes w32 c.args.n) c.told-iv refl)
