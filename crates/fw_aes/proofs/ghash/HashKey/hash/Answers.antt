use Rattle.std.proofs.Common.{◌≡◌, ℕ, ◌*◌, ap, ◌∙◌}
use Rattle.std.specs.Int.{w128, from_be_bytes}
use Rattle.std.specs.Prelude.{slice_range}
use Rattle.fw_aes.specs.Gcm.{block_at, block_of}
use Rattle.fw_aes.proofs.BlockFacts.{hash_next}
use Rattle.fw_aes.proofs.ghash.HashKey.hash.Goals as goal

pub loop-i-preserved : goal.loop-i-preserved
loop-i-preserved c =
    let x : c.from_be_bytes.result ≡ block_at c.args.bytes.now c.loop-i.i =
    c.from_be_bytes.ensures
    ∙ ap (from_be_bytes w128) (c.block_of-block.ensures ∙ ap (λ (end : ℕ). block_of (slice_range c.args.bytes.now (16 * c.loop-i.i) end)) c.min-end.ensures) in
    hash_next c.args.self.now c.args.y c.args.bytes.now c.loop-i.y c.dot-y.result c.from_be_bytes.result c.loop-i.i c.loop-i.invariant x c.dot-y.ensures
