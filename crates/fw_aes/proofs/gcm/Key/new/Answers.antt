use Rattle.std.proofs.Common.{ap, ◌∙◌}
use Rattle.std.specs.Int.{from_be_bytes, w128}
use Rattle.fw_aes.specs.Gcm.{hash_subkey}
use Rattle.fw_aes.proofs.gcm.Key.new.Goals as goal

pub invariant_of-result : goal.invariant_of-result
unfolding hash_subkey
invariant_of-result c = c.new-hash_key.ensures ∙ c.from_be_bytes.ensures ∙ ap (from_be_bytes w128) c.cipher.ensures
