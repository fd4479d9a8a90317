use Rattle.std.proofs.Common.{List, ℕ, ap, ◌∙◌}
use Rattle.fw_aes.specs.Aes.{cipher}
use Rattle.fw_aes.specs.Gcm.{hash_subkey}
use Rattle.fw_aes.proofs.TagFacts.{lengths_code, tag_code}
use Rattle.fw_aes.proofs.gcm.Key.tag.Goals as goal

pub returns : goal.returns
returns c =
    let key : List ℕ = c.args.self.now in
    tag_code key c.args.iv.now c.args.aad.now c.args.text.now c.cipher-mask.result c.to_be_bytes-s.result c.tag_bytes.result c.self.inside.hash_key c.hash.result c.hash-y.result _
    c.dot.result (c.self.invariant ∙ ap hash_subkey c.self.view_is) c.hash.ensures c.hash-y.ensures (lengths_code c.args.aad.now c.args.text.now c.requires.aad) c.dot.ensures
    c.to_be_bytes-s.ensures
    (c.cipher-mask.ensures ∙ ap (λ (k : List ℕ). cipher k c.counter_block.result) c.self.view_is ∙ ap (cipher key) c.counter_block.ensures) c.tag_bytes.ensures
