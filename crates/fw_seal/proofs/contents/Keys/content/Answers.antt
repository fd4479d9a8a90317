use Rattle.std.proofs.Common.{◌≡◌, List, ℕ, [], ◌∷◌, ◌++◌, length, ap, ◌∙◌, arith}
use Rattle.fw_seal.specs.Sealing.{Keys}
use Rattle.fw_seal.proofs.ContentFacts.{content_put, length-content_of, shown_whole}
use Rattle.fw_seal.proofs.contents.Keys.content.Goals as goal

pub returns-clause-content : goal.returns-clause-content
returns-clause-content c =
    let same : length c.seal-mac.new.text ≡ c.in_ok-text.text.len =
    omega (arith, c.seal-mac.auto.text, ap length c.as_mut_slice.ensures.value, ap length c.in_ok-text.ensures.items, c.in_ok-text.ensures.len) in
    content_put (record { encryption = c.args.self.now.encryption; authentication = c.args.self.now.authentication }) c.args.title.now c.args.apdu.now
    c.as_mut_slice.result.now c.seal-mac.new.text c.as_slice.result.now c.seal-mac.result c.iv.result c.aad.result c.push.new.self.items
    c.extend_from_slice.new.self.items c.extend_from_slice-2.new.self.items c.extend_from_slice-3.new.self.items c.args.counter
    (c.as_mut_slice.ensures.value ∙ c.in_ok-text.ensures.items) c.iv.ensures c.aad.ensures c.seal-mac.ensures.text c.seal-mac.ensures.tag
    (c.as_slice.ensures.value ∙ shown_whole c.seal-mac.new.text c.in_ok-text.text.items c.in_ok-text.text.len same)
    (c.in_ok-push.ensures.items ∙ ap (λ (xs : List ℕ). xs ++ 0x30 ∷ []) c.in_ok-content.ensures.items)
    (c.in_ok-extend_from_slice.ensures.items ∙ ap (λ (bs : List ℕ). c.push.new.self.items ++ bs) c.to_be_bytes.ensures) c.in_ok-extend_from_slice-2.ensures.items
    c.in_ok-extend_from_slice-3.ensures.items

pub returns-clause-len : goal.returns-clause-len
returns-clause-len c =
    let keys : Keys = record { encryption = c.args.self.now.encryption; authentication = c.args.self.now.authentication } in
    ap length (returns-clause-content c) ∙ length-content_of keys c.args.title.now c.args.counter c.args.apdu.now
