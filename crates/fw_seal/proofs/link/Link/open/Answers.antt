use Rattle.std.proofs.Common.{◌≡◌, ℕ, List, Some, sym, ap, subst, ◌∙◌}
use Rattle.fw_seal.specs.Sealing.{Ends, IsSealing, Keys, NoSealing, tag_for}
use Rattle.fw_seal.proofs.OpeningFacts.{no_content, no_frame, not_none, not_other, opened, other_tag, wrong_mac}
use Rattle.fw_seal.proofs.link.Link.open.Goals.{in_default-tag_for-via-in-Some-tag_for+else-found-tag, in_default-tag_for-via-in_default-tag_for}
use Rattle.fw_seal.proofs.link.Link.open.Goals as goal

pub returns-in_default-clause-refused : goal.returns-in_default-clause-refused
returns-in_default-clause-refused c = no_frame c.args.self.now.keys c.args.self.now.other c.args.bytes.now c.in_default.ensures.none

pub returns-in_default-parts_of-clause-refused : goal.returns-in_default-parts_of-clause-refused
returns-in_default-parts_of-clause-refused c =
    no_content c.args.self.now.keys c.args.self.now.other c.args.bytes.now c.in-Some.content.now c.in-Some.tag c.in-Some.ensures.found
    c.in_default-parts_of.ensures.none

pub returns-in_default-2-clause-refused : goal.returns-in_default-2-clause-refused
returns-in_default-2-clause-refused c =
    let keys : Keys = record { encryption = c.self.inside.keys.encryption; authentication = c.self.inside.keys.authentication } in
    subst (λ (e : Ends). NoSealing e.keys e.other c.args.bytes.now) c.self.view_is
    (wrong_mac keys c.self.inside.other c.args.bytes.now c.in-Some.content.now c.in-Some-parts_of.parts.text.now c.in-Some-parts_of.parts.mac.now c.in-Some.tag
    c.in-Some-parts_of.parts.counter c.in-Some.ensures.found c.in-Some-parts_of.ensures.found (rw c.in_default-2.is at c.in_ok-apdu.ensures))

pub returns-in-Some-tag_for-clause-opens : goal.returns-in-Some-tag_for-clause-opens
returns-in-Some-tag_for-clause-opens c =
    let keys : Keys = record { encryption = c.self.inside.keys.encryption; authentication = c.self.inside.keys.authentication } in
    let found = rw c.in-Some-2.is at c.in_ok-apdu.ensures in
    let named : tag_for c.in-Some-2.apdu.items ≡ Some c.in-Some.tag =
    ap (λ (xs : List ℕ). tag_for xs) (sym c.as_slice.ensures.value) ∙ sym c.tag_for.ensures ∙ c.in-Some-tag_for.is ∙ ap (λ (n : ℕ). Some n) c.if-found-tag.true in
    subst (λ (e : Ends). IsSealing e.keys e.other c.in-Some-parts_of.parts.counter c.in-Some-2.apdu.items c.args.bytes.now) c.self.view_is
    (opened c.opens_what_was_sealed.ensures keys c.self.inside.other c.args.bytes.now c.in-Some.content.now c.in-Some-parts_of.parts.text.now
    c.in-Some-parts_of.parts.mac.now c.in-Some-2.apdu.items c.in-Some.tag c.in-Some-parts_of.parts.counter c.in-Some.ensures.found
    c.in-Some-parts_of.ensures.found found.0 found.1 named)

pub returns-in_default-tag_for-clause-refused : goal.returns-in_default-tag_for-clause-refused
returns-in_default-tag_for-clause-refused c =
    let keys : Keys = record { encryption = c.self.inside.keys.encryption; authentication = c.self.inside.keys.authentication } in
    let found = rw c.in-Some-2.is at c.in_ok-apdu.ensures in
    let told : c.tag_for.result ≡ tag_for c.in-Some-2.apdu.items = c.tag_for.ensures ∙ ap (λ (xs : List ℕ). tag_for xs) c.as_slice.ensures.value in
    let refused : (tag_for c.in-Some-2.apdu.items ≡ Some c.in-Some.tag → ⊥) → NoSealing keys c.self.inside.other c.args.bytes.now =
    other_tag c.opens_what_was_sealed.ensures keys c.self.inside.other c.args.bytes.now c.in-Some.content.now c.in-Some-parts_of.parts.text.now
    c.in-Some-parts_of.parts.mac.now c.in-Some-2.apdu.items c.in-Some.tag c.in-Some-parts_of.parts.counter c.in-Some.ensures.found
    c.in-Some-parts_of.ensures.found found.1 in
    subst (λ (e : Ends). NoSealing e.keys e.other c.args.bytes.now) c.self.view_is
    (elim c.in_default-tag_for.branch [
      | in_default-tag_for-via-in-Some-tag_for+else-found-tag w ↦
          refused (λ e. not_other c.tag_for.result w.in-Some-tag_for.found c.in-Some.tag w.in-Some-tag_for.is w.if-found-tag.false (told ∙ e))
      | in_default-tag_for-via-in_default-tag_for w ↦ refused (λ e. not_none c.tag_for.result c.in-Some.tag w.in_default-tag_for.is (told ∙ e))
    ])
