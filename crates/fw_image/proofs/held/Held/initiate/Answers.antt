use Rattle.std.proofs.Common.{None, refl}
use Rattle.fw_image.specs.Step.{initiate, done}
use Rattle.fw_image.proofs.Blocks.{none_has}
use Rattle.fw_image.proofs.Moves.{leaves, makes_written, held_written, header_begun, meter_of-begun, trusted_begun, valid_begun}
use Rattle.fw_image.proofs.held.Held.initiate.Goals as goal

pub invariant_of-self-2 : goal.invariant_of-self-2
invariant_of-self-2 g c =
    let h = c.self.inside.header in
    let told = c.in_ok-replace.ensures in
    let none = none_has _ c.no_marks.result c.no_marks.ensures in
    let offer = rw c.capacity.ensures at (c.if-not-is_offer.ensures.0 refl) in
    let valid = valid_begun _ h c.args.name c.args.size c.no_marks.result none c.self.invariant.held.valid told.fits offer in
    rw told.done (record {
      held = held_written (g.S.ImageStore.known c.self.inside.store) (g.S.ImageStore.known c.replace.new.store) h _ (g.met.S.ImageStore.sized c.self.inside.store) told.kept told.written c.self.invariant.held valid
          (λ d d' views honest trusted. rw (meter_of-begun _ h d d' c.args.name c.args.size c.no_marks.result none views.same) (trusted_begun _ c.args.name c.args.size trusted));
      digested = tt;
    })

pub returns-clause-makes : goal.returns-clause-makes
returns-clause-makes g c =
    let h = c.self.inside.header in
    let told = c.in_ok-replace.ensures in
    let none = none_has _ c.no_marks.result c.no_marks.ensures in
    let offer = rw c.capacity.ensures at (c.if-not-is_offer.ensures.0 refl) in
    rw (← c.self.view_is, told.done) (makes_written (g.S.ImageStore.known c.self.inside.store) (g.S.ImageStore.known c.replace.new.store) h (header_begun h c.args.name c.args.size c.no_marks.result) c.self.inside.digesting None (initiate c.args.name c.args.size) done refl (g.met.S.ImageStore.sized c.self.inside.store) told.kept told.cause.counted told.written told.spends (c.if-not-self.false, offer)
    (λ d d' views. leaves _ _ _ (meter_of-begun _ h d d' c.args.name c.args.size c.no_marks.result none views.same)))
