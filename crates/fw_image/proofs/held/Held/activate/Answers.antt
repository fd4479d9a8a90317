use Rattle.std.proofs.Common.{◌≡◌, None, refl, sym, subst}
use Rattle.fw_image.specs.Step.{activate, done, Admits}
use Rattle.fw_image.specs.Meter.{Phase, status_of}
use Rattle.fw_image.specs.Stored.{meter_of, phase_of, phase_at, seen}
use Rattle.fw_image.specs.declared.status.TransferStatus.TheVariants.{VerificationSuccessful}
use Rattle.fw_image.proofs.Blocks.{none_has}
use Rattle.fw_image.proofs.Meters.{none_digested}
use Rattle.fw_image.proofs.Moves.{leaves, makes_written, held_written, has_verified, verified_bytes, header_switched, meter_of-switched, trusted_switched, valid_switched}
use Rattle.fw_image.proofs.held.Held.activate.Goals as goal

pub invariant_of-self-2 : goal.invariant_of-self-2
invariant_of-self-2 g c =
    let h = c.self.inside.header in
    let valid = c.self.invariant.held.valid in
    let wanted = c.in-Some.goal in
    let told = c.in_ok-replace.ensures in
    let none = none_has _ c.no_marks.result c.no_marks.ensures in
    let at : status_of (phase_at c.self.inside.digesting (phase_of h.status h.goal)) ≡ VerificationSuccessful = rw (← c.self.view_is) at c.requires in
    let none_digests = none_digested (g.S.ImageStore.known c.self.inside.store) h c.self.inside.digesting c.self.invariant.digested VerificationSuccessful at (λ e. cc) in
    let status : status_of (phase_of h.status h.goal) ≡ VerificationSuccessful = rw none_digests at at in
    let phase = has_verified _ h wanted valid status c.in-Some.is in
    rw (told.done, none_digests) (record {
      held = held_written (g.S.ImageStore.known c.self.inside.store) (g.S.ImageStore.known c.replace.new.store) h _ (g.met.S.ImageStore.sized c.self.inside.store) told.kept told.written c.self.invariant.held
          (valid_switched _ h c.other.result wanted c.no_marks.result none c.in-Some.is valid told.fits)
          (λ d d' views honest trusted.
          let whole = verified_bytes c.cuts_join.ensures _ h d wanted valid views.sized status c.in-Some.is in
          rw (meter_of-switched _ h d d' c.other.result wanted c.no_marks.result c.other.ensures views.same phase whole) (trusted_switched _ wanted _ phase whole trusted));
      digested = tt;
    })

pub returns-clause-makes : goal.returns-clause-makes
returns-clause-makes g c =
    let h = c.self.inside.header in
    let valid = c.self.invariant.held.valid in
    let wanted = c.in-Some.goal in
    let told = c.in_ok-replace.ensures in
    let known = g.S.ImageStore.known in
    let store = known c.self.inside.store in
    let m = meter_of store.capacity h (seen store.honest store.capacity store.device) in
    let at : status_of (phase_at c.self.inside.digesting (phase_of h.status h.goal)) ≡ VerificationSuccessful = rw (← c.self.view_is) at c.requires in
    let none_digests = none_digested (known c.self.inside.store) h c.self.inside.digesting c.self.invariant.digested VerificationSuccessful at (λ e. cc) in
    let status : status_of (phase_of h.status h.goal) ≡ VerificationSuccessful = rw none_digests at at in
    let phase = has_verified _ h wanted valid status c.in-Some.is in
    let admits = subst (λ (p : Phase). Admits m p activate) (sym phase) tt in
    rw (← c.self.view_is, told.done, none_digests) (makes_written store (known c.replace.new.store) h (header_switched h c.other.result wanted c.no_marks.result) None None activate done refl (g.met.S.ImageStore.sized c.self.inside.store) told.kept told.cause.counted told.written told.spends (c.if-not-self.false, admits)
    (λ d d' views.
    leaves _ _ _ (meter_of-switched _ h d d' c.other.result wanted c.no_marks.result c.other.ensures views.same phase (verified_bytes c.cuts_join.ensures _ h d wanted valid views.sized status c.in-Some.is))))
