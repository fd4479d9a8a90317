use Rattle.std.proofs.Common.{rules, ◌≡◌, ◌≢◌, refl, sym, ◌∙◌}
use Rattle.fw_image.specs.Calls.{verified_size}
use Rattle.fw_image.specs.Meter.{Phase, idle, receiving, verifying, verified, spoilt, switched, status_of}
use Rattle.fw_image.specs.Stored.{seen}
use Rattle.fw_image.specs.declared.status.TransferStatus.TheVariants.{VerificationSuccessful}
use Rattle.fw_image.proofs.Fits.{fit_at}
use Rattle.fw_image.proofs.Meters.{seen_size}
use Rattle.fw_image.proofs.held.Held.verified_size.Goals as goal

-- no other status has a verified goal
none_verified : (phase : Phase) → status_of phase ≢ VerificationSuccessful → verified_size phase ≡ 0
none_verified idle other = refl
none_verified (receiving goal) other = refl
none_verified (verifying goal taken) other = refl
none_verified (verified goal) other = absurd (other refl)
none_verified (spoilt goal) other = refl
none_verified switched other = refl

pub returns-in-VerificationSuccessful-Some-clause-fits : goal.returns-in-VerificationSuccessful-Some-clause-fits
returns-in-VerificationSuccessful-Some-clause-fits g c =
    let known = g.S.ImageStore.known in
    let store = known c.self.inside.store in
    let sized = seen_size store.honest store.capacity store.device (g.met.S.ImageStore.sized c.self.inside.store) in
    rw (← c.self.view_is) (fit_at c.cut_size.ensures store.capacity c.self.inside.header c.self.inside.digesting (seen store.honest store.capacity store.device) c.self.invariant.held.valid sized)

pub returns-in_default-2 : goal.returns-in_default-2
returns-in_default-2 g c =
    let known = g.S.ImageStore.known in
    let store = known c.self.inside.store in
    let sized = seen_size store.honest store.capacity store.device (g.met.S.ImageStore.sized c.self.inside.store) in
    record {
      size = sym (none_verified c.args.self.now.meter.phase (λ e. c.in_default.not-VerificationSuccessful-0 (c.status.ensures ∙ e)));
      fits = rw (← c.self.view_is) (fit_at c.cut_size.ensures store.capacity c.self.inside.header c.self.inside.digesting (seen store.honest store.capacity store.device) c.self.invariant.held.valid sized);
      trusted = search rules;
    }
