use Rattle.std.proofs.Common.{refl, sym, ap, ◌∙◌}
use Rattle.fw_axdr.specs.Bits.{packed}
use Rattle.fw_image.specs.Stored.{seen, phase_of}
use Rattle.fw_image.specs.Meter.{status_of}
use Rattle.fw_image.specs.State.{State}
use Rattle.fw_image.proofs.Fits.{fit_at}
use Rattle.fw_image.proofs.Meters.{seen_size, shown_at, goal_at, goal_again}
use Rattle.fw_image.proofs.Openings.{marks_shown}
use Rattle.fw_image.proofs.held.Held.view.Goals as goal

pub returns-clause-view : goal.returns-clause-view
returns-clause-view g c =
    let known = g.S.ImageStore.known in
    let store = known c.self.inside.store in
    let h = c.self.inside.header in
    let valid = c.self.invariant.held.valid in
    let sized = seen_size store.honest store.capacity store.device (g.met.S.ImageStore.sized c.self.inside.store) in
    rw (← c.self.view_is, shown_at store.capacity h c.self.inside.digesting (seen store.honest store.capacity store.device) valid sized) (record {
      limit = c.block_limit.ensures.value;
      enabled = refl;
      status = c.status.ensures ∙ ap (λ (x : State). status_of x.meter.phase) (sym c.self.view_is);
      active = refl;
      active_size = refl;
      goal = sym (goal_at c.self.inside.digesting (phase_of h.status h.goal) ∙ goal_again h.status h.goal valid.goal_by_status);
      marked = c.to_bytes.ensures.value ∙ ap packed (sym (marks_shown store.capacity h valid));
    })

pub returns-clause-fits : goal.returns-clause-fits
returns-clause-fits g c =
    let known = g.S.ImageStore.known in
    let store = known c.self.inside.store in
    let sized = seen_size store.honest store.capacity store.device (g.met.S.ImageStore.sized c.self.inside.store) in
    rw (← c.self.view_is) (fit_at c.cut_size.ensures store.capacity c.self.inside.header c.self.inside.digesting (seen store.honest store.capacity store.device) c.self.invariant.held.valid sized)

pub returns-clause-over : goal.returns-clause-over
returns-clause-over g c = rw (← c.self.view_is) (record { store = c.self.inside.store; honesty = refl; soundness = refl; count = refl; calls = refl })
