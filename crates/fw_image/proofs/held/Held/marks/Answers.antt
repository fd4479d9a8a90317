use Rattle.std.proofs.Common.{Option, take, ap, sym, ◌∙◌}
use Rattle.fw_store.specs.Header.{goal_count}
use Rattle.fw_store.specs.declared.header.Goal.{Goal}
use Rattle.fw_image.specs.Shown.{Shown}
use Rattle.fw_image.specs.Stored.{seen, phase_of}
use Rattle.fw_image.proofs.Meters.{seen_size, shown_at, goal_at, goal_again}
use Rattle.fw_image.proofs.held.Held.marks.Goals as goal

pub returns : goal.returns
returns g c =
    let known = g.S.ImageStore.known in
    let store = known c.self.inside.store in
    let h = c.self.inside.header in
    let valid = c.self.invariant.held.valid in
    let sized = seen_size store.honest store.capacity store.device (g.met.S.ImageStore.sized c.self.inside.store) in
    let shown = shown_at store.capacity h c.self.inside.digesting (seen store.honest store.capacity store.device) valid sized in
    rw (← c.self.view_is)
    (ap (λ (goal : Option Goal). take (goal_count h.block_size goal) h.marks) (goal_at c.self.inside.digesting (phase_of h.status h.goal) ∙ goal_again h.status h.goal valid.goal_by_status)
    ∙ sym (ap (λ (x : Shown). x.marked) shown))
