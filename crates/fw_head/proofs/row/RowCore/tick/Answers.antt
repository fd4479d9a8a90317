use Rattle.std.proofs.Common.{◌≡◌, ℕ, sym, ap, subst, ◌∙◌}
use Rattle.fw_client.specs.State.{State, forgetting}
use Rattle.fw_head.specs.Row.{Row, bytes_of, tick_asks}
use Rattle.fw_head.specs.Private.{Carry, IsOwn}
use Rattle.fw_head.proofs.Permitted.{tick_permitted}
use Rattle.fw_head.proofs.Sending.{same_meter}
use Rattle.fw_head.proofs.row.RowCore.tick.Goals as goal

pub invariant_of-self : goal.invariant_of-self
invariant_of-self c =
    let asks : c.ask.new.client.meter ≡ c.self.inside.client.meter =
    ap (λ (s : State). s.meter) c.in_ok-sent.ensures.asked
    ∙ same_meter c.forget.new.self (tick_asks c.args.self.now c.args.image.now c.args.width)
    ∙ ap (λ (s : State). s.meter) c.forget.ensures
    ∙ ap (λ (s : State). s.meter) c.duplicate-client.ensures in
    let P : ℕ → Type 0 = λ m. IsOwn m c.self.inside.name c.self.inside.size c.self.inside.stage in
    record { most = c.self.invariant.most; own = subst P (sym asks) c.self.invariant.own; asking = c.self.invariant.asking }

pub returns-clause-permitted : goal.returns-clause-permitted
returns-clause-permitted c =
    let client : c.forget.new.self ≡ forgetting c.args.self.now.client = c.forget.ensures ∙ ap forgetting (c.duplicate-client.ensures ∙ ap (λ (r : Row). r.client) c.self.view_is) in
    let carry = subst (λ (s : State). Carry s (tick_asks c.args.self.now c.args.image.now c.args.width) (bytes_of c.in_ok-sent.sent.items)) client c.in_ok-sent.ensures.carry in
    tick_permitted c.self.inside.client.meter _ c.args.self.now c.args.image.now c.args.width _ c.self.view_is c.self.invariant.own carry
