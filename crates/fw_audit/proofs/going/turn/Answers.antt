use Rattle.std.proofs.Common.{rules, ◌≡◌, true, sym, ap, subst, append-nil, ◌∙◌}
use Rattle.fw_image.specs.Meter.{Meter}
use Rattle.fw_image.specs.State.{State}
use Rattle.fw_image.specs.Step.{Turn}
use Rattle.fw_stored.specs.Stored.{IsSound}
use Rattle.fw_audit.specs.Stands.{waits}
use Rattle.fw_audit.proofs.Steps.{still_sound, turn_true, turned_next}
use Rattle.fw_audit.proofs.going.turn.Goals as goal

pub returns-then-eq : goal.returns-then-eq
returns-then-eq c heads =
    let old = c.args.meter in
    let new = c.turn.new.self in
    let same : c.started.result.meter.meter ≡ new.meter = ap (λ (s : State). s.meter) c.started.ensures.meter in
    turned_next c.one_turn.ensures c.turn_keeps_size.ensures heads c.args.switched.items old.meter c.started.result
    (search rules)
    (subst (λ (m : Meter). Turn true old.meter true m) (sym same) (turn_true old new c.requires c.turn.ensures))
    (c.started.ensures.stand ∙ ap (λ (m : Meter). waits m) (sym same))
    (c.started.ensures.images ∙ sym (append-nil c.args.switched.items))
    (subst IsSound (sym c.started.ensures.meter) (still_sound old new c.requires c.turn.ensures.follows))
