use Rattle.std.proofs.Common.{◌≡◌, true, false, refl, sym, ap, subst, append-nil, ◌∙◌}
use Rattle.fw_image.specs.State.{State}
use Rattle.fw_stored.specs.Stored.{IsSound}
use Rattle.fw_audit.proofs.Steps.{paid_next}
use Rattle.fw_audit.proofs.going.pay.Goals as goal

pub returns-then-not-is_owed : goal.returns-then-not-is_owed
returns-then-not-is_owed c heads =
    (refl, λ images new h. let bad : true ≡ false = sym (c.is_owed.ensures.1 (h.0, h.1)) ∙ c.if-not-is_owed.true in absurd cc)

pub returns : goal.returns
returns c heads =
    let owed = c.args.owed in
    let is = c.is_owed.ensures.0 c.if-not-is_owed.false in
    paid_next heads c.args.switched.items c.args.meter.meter owed.to c.args.to owed.reply.items c.args.bytes.now c.started.result
    is.0 is.1 (ap (λ (s : State). s.meter) c.started.ensures.meter) c.started.ensures.stand
    (c.started.ensures.images ∙ sym (append-nil c.args.switched.items))
    (subst IsSound (sym c.started.ensures.meter) c.requires)
