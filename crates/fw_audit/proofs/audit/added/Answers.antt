use Rattle.std.proofs.Common.{List, sym, subst}
use Rattle.fw_audit.specs.Private.{Adds, HasMeter}
use Rattle.fw_audit.specs.declared.life.Left.{Left}
use Rattle.fw_audit.proofs.Gathering.{adds_none, adds_one}
use Rattle.fw_audit.proofs.audit.added.Goals as goal

pub returns-then-has : goal.returns-then-has
returns-then-has c = adds_none c.args.found.items c.args.left (subst (λ (l : List Left). HasMeter l c.args.left.meter.meter) c.deref.ensures.value (c.has.ensures c.if-has.true))

pub returns : goal.returns
returns c = subst (λ (l : List Left). Adds c.args.found.items c.args.left l) (sym c.in_ok-push.ensures.items) (adds_one c.args.found.items c.args.left)
