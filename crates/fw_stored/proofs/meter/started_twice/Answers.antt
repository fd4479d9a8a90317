use Rattle.std.proofs.Common.{ap, ◌∙◌}
use Rattle.fw_store.specs.Known.{Known}
use Rattle.fw_image.specs.Meter.{reopened}
use Rattle.fw_stored.proofs.Stopping.{copied_meter}
use Rattle.fw_stored.proofs.meter.started_twice.Goals as goal

pub started-requires-clause-there : goal.started-requires-clause-there
started-requires-clause-there c =
    let kept = c.into_store-store.ensures in
    (reopened c.args.meter.meter, kept.meter, kept.trusted)

pub started-requires-2-clause-unfused : goal.started-requires-2-clause-unfused
started-requires-2-clause-unfused c = ap (λ (k : Known). k.fuse) c.in_ok-copy.ensures ∙ c.into_store-store.ensures.unfused

pub started-requires-2-clause-there : goal.started-requires-2-clause-there
started-requires-2-clause-there c =
    let kept = c.into_store-store.ensures in
    (reopened c.args.meter.meter, copied_meter (reopened c.args.meter.meter) c.in_ok-copy.copy c.into_store-store.result c.in_ok-copy.ensures kept.meter, kept.trusted)

pub returns-clause-first : goal.returns-clause-first
returns-clause-first c =
    let kept = c.into_store-store.ensures in
    c.started.ensures.meter (reopened c.args.meter.meter) kept.meter kept.trusted

pub returns-clause-second : goal.returns-clause-second
returns-clause-second c =
    let kept = c.into_store-store.ensures in
    c.started-2.ensures.meter (reopened c.args.meter.meter) (copied_meter (reopened c.args.meter.meter) c.in_ok-copy.copy c.into_store-store.result c.in_ok-copy.ensures kept.meter) kept.trusted
