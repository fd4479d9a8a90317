use Rattle.std.proofs.Common.{ap, ◌∙◌}
use Rattle.fw_order.specs.Order.{ends_of}
use Rattle.fw_order.specs.Private.{far}
use Rattle.fw_order.proofs.Steps.{gone_none}
use Rattle.fw_order.proofs.joining.join.Goals as goal

pub look_for-requires : goal.look_for-requires
look_for-requires c =
    gone_none (ends_of c.args.logs.now) (far c.as_mut_slice.result.now c.none-sent.result) (ap ends_of (c.as_mut_slice.ensures.value ∙ c.in-Ok.ensures.all)) c.none-sent.ensures
