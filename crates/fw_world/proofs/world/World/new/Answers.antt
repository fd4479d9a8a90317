use Rattle.std.proofs.Common.{ap, ◌∙◌}
use Rattle.fw_world.specs.Setup.{IsSetup, repeats, number_of_head, number_of_meter}
use Rattle.fw_world.proofs.Openings.{new_own}
use Rattle.fw_world.proofs.Keeping.{new_once}
use Rattle.fw_world.proofs.world.World.new.Goals as goal

pub invariant_of-result : goal.invariant_of-result
invariant_of-result c =
    let setup : IsSetup c.args.setup.now = c.is_valid.ensures.0 c.if-not-is_valid.false in
    record {
      state = new_own c.deref.result.now _ c.in_ok-heads_of.ensures.made;
      once = new_once c.deref.result.now c.deref-2.result.now _ c.in_ok-heads_of.ensures.made c.in_ok-meters_of.ensures.made
          (ap (repeats number_of_head) c.deref.ensures.value ∙ setup.heads_once)
          (ap (repeats number_of_meter) c.deref-2.ensures.value ∙ setup.meters_once);
    }
