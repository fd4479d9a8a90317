use Rattle.std.proofs.Common.{◌<◌, length, true, set, ap, ◌∙◌, arith}
use Rattle.fw_blocks.proofs.RunLemmas.{length-set_of}
use Rattle.fw_blocks.proofs.PutLemmas.{set_of-puts}
use Rattle.fw_blocks.proofs.block_set.BlockSet.mark.Goals as goal

pub put-requires : goal.put-requires
put-requires c =
    let size = length-set_of c.self.inside.count c.self.inside.runs.items in
    (c.self.inside.count, omega (arith, size, ap length c.self.view_is, c.requires), c.self.invariant)

pub invariant_of-self : goal.invariant_of-self
invariant_of-self c =
    let size = length-set_of c.self.inside.count c.self.inside.runs.items in
    let kept = c.self.invariant in
    let below : c.args.number < c.self.inside.count = omega (arith, size, ap length c.self.view_is, c.requires) in
    record {
      most = kept.most;
      apart = c.put.ensures.puts.apart c.self.inside.count below kept.apart;
      room = omega (arith, kept.room, c.put.ensures.room);
    }

pub returns : goal.returns
returns c =
    let size = length-set_of c.self.inside.count c.self.inside.runs.items in
    let below : c.args.number < c.self.inside.count = omega (arith, size, ap length c.self.view_is, c.requires) in
    set_of-puts c.self.inside.count c.args.number c.self.inside.runs.items c.put.new.runs.items c.self.invariant.apart below c.put.ensures.puts
    ∙ ap (λ members. set members c.args.number true) c.self.view_is
