use Rattle.std.proofs.Common.{◌+◌, ◌-◌, ◌/◌, length, take, replicate, arith}
use Rattle.std.proofs.lemmas.List.{length-take-le, length-replicate}
use Rattle.fw_store.proofs.Splices.{splice_twice}
use Rattle.fw_store.proofs.fuse.tear.Goals as goal

pub returns : goal.returns
returns c =
    let n = length c.args.bytes.now in
    let half = length-take-le (n / 2) c.args.bytes.now (omega arith) in
    let others = length-replicate (n - n / 2) c.args.torn in
    rw (c.fill.ensures, c.overwrite.ensures) (splice_twice c.args.slot.now.items c.args.at (take (n / 2) c.args.bytes.now) (replicate (n - n / 2) c.args.torn) (c.args.at + n / 2) (omega arith) (omega arith))
