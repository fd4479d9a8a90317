use Rattle.std.proofs.Common.{rules, ◌≡◌, max}
use Rattle.fw_counter.proofs.Telling.{seen_next, seen_all}
use Rattle.fw_counter.proofs.reading.told_behind.Goals as goal

pub loop-number-preserved : goal.loop-number-preserved
loop-number-preserved c =
    let grown : c.max-bound.result ≡ max c.loop-number.bound c.in-Some.number = search rules in
    record {
      seen = seen_next c.args.bytes.now c.loop-number.later.now c.in-Some.after.now c.in-Some.ensures.found.0 c.loop-number.bound c.in-Some.number c.max-bound.result c.loop-number.invariant.seen c.in-Some.ensures.found.1
          c.in-Some.ensures.found.2 grown;
    }

pub returns : goal.returns
returns c = seen_all c.args.bytes.now c.loop-number.later.now c.loop-number.bound c.loop-number.invariant.seen c.in_default.ensures.none
