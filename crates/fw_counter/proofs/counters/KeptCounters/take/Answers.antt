use Rattle.std.proofs.Common.{arith}
use Rattle.fw_counter.proofs.Keeps.{kept_leaves}
use Rattle.fw_counter.proofs.counters.KeptCounters.take.Goals as goal

pub returns-clause-each_cut : goal.returns-clause-each_cut
returns-clause-each_cut g c = λ kept left now.
    let has = kept_leaves g.D.JournalDevice c.reserve.new.self (c.reserve.ensures.stays kept) left now in
    record { all = has.all; reserves = has.reserves; enough = omega (arith, has.enough, c.in_ok-reserve.ensures.some) }
