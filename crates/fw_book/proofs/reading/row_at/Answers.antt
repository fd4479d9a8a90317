use Rattle.std.proofs.Common.{◌-◌, length, take, drop, rules, arith}
use Rattle.std.proofs.lemmas.Grind.{common_steps}
use Rattle.fw_book.proofs.Walks.{rows_first}
use Rattle.fw_book.proofs.reading.row_at.Goals as goal

pub returns-clause-first : goal.returns-clause-first
returns-clause-first c =
    rows_first c.args.bytes.now (take (length c.in_ok-meter.rest.now - 1) (drop 1 c.in_ok-meter.rest.now))
    (record { meter = c.in_ok-meter-2.meter; state = c.in_ok-state.state }) (search rules) (grind (arith, common_steps))
