use Rattle.std.proofs.Common.{IsTrue, length, sym, subst}
use Rattle.fw_journal.proofs.Makings.{written, then_synced}
use Rattle.fw_journal.proofs.steps.write_synced.Goals as goal

pub returns-in_err-write_at-clause-torn : goal.returns-in_err-write_at-clause-torn
returns-in_err-write_at-clause-torn g c = λ honest within.
    written g.D.JournalDevice g.met.D.JournalDevice.only_now c.args.at (length c.args.bytes.now) c.args.device.now c.write_at.new.self (c.write_at.ensures.time honest) (c.write_at.ensures.crash honest within)

pub returns-clause-torn : goal.returns-clause-torn
returns-clause-torn g c = λ honest within.
    let still = subst (λ b. IsTrue b) (sym c.write_at.ensures.kept.honesty) honest in
    then_synced g.D.JournalDevice g.met.D.JournalDevice.only_now c.args.at (length c.args.bytes.now) c.args.device.now c.write_at.new.self (c.write_at.ensures.time honest) (c.write_at.ensures.crash honest within)
    c.sync.new.self (c.sync.ensures.time still) (c.sync.ensures.crash still)
