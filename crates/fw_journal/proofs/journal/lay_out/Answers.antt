use Rattle.std.proofs.Common.{IsTrue, sym, subst, arith}
use Rattle.fw_journal.proofs.Makings.{asked, laid}
use Rattle.fw_journal.proofs.journal.lay_out.Goals as goal

pub returns-in_err-len-clause-any_moment : goal.returns-in_err-len-clause-any_moment
returns-in_err-len-clause-any_moment g c = λ honest.
    asked g.D.JournalDevice g.met.D.JournalDevice.only_now c.args.device.now c.len.new.self (c.len.ensures.crash honest) (c.len.ensures.time honest)

pub returns-then-branch-gt0-clause-any_moment : goal.returns-then-branch-gt0-clause-any_moment
returns-then-branch-gt0-clause-any_moment g c = λ honest.
    asked g.D.JournalDevice g.met.D.JournalDevice.only_now c.args.device.now c.len.new.self (c.len.ensures.crash honest) (c.len.ensures.time honest)

pub returns-in_err-write_synced-clause-any_moment : goal.returns-in_err-write_synced-clause-any_moment
returns-in_err-write_synced-clause-any_moment g c = λ honest.
    let still = subst (λ b. IsTrue b) (sym c.len.ensures.kept.honesty) honest in
    laid g.D.JournalDevice g.met.D.JournalDevice.only_now c.args.device.now c.len.new.self (c.len.ensures.crash honest) c.write_synced.new.device (c.len.ensures.time honest) (c.write_synced.ensures.torn still (omega arith))

pub returns-clause-any_moment : goal.returns-clause-any_moment
returns-clause-any_moment g c = λ honest.
    let still = subst (λ b. IsTrue b) (sym c.len.ensures.kept.honesty) honest in
    laid g.D.JournalDevice g.met.D.JournalDevice.only_now c.args.device.now c.len.new.self (c.len.ensures.crash honest) c.write_synced.new.device (c.len.ensures.time honest) (c.write_synced.ensures.torn still (omega arith))
