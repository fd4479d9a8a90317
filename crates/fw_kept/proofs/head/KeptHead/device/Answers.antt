use Rattle.fw_kept.proofs.Books.{left_noted, left_has}
use Rattle.fw_kept.proofs.Backs.{holds_backs}
use Rattle.fw_kept.proofs.head.KeptHead.device.Goals as goal

pub returns-clause-each_cut : goal.returns-clause-each_cut
returns-clause-each_cut g c = λ synced holds left now.
    let kept = c.args.self.now in
    left_has g.D.JournalDevice.honest g.D.JournalDevice.contents g.D.JournalDevice.may_leave kept.head.book.head kept.journal synced kept.head.book holds.0 kept.notes holds.1.keeps left now

pub returns-clause-noted : goal.returns-clause-noted
returns-clause-noted g c = λ synced noted holds left now.
    let kept = c.args.self.now in
    left_noted g.D.JournalDevice.honest g.D.JournalDevice.contents g.D.JournalDevice.may_leave kept.head.book.head kept.journal synced kept.head.book noted kept.notes holds.keeps left now

pub returns-clause-backed : goal.returns-clause-backed
returns-clause-backed g c = λ synced holds. holds_backs g.D.JournalDevice.honest g.D.JournalDevice.contents g.D.JournalDevice.may_leave c.args.self.now synced holds
