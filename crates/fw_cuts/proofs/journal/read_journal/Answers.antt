use Rattle.fw_cuts.proofs.Goings.{stays}
use Rattle.fw_cuts.proofs.journal.read_journal.Goals as goal

pub returns-in_err-read_at-clause-goes : goal.returns-in_err-read_at-clause-goes
returns-in_err-read_at-clause-goes g c = λ honest.
    stays (g.F.StoreFiles.seen c.args.files.now) (g.F.StoreFiles.seen c.len.new.self) (g.F.StoreFiles.seen c.read_at.new.self)
    (c.len.ensures.goes honest) (c.read_at.ensures.goes honest)

pub returns-clause-goes : goal.returns-clause-goes
returns-clause-goes g c = λ honest.
    stays (g.F.StoreFiles.seen c.args.files.now) (g.F.StoreFiles.seen c.len.new.self) (g.F.StoreFiles.seen c.read_at.new.self)
    (c.len.ensures.goes honest) (c.read_at.ensures.goes honest)
