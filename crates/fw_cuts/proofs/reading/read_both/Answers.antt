use Rattle.fw_cuts.proofs.Goings.{stays}
use Rattle.fw_cuts.proofs.reading.read_both.Goals as goal

pub returns-clause-goes : goal.returns-clause-goes
returns-clause-goes g c = λ honest.
    stays (g.F.StoreFiles.seen c.args.files.now) (g.F.StoreFiles.seen c.read_at.new.self) (g.F.StoreFiles.seen c.read_at-2.new.self)
    (c.read_at.ensures.goes honest) (c.read_at-2.ensures.goes honest)
