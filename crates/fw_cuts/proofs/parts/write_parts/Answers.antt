use Rattle.fw_cuts.specs.Private.{Lays, SameJournal}
use Rattle.fw_cuts.proofs.Goings.{stays_last}
use Rattle.fw_cuts.proofs.parts.write_parts.Goals as goal

pub returns-clause-journal : goal.returns-clause-journal
returns-clause-journal g c = λ honest.
    stays_last SameJournal (g.F.StoreFiles.seen c.args.files.now) (g.F.StoreFiles.seen c.write_change.new.files) (g.F.StoreFiles.seen c.sync.new.self)
    (c.write_change.ensures.journal honest) (c.sync.ensures.goes honest)

pub returns-clause-goes : goal.returns-clause-goes
returns-clause-goes g c = λ honest lost synced.
    let a = g.F.StoreFiles.seen c.args.files.now in
    stays_last (Lays c.args.write.now a.held.store) a (g.F.StoreFiles.seen c.write_change.new.files) (g.F.StoreFiles.seen c.sync.new.self)
    (c.write_change.ensures.goes honest lost synced) (c.sync.ensures.goes honest)
