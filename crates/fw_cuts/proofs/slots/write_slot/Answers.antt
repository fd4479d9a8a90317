use Rattle.fw_cuts.proofs.Resting.{slot_written}
use Rattle.fw_cuts.proofs.slots.write_slot.Goals as goal

pub returns-clause-at_rest : goal.returns-clause-at_rest
returns-clause-at_rest g c = λ honest from to rest begins ends.
    slot_written from to c.args.at c.args.bytes.now (g.F.StoreFiles.seen c.args.files.now) (g.F.StoreFiles.seen c.write_at.new.self) rest
    (c.write_at.ensures.goes honest) (c.write_at.ensures.lost honest) begins ends (c.requires honest)
