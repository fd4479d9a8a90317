use Rattle.std.proofs.Common.{sym}
use Rattle.fw_blocks.specs.Cuts.{max_blocks}
use Rattle.fw_image.proofs.Migrating.{length-resized, few_marks, migrated_two, device_two}
use Rattle.fw_image.proofs.held.migrate.Goals as goal

pub replace-requires : goal.replace-requires
replace-requires g c = rw c.migrated-next.ensures (length-resized max_blocks c.args.header.now.marks (few_marks _ c.args.header.now c.requires.valid))

pub returns-in-Two-clause-done : goal.returns-in-Two-clause-done
returns-in-Two-clause-done g c = sym (migrated_two c.args.header.now c.in-Two.is c.requires.valid.fields.marks)

pub returns-in-Two-clause-written : goal.returns-in-Two-clause-written
returns-in-Two-clause-written g c = λ honest.
    sym (device_two (g.S.ImageStore.known c.args.store.now).capacity c.args.header.now (g.S.ImageStore.known c.args.store.now).device c.requires.valid (c.requires.stored honest) c.in-Two.is)
