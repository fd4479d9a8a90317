use Rattle.std.proofs.Common.{◌≡◌, [], ◌∷◌, ◌++◌}
use Rattle.fw_cuts.specs.Cuts.{IsSynced}
use Rattle.fw_ramfiles.specs.declared.past.Event.TheVariants as event
use Rattle.fw_ramfiles.specs.Past.{seen_after}
use Rattle.fw_ramfiles.specs.Memory.{start_of}
use Rattle.fw_cuts.proofs.Goings.{on_ok}
use Rattle.fw_ramfiles.proofs.Events.{add_goes, synced_so}
use Rattle.fw_ramfiles.proofs.memory.MemoryFilesStoreFiles.sync.Goals as goal

pub returns-clause-done : goal.returns-clause-done
returns-clause-done c = λ honest lost.
    let f = c.args.self.now in
    let later = c.add.new.events.items in
    on_ok c.add.result (later ≡ f.events.items ++ event.Sync c.args.part ∷ []) (IsSynced c.args.part (seen_after (start_of f) later))
    (λ pushed. synced_so c.args.part (start_of f) f.events.items later pushed) c.add.ensures.ok

pub returns-clause-goes : goal.returns-clause-goes
returns-clause-goes c = λ honest.
    let f = c.args.self.now in
    add_goes c.add.result (start_of f) f.events.items c.add.new.events.items (event.Sync c.args.part) c.add.ensures.ok c.add.ensures.err
