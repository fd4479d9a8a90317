use Rattle.std.proofs.Common.{◌≡◌, [], ◌∷◌, ◌++◌, reverse}
use Rattle.fw_cuts.specs.Both.{On}
use Rattle.fw_cuts.specs.Cuts.{Resizes}
use Rattle.fw_ramfiles.specs.declared.past.Event.TheVariants as event
use Rattle.fw_ramfiles.specs.Past.{held_after}
use Rattle.fw_ramfiles.specs.Memory.{start_of}
use Rattle.fw_cuts.proofs.Goings.{on_ok}
use Rattle.fw_ramfiles.proofs.Events.{add_goes, resized_so}
use Rattle.fw_ramfiles.proofs.memory.MemoryFilesStoreFiles.set_len.Goals as goal

pub returns-clause-done : goal.returns-clause-done
returns-clause-done c = λ honest.
    let f = c.args.self.now in
    let later = c.add.new.events.items in
    on_ok c.add.result (later ≡ f.events.items ++ event.Resize c.args.part c.args.len ∷ [])
    (On c.args.part (Resizes c.args.len) (held_after (start_of f) (reverse f.events.items)) (held_after (start_of f) (reverse later)))
    (λ pushed. resized_so c.args.part c.args.len (start_of f) f.events.items later pushed) c.add.ensures.ok

pub returns-clause-goes : goal.returns-clause-goes
returns-clause-goes c = λ honest.
    let f = c.args.self.now in
    add_goes c.add.result (start_of f) f.events.items c.add.new.events.items (event.Resize c.args.part c.args.len) c.add.ensures.ok c.add.ensures.err
