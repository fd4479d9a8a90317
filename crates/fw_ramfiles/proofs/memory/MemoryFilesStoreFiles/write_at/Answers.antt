use Rattle.std.proofs.Common.{◌≡◌, ◌+◌, ◌≤◌, [], ◌∷◌, ◌++◌, List, ℕ, length, reverse, sym, subst}
use Rattle.fw_cuts.specs.Both.{of, On}
use Rattle.fw_cuts.specs.Cuts.{Goes, Cuts, Writes}
use Rattle.fw_ramfiles.specs.declared.past.Event.TheVariants as event
use Rattle.fw_ramfiles.specs.Past.{held_after, seen_after}
use Rattle.fw_ramfiles.specs.Memory.{start_of, seen_of}
use Rattle.fw_cuts.proofs.Goings.{on_ok}
use Rattle.fw_ramfiles.proofs.Events.{add_goes, unwritten, written_so}
use Rattle.fw_ramfiles.proofs.memory.MemoryFilesStoreFiles.write_at.Goals as goal

pub returns-clause-done : goal.returns-clause-done
returns-clause-done c = λ honest.
    let f = c.args.self.now in
    let bytes = c.in-Ok.bytes in
    let later = c.add.new.events.items in
    let same : bytes.items ≡ c.args.bytes.now = c.in-Ok.ensures.items_if_clones_equal (λ x y is. is) in
    on_ok c.add.result (later ≡ f.events.items ++ event.Write c.args.part c.args.at bytes ∷ [])
    (On c.args.part (Writes c.args.at c.args.bytes.now) (held_after (start_of f) (reverse f.events.items)) (held_after (start_of f) (reverse later)))
    (λ pushed. subst (λ (l : List ℕ). On c.args.part (Writes c.args.at l) (held_after (start_of f) (reverse f.events.items)) (held_after (start_of f) (reverse later))) same
    (written_so c.args.part c.args.at bytes (start_of f) f.events.items later pushed
    (subst (λ (l : List ℕ). c.args.at + length l ≤ length (of c.args.part (held_after (start_of f) (reverse f.events.items)))) (sym same) (c.requires honest))))
    c.add.ensures.ok

pub returns-clause-goes : goal.returns-clause-goes
returns-clause-goes c = λ honest.
    let f = c.args.self.now in
    let bytes = c.in-Ok.bytes in
    let later = c.add.new.events.items in
    let same : bytes.items ≡ c.args.bytes.now = c.in-Ok.ensures.items_if_clones_equal (λ x y is. is) in
    subst (λ (l : List ℕ). Goes (On c.args.part (Cuts c.args.at l)) (seen_after (start_of f) f.events.items) (seen_after (start_of f) later)) same
    (add_goes c.add.result (start_of f) f.events.items later (event.Write c.args.part c.args.at bytes) c.add.ensures.ok c.add.ensures.err)

-- memory was refused
pub returns-in_default-clause-goes : goal.returns-in_default-clause-goes
returns-in_default-clause-goes c = λ honest. unwritten c.args.part c.args.at c.args.bytes.now (seen_of c.args.self.now)
