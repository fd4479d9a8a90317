use Rattle.std.proofs.Common.{◌≡◌, ◌+◌, length, ◌∙◌, ap, arith, List, ℕ}
use Rattle.fw_cuts.specs.Sectors.{replaced}
use Rattle.fw_cuts.specs.Both.{On}
use Rattle.fw_cuts.specs.declared.files.Part.TheVariants.{Store}
use Rattle.fw_cuts.specs.Cuts.{Cuts, Writes, MayResize, splice}
use Rattle.fw_cuts.proofs.Goings.{journal_kept, journals, on_ok}
use Rattle.fw_cuts.proofs.Laying.{fitted, with_last, with_both}
use Rattle.fw_cuts.proofs.Splices.{length-resized, both_written, front_fits}
use Rattle.fw_cuts.proofs.parts.write_both.Goals as goal

pub returns-in_err-fit-clause-journal : goal.returns-in_err-fit-clause-journal
returns-in_err-fit-clause-journal g c = λ honest.
    journal_kept (MayResize (c.args.last_at + length c.args.last.now)) (g.F.StoreFiles.seen c.args.files.now) (g.F.StoreFiles.seen c.fit.new.files) (c.fit.ensures.goes honest)

pub returns-in_err-write_at-clause-journal : goal.returns-in_err-write_at-clause-journal
returns-in_err-write_at-clause-journal g c = λ honest.
    let a = g.F.StoreFiles.seen c.args.files.now in
    let b = g.F.StoreFiles.seen c.fit.new.files in
    let d = g.F.StoreFiles.seen c.write_at.new.self in
    journals a b d (journal_kept (MayResize (c.args.last_at + length c.args.last.now)) a b (c.fit.ensures.goes honest))
    (journal_kept (Cuts c.args.last_at c.args.last.now) b d (c.write_at.ensures.goes honest))

pub returns-clause-journal : goal.returns-clause-journal
returns-clause-journal g c = λ honest.
    let a = g.F.StoreFiles.seen c.args.files.now in
    let b = g.F.StoreFiles.seen c.fit.new.files in
    let d = g.F.StoreFiles.seen c.write_at.new.self in
    let e = g.F.StoreFiles.seen c.write_at-2.new.self in
    journals a d e
    (journals a b d (journal_kept (MayResize (c.args.last_at + length c.args.last.now)) a b (c.fit.ensures.goes honest))
    (journal_kept (Cuts c.args.last_at c.args.last.now) b d (c.write_at.ensures.goes honest)))
    (journal_kept (Cuts c.args.at c.args.bytes.now) d e (c.write_at-2.ensures.goes honest))

pub returns-in_err-fit-clause-goes : goal.returns-in_err-fit-clause-goes
returns-in_err-fit-clause-goes g c = λ honest w at_is bytes_is last_at_is last_is is on lost synced.
    let a = g.F.StoreFiles.seen c.args.files.now in
    let b = g.F.StoreFiles.seen c.fit.new.files in
    fitted c.args.at c.args.bytes.now c.args.last_at c.args.last.now w at_is bytes_is last_at_is last_is a.held.store is on a b (c.fit.ensures.goes honest)

pub returns-in_err-write_at-clause-goes : goal.returns-in_err-write_at-clause-goes
returns-in_err-write_at-clause-goes g c = λ honest w at_is bytes_is last_at_is last_is is on lost synced.
    let a = g.F.StoreFiles.seen c.args.files.now in
    let b = g.F.StoreFiles.seen c.fit.new.files in
    let end = c.args.last_at + length c.args.last.now in
    let now : length b.held.store ≡ end = ap length (c.in_ok-fit.ensures.done honest).0 ∙ length-resized a.held.store end in
    with_last c.args.at c.args.bytes.now c.args.last_at c.args.last.now w at_is bytes_is last_at_is last_is a.held.store is on a b (c.fit.ensures.goes honest)
    now (c.in_ok-fit.ensures.short honest lost synced) (g.F.StoreFiles.seen c.write_at.new.self) (c.write_at.ensures.goes honest)

pub returns-clause-goes : goal.returns-clause-goes
returns-clause-goes g c = λ honest w at_is bytes_is last_at_is last_is is on lost synced.
    let a = g.F.StoreFiles.seen c.args.files.now in
    let b = g.F.StoreFiles.seen c.fit.new.files in
    let end = c.args.last_at + length c.args.last.now in
    let now : length b.held.store ≡ end = ap length (c.in_ok-fit.ensures.done honest).0 ∙ length-resized a.held.store end in
    with_both c.args.at c.args.bytes.now c.args.last_at c.args.last.now w at_is bytes_is last_at_is last_is a.held.store is on a b (c.fit.ensures.goes honest)
    now (c.in_ok-fit.ensures.short honest lost synced) (g.F.StoreFiles.seen c.write_at.new.self) (c.write_at.ensures.goes honest)
    (g.F.StoreFiles.seen c.write_at-2.new.self) (c.write_at-2.ensures.goes honest)

-- it is long enough
pub write_at-requires : goal.write_at-requires
write_at-requires g c = λ honest.
    let a = g.F.StoreFiles.seen c.args.files.now in
    let sized = (c.in_ok-fit.ensures.done honest).0 in
    omega (arith, ap length sized, length-resized a.held.store (c.args.last_at + length c.args.last.now))

pub write_at-requires-2 : goal.write_at-requires-2
write_at-requires-2 g c = λ honest.
    let a = g.F.StoreFiles.seen c.args.files.now in
    let sized = (c.in_ok-fit.ensures.done honest).0 in
    let last = (c.in_ok-write_at.ensures.done honest).0 in
    omega (
      arith,
      ap length (last ∙ ap (λ (l : List ℕ). splice l c.args.last_at c.args.last.now) sized),
      front_fits a.held.store c.args.at c.args.bytes.now c.args.last_at c.args.last.now c.requires.order (c.requires.begins honest),
    )

pub returns-clause-done : goal.returns-clause-done
returns-clause-done g c = λ honest.
    let a = g.F.StoreFiles.seen c.args.files.now in
    let d = g.F.StoreFiles.seen c.write_at.new.self in
    let e = g.F.StoreFiles.seen c.write_at-2.new.self in
    let at = c.args.at in
    let bytes = c.args.bytes.now in
    let last_at = c.args.last_at in
    let last = c.args.last.now in
    let sized = (c.in_ok-fit.ensures.done honest).0 in
    let with_last_part = (c.in_ok-write_at.ensures.done honest).0 ∙ ap (λ (l : List ℕ). splice l last_at last) sized in
    on_ok c.write_at-2.result (On Store (Writes at bytes) d.held e.held) (e.held.store ≡ replaced a.held.store at bytes last_at last)
    (λ made. made.0 ∙ ap (λ (l : List ℕ). splice l at bytes) with_last_part ∙ both_written a.held.store at bytes last_at last c.requires.order (c.requires.begins honest))
    (c.write_at-2.ensures.done honest)
