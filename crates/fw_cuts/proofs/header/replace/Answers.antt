use Rattle.std.proofs.Common.{◌≡◌, List, ℕ, ◌∙◌, ap}
use Rattle.fw_cuts.specs.Both.{Both}
use Rattle.fw_cuts.specs.Cuts.{IsSynced, NoneLost}
use Rattle.fw_cuts.specs.Rest.{write_on, IsTakenBack}
use Rattle.fw_cuts.specs.declared.files.Part.{Part}
use Rattle.fw_cuts.specs.declared.files.Part.TheVariants.{Store, Journal}
use Rattle.fw_cuts.proofs.Goings.{stays, if_err}
use Rattle.fw_cuts.proofs.Cutting.{in_reading}
use Rattle.fw_cuts.proofs.Writing.{ready_synced, on_ready, done_so, while_preparing, while_writing, at_rest_after, failed_so, taken_so, none_kept, unbegun}
use Rattle.fw_cuts.proofs.header.replace.Goals as goal

pub returns-in_err-sync-clause-goes : goal.returns-in_err-sync-clause-goes
returns-in_err-sync-clause-goes g c = λ honest from to rest.
    let a = g.F.StoreFiles.seen c.args.files.now in
    let w = write_on a.held.store c.args.at c.args.bytes.now c.args.last_at c.args.last.now in
    in_reading from to a rest w (g.F.StoreFiles.seen c.sync.new.self) (c.sync.ensures.goes honest)

pub returns-in_err-write-clause-goes : goal.returns-in_err-write-clause-goes
returns-in_err-write-clause-goes g c = λ honest from to rest.
    let a = g.F.StoreFiles.seen c.args.files.now in
    let b = g.F.StoreFiles.seen c.sync.new.self in
    let m = g.F.StoreFiles.seen c.write_to.new.files in
    let w = write_on a.held.store c.args.at c.args.bytes.now c.args.last_at c.args.last.now in
    in_reading from to a rest w m (stays a b m (c.sync.ensures.goes honest) (c.write_to.ensures.goes honest))

pub returns-in_err-put_journal-clause-goes : goal.returns-in_err-put_journal-clause-goes
returns-in_err-put_journal-clause-goes g c = λ honest from to rest.
    let a = g.F.StoreFiles.seen c.args.files.now in
    let b = g.F.StoreFiles.seen c.sync.new.self in
    let m = g.F.StoreFiles.seen c.write_to.new.files in
    let d = g.F.StoreFiles.seen c.put_journal.new.files in
    while_preparing a b m c.args.at c.args.bytes.now c.args.last_at c.args.last.now (c.sync.ensures.goes honest) (c.write_to.ensures.goes honest)
    c.in_ok-write.write (c.in_ok-write.ensures.write honest) c.in_ok-write.ensures.fits (c.requires honest) d (c.put_journal.ensures.goes honest)
    from to rest (c.in_ok-sync.ensures.done honest (rest.found Store)) c.one_write.ensures c.each_cut_is_mended.ensures

pub write_parts-requires-clause-begins : goal.write_parts-requires-clause-begins
write_parts-requires-clause-begins g c = λ honest.
    on_ready (g.F.StoreFiles.seen c.args.files.now) (g.F.StoreFiles.seen c.sync.new.self) (g.F.StoreFiles.seen c.write_to.new.files)
    c.args.at c.args.bytes.now c.args.last_at c.args.last.now (c.sync.ensures.goes honest) (c.write_to.ensures.goes honest)
    c.in_ok-write.write (c.in_ok-write.ensures.write honest) c.in_ok-write.ensures.fits (c.requires honest)
    (g.F.StoreFiles.seen c.put_journal.new.files) (c.put_journal.ensures.goes honest)

pub returns-in-Ok-clause-done : goal.returns-in-Ok-clause-done
returns-in-Ok-clause-done g c = λ honest.
    let a = g.F.StoreFiles.seen c.args.files.now in
    let b = g.F.StoreFiles.seen c.sync.new.self in
    let m = g.F.StoreFiles.seen c.write_to.new.files in
    let d = g.F.StoreFiles.seen c.put_journal.new.files in
    let e = g.F.StoreFiles.seen c.write_parts.new.files in
    done_so a b m c.args.at c.args.bytes.now c.args.last_at c.args.last.now (c.sync.ensures.goes honest) (c.write_to.ensures.goes honest)
    c.in_ok-write.write (c.in_ok-write.ensures.write honest) c.in_ok-write.ensures.fits (c.requires honest) d (c.put_journal.ensures.goes honest) e (c.in-Ok.ensures.done honest)

pub returns-in-Ok-clause-at_rest : goal.returns-in-Ok-clause-at_rest
returns-in-Ok-clause-at_rest g c = λ honest from to rest before behind.
    let a = g.F.StoreFiles.seen c.args.files.now in
    let b = g.F.StoreFiles.seen c.sync.new.self in
    let m = g.F.StoreFiles.seen c.write_to.new.files in
    let d = g.F.StoreFiles.seen c.put_journal.new.files in
    let e = g.F.StoreFiles.seen c.write_parts.new.files in
    let found_m : (part : Part) → NoneLost part m = λ part i is. rest.found part i (c.in_ok-sync.ensures.lost honest part i (c.write_to.ensures.lost honest part i is)) in
    let found_d : (part : Part) → NoneLost part d = λ part i is. found_m part i (c.in_ok-put_journal.ensures.lost honest part i is) in
    at_rest_after a b m c.args.at c.args.bytes.now c.args.last_at c.args.last.now (c.sync.ensures.goes honest) (c.write_to.ensures.goes honest)
    c.in_ok-write.write (c.in_ok-write.ensures.write honest) c.in_ok-write.ensures.fits (c.requires honest) d (c.put_journal.ensures.goes honest)
    from to c.one_write.ensures before behind (c.in_ok-put_journal.ensures.ready honest) (c.in_ok-put_journal.ensures.synced honest (found_m Journal)) e
    (c.write_parts.ensures.journal honest) (λ part i is. found_d part i (c.in-Ok.ensures.lost honest part i is)) (c.in-Ok.ensures.synced honest (found_d Store))
    (c.in-Ok.ensures.done honest)

pub returns-in-Ok-clause-goes : goal.returns-in-Ok-clause-goes
returns-in-Ok-clause-goes g c = λ honest from to rest.
    let a = g.F.StoreFiles.seen c.args.files.now in
    let b = g.F.StoreFiles.seen c.sync.new.self in
    let m = g.F.StoreFiles.seen c.write_to.new.files in
    let d = g.F.StoreFiles.seen c.put_journal.new.files in
    let e = g.F.StoreFiles.seen c.write_parts.new.files in
    let found_m : (part : Part) → NoneLost part m = λ part i is. rest.found part i (c.in_ok-sync.ensures.lost honest part i (c.write_to.ensures.lost honest part i is)) in
    let found_d : (part : Part) → NoneLost part d = λ part i is. found_m part i (c.in_ok-put_journal.ensures.lost honest part i is) in
    let synced : IsSynced Store b = c.in_ok-sync.ensures.done honest (rest.found Store) in
    let stored : IsSynced Store d = ready_synced a b m c.args.at c.args.bytes.now c.args.last_at c.args.last.now (c.sync.ensures.goes honest) (c.write_to.ensures.goes honest)
    c.in_ok-write.write (c.in_ok-write.ensures.write honest) c.in_ok-write.ensures.fits (c.requires honest) d (c.put_journal.ensures.goes honest) synced in
    while_writing a b m c.args.at c.args.bytes.now c.args.last_at c.args.last.now (c.sync.ensures.goes honest) (c.write_to.ensures.goes honest)
    c.in_ok-write.write (c.in_ok-write.ensures.write honest) c.in_ok-write.ensures.fits (c.requires honest) d (c.put_journal.ensures.goes honest)
    from to rest synced c.one_write.ensures c.each_cut_is_mended.ensures c.one_sector_is_whole.ensures
    (c.in_ok-put_journal.ensures.ready honest) (c.in_ok-put_journal.ensures.synced honest (found_m Journal)) e (c.write_parts.ensures.goes honest (found_d Store) stored)

pub returns-in-Err-clause-goes : goal.returns-in-Err-clause-goes
returns-in-Err-clause-goes g c = λ honest from to rest.
    let a = g.F.StoreFiles.seen c.args.files.now in
    let b = g.F.StoreFiles.seen c.sync.new.self in
    let m = g.F.StoreFiles.seen c.write_to.new.files in
    let d = g.F.StoreFiles.seen c.put_journal.new.files in
    let e = g.F.StoreFiles.seen c.write_parts.new.files in
    let found_m : (part : Part) → NoneLost part m = λ part i is. rest.found part i (c.in_ok-sync.ensures.lost honest part i (c.write_to.ensures.lost honest part i is)) in
    let found_d : (part : Part) → NoneLost part d = λ part i is. found_m part i (c.in_ok-put_journal.ensures.lost honest part i is) in
    let synced : IsSynced Store b = c.in_ok-sync.ensures.done honest (rest.found Store) in
    let stored : IsSynced Store d = ready_synced a b m c.args.at c.args.bytes.now c.args.last_at c.args.last.now (c.sync.ensures.goes honest) (c.write_to.ensures.goes honest)
    c.in_ok-write.write (c.in_ok-write.ensures.write honest) c.in_ok-write.ensures.fits (c.requires honest) d (c.put_journal.ensures.goes honest) synced in
    while_writing a b m c.args.at c.args.bytes.now c.args.last_at c.args.last.now (c.sync.ensures.goes honest) (c.write_to.ensures.goes honest)
    c.in_ok-write.write (c.in_ok-write.ensures.write honest) c.in_ok-write.ensures.fits (c.requires honest) d (c.put_journal.ensures.goes honest)
    from to rest synced c.one_write.ensures c.each_cut_is_mended.ensures c.one_sector_is_whole.ensures
    (c.in_ok-put_journal.ensures.ready honest) (c.in_ok-put_journal.ensures.synced honest (found_m Journal)) e (c.write_parts.ensures.goes honest (found_d Store) stored)

-- what a taking back makes of FILE
pub returns-in-Err-clause-failed : goal.returns-in-Err-clause-failed
returns-in-Err-clause-failed g c = λ honest from to rest clear made back.
    let a = g.F.StoreFiles.seen c.args.files.now in
    let b = g.F.StoreFiles.seen c.sync.new.self in
    let m = g.F.StoreFiles.seen c.write_to.new.files in
    let d = g.F.StoreFiles.seen c.put_journal.new.files in
    let e = g.F.StoreFiles.seen c.write_parts.new.files in
    let found_m : (part : Part) → NoneLost part m = λ part i is. rest.found part i (c.in_ok-sync.ensures.lost honest part i (c.write_to.ensures.lost honest part i is)) in
    let found_d : (part : Part) → NoneLost part d = λ part i is. found_m part i (c.in_ok-put_journal.ensures.lost honest part i is) in
    let synced : IsSynced Store b = c.in_ok-sync.ensures.done honest (rest.found Store) in
    let stored : IsSynced Store d = ready_synced a b m c.args.at c.args.bytes.now c.args.last_at c.args.last.now (c.sync.ensures.goes honest) (c.write_to.ensures.goes honest)
    c.in_ok-write.write (c.in_ok-write.ensures.write honest) c.in_ok-write.ensures.fits (c.requires honest) d (c.put_journal.ensures.goes honest) synced in
    failed_so a b m c.args.at c.args.bytes.now c.args.last_at c.args.last.now (c.sync.ensures.goes honest) (c.write_to.ensures.goes honest)
    c.in_ok-write.write (c.in_ok-write.ensures.write honest) c.in_ok-write.ensures.fits (c.requires honest) d (c.put_journal.ensures.goes honest)
    c.to_bytes.result c.to_bytes.ensures.some c.to_bytes.ensures.none c.one_write.ensures e (c.write_parts.ensures.goes honest (found_d Store) stored) made back

pub returns-in_err-sync-clause-failed : goal.returns-in_err-sync-clause-failed
returns-in_err-sync-clause-failed g c = λ honest from to rest clear.
    let kept = c.args.scratch.now.failed in
    let a = g.F.StoreFiles.seen c.args.files.now in
    let b = g.F.StoreFiles.seen c.sync.new.self in
    if_err c.from_residual.result ((made : List ℕ) → IsTakenBack kept b.held.store made → made ≡ a.held.store)
    (unbegun kept a b clear (ap (λ (x : Both). x.store) (c.sync.ensures.goes honest).reads))

pub returns-in_err-write-clause-failed : goal.returns-in_err-write-clause-failed
returns-in_err-write-clause-failed g c = λ honest from to rest clear.
    let kept = c.args.scratch.now.failed in
    let a = g.F.StoreFiles.seen c.args.files.now in
    let m = g.F.StoreFiles.seen c.write_to.new.files in
    if_err c.from_residual-in_err-write.result ((made : List ℕ) → IsTakenBack kept m.held.store made → made ≡ a.held.store)
    (unbegun kept a m clear (ap (λ (x : Both). x.store) ((c.write_to.ensures.goes honest).reads ∙ (c.sync.ensures.goes honest).reads)))

pub returns-in_err-put_journal-clause-failed : goal.returns-in_err-put_journal-clause-failed
returns-in_err-put_journal-clause-failed g c = λ honest from to rest clear.
    let kept = c.args.scratch.now.failed in
    let a = g.F.StoreFiles.seen c.args.files.now in
    let d = g.F.StoreFiles.seen c.put_journal.new.files in
    if_err c.from_residual-in_err-put_journal.result ((made : List ℕ) → IsTakenBack kept d.held.store made → made ≡ a.held.store)
    (unbegun kept a d clear ((c.put_journal.ensures.goes honest).reads ∙ ap (λ (x : Both). x.store) ((c.write_to.ensures.goes honest).reads ∙ (c.sync.ensures.goes honest).reads)))

-- that it makes something
pub returns-in-Err-clause-taken : goal.returns-in-Err-clause-taken
returns-in-Err-clause-taken g c = λ clear store.
    taken_so c.to_bytes.result c.in_ok-write.write store c.to_bytes.ensures.some c.to_bytes.ensures.none c.in_ok-write.ensures.fits

pub returns-in_err-sync-clause-taken : goal.returns-in_err-sync-clause-taken
returns-in_err-sync-clause-taken g c = λ clear store.
    let kept = c.args.scratch.now.failed in
    if_err c.from_residual.result ((made : List ℕ) × IsTakenBack kept store made) (none_kept kept store clear)

pub returns-in_err-write-clause-taken : goal.returns-in_err-write-clause-taken
returns-in_err-write-clause-taken g c = λ clear store.
    let kept = c.args.scratch.now.failed in
    if_err c.from_residual-in_err-write.result ((made : List ℕ) × IsTakenBack kept store made) (none_kept kept store clear)

pub returns-in_err-put_journal-clause-taken : goal.returns-in_err-put_journal-clause-taken
returns-in_err-put_journal-clause-taken g c = λ clear store.
    let kept = c.args.scratch.now.failed in
    if_err c.from_residual-in_err-put_journal.result ((made : List ℕ) × IsTakenBack kept store made) (none_kept kept store clear)

pub returns-in-Ok-clause-synced : goal.returns-in-Ok-clause-synced
returns-in-Ok-clause-synced g c = λ honest from to rest.
    let m = g.F.StoreFiles.seen c.write_to.new.files in
    let d = g.F.StoreFiles.seen c.put_journal.new.files in
    let found_m : (part : Part) → NoneLost part m = λ part i is. rest.found part i (c.in_ok-sync.ensures.lost honest part i (c.write_to.ensures.lost honest part i is)) in
    let found_d : (part : Part) → NoneLost part d = λ part i is. found_m part i (c.in_ok-put_journal.ensures.lost honest part i is) in
    c.in-Ok.ensures.synced honest (found_d Store)
