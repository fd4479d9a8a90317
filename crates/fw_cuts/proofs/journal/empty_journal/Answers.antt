use Rattle.fw_cuts.specs.Cuts.{MayResize}
use Rattle.fw_cuts.proofs.Goings.{store_kept, store_stays, stores}
use Rattle.fw_cuts.proofs.journal.empty_journal.Goals as goal

pub returns-in_err-len-clause-goes : goal.returns-in_err-len-clause-goes
returns-in_err-len-clause-goes g c = λ honest. store_stays (g.F.StoreFiles.seen c.args.files.now) (g.F.StoreFiles.seen c.len.new.self) (c.len.ensures.goes honest)

pub returns-then-branch-eq0-clause-goes : goal.returns-then-branch-eq0-clause-goes
returns-then-branch-eq0-clause-goes g c = λ honest.
    let a = g.F.StoreFiles.seen c.args.files.now in
    let b = g.F.StoreFiles.seen c.len.new.self in
    let d = g.F.StoreFiles.seen c.sync.new.self in
    stores a b d (store_stays a b (c.len.ensures.goes honest)) (store_stays b d (c.sync.ensures.goes honest))

pub returns-in_err-set_len-clause-goes : goal.returns-in_err-set_len-clause-goes
returns-in_err-set_len-clause-goes g c = λ honest.
    let a = g.F.StoreFiles.seen c.args.files.now in
    let b = g.F.StoreFiles.seen c.len.new.self in
    let d = g.F.StoreFiles.seen c.set_len.new.self in
    stores a b d (store_stays a b (c.len.ensures.goes honest)) (store_kept (MayResize 0) b d (c.set_len.ensures.goes honest))

pub returns-clause-goes : goal.returns-clause-goes
returns-clause-goes g c = λ honest.
    let a = g.F.StoreFiles.seen c.args.files.now in
    let b = g.F.StoreFiles.seen c.len.new.self in
    let d = g.F.StoreFiles.seen c.set_len.new.self in
    let e = g.F.StoreFiles.seen c.sync-2.new.self in
    stores a d e (stores a b d (store_stays a b (c.len.ensures.goes honest)) (store_kept (MayResize 0) b d (c.set_len.ensures.goes honest))) (store_stays d e (c.sync-2.ensures.goes honest))
