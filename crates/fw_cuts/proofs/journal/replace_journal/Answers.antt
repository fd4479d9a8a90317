use Rattle.std.proofs.Common.{length}
use Rattle.fw_cuts.specs.Cuts.{Cuts, MayResize}
use Rattle.fw_cuts.proofs.Goings.{store_kept, store_stays, stores}
use Rattle.fw_cuts.proofs.journal.replace_journal.Goals as goal

pub returns-in_err-set_len-clause-goes : goal.returns-in_err-set_len-clause-goes
returns-in_err-set_len-clause-goes g c = λ honest.
    store_kept (MayResize (length c.args.bytes.now)) (g.F.StoreFiles.seen c.args.files.now) (g.F.StoreFiles.seen c.set_len.new.self) (c.set_len.ensures.goes honest)

pub returns-in_err-write_at-clause-goes : goal.returns-in_err-write_at-clause-goes
returns-in_err-write_at-clause-goes g c = λ honest.
    let a = g.F.StoreFiles.seen c.args.files.now in
    let b = g.F.StoreFiles.seen c.set_len.new.self in
    let d = g.F.StoreFiles.seen c.write_at.new.self in
    stores a b d (store_kept (MayResize (length c.args.bytes.now)) a b (c.set_len.ensures.goes honest)) (store_kept (Cuts 0 c.args.bytes.now) b d (c.write_at.ensures.goes honest))

pub returns-clause-goes : goal.returns-clause-goes
returns-clause-goes g c = λ honest.
    let a = g.F.StoreFiles.seen c.args.files.now in
    let b = g.F.StoreFiles.seen c.set_len.new.self in
    let d = g.F.StoreFiles.seen c.write_at.new.self in
    let e = g.F.StoreFiles.seen c.sync.new.self in
    stores a d e
    (stores a b d (store_kept (MayResize (length c.args.bytes.now)) a b (c.set_len.ensures.goes honest)) (store_kept (Cuts 0 c.args.bytes.now) b d (c.write_at.ensures.goes honest)))
    (store_stays d e (c.sync.ensures.goes honest))
