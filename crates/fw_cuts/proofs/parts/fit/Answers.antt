use Rattle.std.proofs.Common.{◌≡◌, ◌≤◌, length, sym, ◌∙◌, ap, arith}
use Rattle.fw_cuts.specs.Sectors.{resized}
use Rattle.fw_cuts.specs.Both.{Both, On}
use Rattle.fw_cuts.specs.Cuts.{Resizes, MayResize, IsSynced, NoneLost}
use Rattle.fw_cuts.specs.declared.files.Part.TheVariants.{Store}
use Rattle.fw_cuts.proofs.Goings.{unsized, sized, stays_last, if_ok, on_ok}
use Rattle.fw_cuts.proofs.Laying.{short_same, short_grown, short_synced}
use Rattle.fw_cuts.proofs.Splices.{resized_same, length-resized}
use Rattle.fw_cuts.proofs.parts.fit.Goals as goal

pub returns-in_err-size-clause-goes : goal.returns-in_err-size-clause-goes
returns-in_err-size-clause-goes g c = λ honest. unsized c.args.len (g.F.StoreFiles.seen c.args.files.now) (g.F.StoreFiles.seen c.len.new.self) (c.len.ensures.goes honest)

pub returns-then-size-len-clause-goes : goal.returns-then-size-len-clause-goes
returns-then-size-len-clause-goes g c = λ honest. unsized c.args.len (g.F.StoreFiles.seen c.args.files.now) (g.F.StoreFiles.seen c.len.new.self) (c.len.ensures.goes honest)

pub returns-then-size-len-clause-short : goal.returns-then-size-len-clause-short
returns-then-size-len-clause-short g c = λ honest lost synced.
    short_same (g.F.StoreFiles.seen c.args.files.now) (g.F.StoreFiles.seen c.len.new.self) c.args.len (c.len.ensures.goes honest) synced
    (omega (arith, c.in_ok-size.ensures.done honest, c.if-size-len.true))

pub returns-in_err-set_len-clause-goes : goal.returns-in_err-set_len-clause-goes
returns-in_err-set_len-clause-goes g c = λ honest.
    sized c.args.len (g.F.StoreFiles.seen c.args.files.now) (g.F.StoreFiles.seen c.len.new.self) (g.F.StoreFiles.seen c.set_len.new.self)
    (c.len.ensures.goes honest) (c.set_len.ensures.goes honest)

pub returns-then-size-len-2-clause-goes : goal.returns-then-size-len-2-clause-goes
returns-then-size-len-2-clause-goes g c = λ honest.
    sized c.args.len (g.F.StoreFiles.seen c.args.files.now) (g.F.StoreFiles.seen c.len.new.self) (g.F.StoreFiles.seen c.set_len.new.self)
    (c.len.ensures.goes honest) (c.set_len.ensures.goes honest)

pub returns-then-size-len-2-clause-short : goal.returns-then-size-len-2-clause-short
returns-then-size-len-2-clause-short g c = λ honest lost synced.
    short_grown (g.F.StoreFiles.seen c.args.files.now) (g.F.StoreFiles.seen c.len.new.self) (g.F.StoreFiles.seen c.set_len.new.self) c.args.len
    (c.len.ensures.goes honest) (c.set_len.ensures.goes honest) synced (omega (arith, c.in_ok-size.ensures.done honest, c.if-size-len-2.true))

pub returns-clause-goes : goal.returns-clause-goes
returns-clause-goes g c = λ honest.
    let a = g.F.StoreFiles.seen c.args.files.now in
    let b = g.F.StoreFiles.seen c.len.new.self in
    let d = g.F.StoreFiles.seen c.set_len.new.self in
    stays_last (On Store (MayResize c.args.len)) a d (g.F.StoreFiles.seen c.sync.new.self)
    (sized c.args.len a b d (c.len.ensures.goes honest) (c.set_len.ensures.goes honest)) (c.sync.ensures.goes honest)

pub returns-then-size-len-clause-done : goal.returns-then-size-len-clause-done
returns-then-size-len-clause-done g c = λ honest.
    let a = g.F.StoreFiles.seen c.args.files.now in
    let same = (c.len.ensures.goes honest).reads in
    let is : c.args.len ≡ length a.held.store = omega (arith, c.in_ok-size.ensures.done honest, c.if-size-len.true) in
    (ap (λ (d : Both). d.store) same ∙ sym (resized_same a.held.store c.args.len is), ap (λ (d : Both). d.journal) same)

pub returns-then-size-len-2-clause-done : goal.returns-then-size-len-2-clause-done
returns-then-size-len-2-clause-done g c = λ honest.
    let same = (c.len.ensures.goes honest).reads in
    let sets = c.in_ok-set_len.ensures.done honest in
    (sets.0 ∙ ap (λ (d : Both). resized d.store c.args.len) same, sets.1 ∙ ap (λ (d : Both). d.journal) same)

pub returns-clause-done : goal.returns-clause-done
returns-clause-done g c = λ honest.
    let a = g.F.StoreFiles.seen c.args.files.now in
    let e = g.F.StoreFiles.seen c.sync.new.self in
    let same = (c.len.ensures.goes honest).reads in
    let sets = c.in_ok-set_len.ensures.done honest in
    let still = (c.sync.ensures.goes honest).reads in
    if_ok c.sync.result (On Store (Resizes c.args.len) a.held e.held) (
      ap (λ (d : Both). d.store) still ∙ sets.0 ∙ ap (λ (d : Both). resized d.store c.args.len) same,
      ap (λ (d : Both). d.journal) still ∙ sets.1 ∙ ap (λ (d : Both). d.journal) same,
    )

pub returns-clause-short : goal.returns-clause-short
returns-clause-short g c = λ honest lost synced.
    let b = g.F.StoreFiles.seen c.len.new.self in
    let d = g.F.StoreFiles.seen c.set_len.new.self in
    let e = g.F.StoreFiles.seen c.sync.new.self in
    let found : NoneLost Store d = λ i is. lost i (c.len.ensures.lost honest Store i (c.set_len.ensures.lost honest Store i is)) in
    let sized_so = (c.in_ok-set_len.ensures.done honest).0 in
    let all : length e.held.store ≡ c.args.len = ap (λ (x : Both). length x.store) (c.sync.ensures.goes honest).reads ∙ ap length sized_so ∙ length-resized b.held.store c.args.len in
    on_ok c.sync.result (IsSynced Store e) ((left : Both) → e.may_leave left → length left.store ≤ c.args.len)
    (λ is. short_synced e c.args.len is all) (c.sync.ensures.done honest found)
