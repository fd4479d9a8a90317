use Rattle.fw_disk.specs.Calls.{MayCreate, MayMake, MayRemove}
use Rattle.fw_disk.proofs.Goings.{follow, widen, stays_last}
use Rattle.fw_disk.proofs.Steps.{remove_same}
use Rattle.fw_disk.proofs.making.make.Goals as goal

pub returns-in_err-file-clause-goes : goal.returns-in_err-file-clause-goes
returns-in_err-file-clause-goes g c =
    let name = c.args.name in
    let a = g.F.Folder.seen c.args.folder.now in
    widen (MayCreate name a.disk.next) (MayMake name a.disk.next) a (g.F.Folder.seen c.create.new.self) c.create.ensures.goes (λ h x y made. (y, made, remove_same name y))

pub returns-in-Ok-clause-goes : goal.returns-in-Ok-clause-goes
returns-in-Ok-clause-goes g c =
    let name = c.args.name in
    let a = g.F.Folder.seen c.args.folder.now in
    let b = g.F.Folder.seen c.create.new.self in
    stays_last (MayMake name a.disk.next) a b (g.F.Folder.seen c.settle.new.folder)
    (widen (MayCreate name a.disk.next) (MayMake name a.disk.next) a b c.create.ensures.goes (λ h x y made. (y, made, remove_same name y))) c.settle.ensures.goes

-- what was made is taken away
pub returns-in-Err-clause-goes : goal.returns-in-Err-clause-goes
returns-in-Err-clause-goes g c =
    let name = c.args.name in
    let a = g.F.Folder.seen c.args.folder.now in
    let b = g.F.Folder.seen c.create.new.self in
    let d = g.F.Folder.seen c.settle.new.folder in
    follow (MayCreate name a.disk.next) (MayRemove name) (MayMake name a.disk.next) (λ x. Unit {0}) a d (g.F.Folder.seen c.abandon.new.folder)
    (stays_last (MayCreate name a.disk.next) a b d c.create.ensures.goes c.settle.ensures.goes) (λ h. tt) (λ h left may. tt) c.abandon.ensures.goes
    (λ x y made. (y, made, remove_same name y)) (λ x y z made q removed. (y, made, removed))
