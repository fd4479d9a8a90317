use Rattle.std.specs.Prelude.{⊤}
use Rattle.fw_disk.specs.declared.name.Name.TheVariants.{New}
use Rattle.fw_disk.specs.Calls.{MayRemove}
use Rattle.fw_disk.specs.Ours.{MayTake, Takes}
use Rattle.fw_disk.proofs.Goings.{chain, widen}
use Rattle.fw_disk.proofs.Steps.{takes_trans, takes_begun, takes_removed}
use Rattle.fw_store.specs.Setup.{IsCapacity}
use Rattle.fw_store.specs.Beside.{IsBegunStore}
use Rattle.fw_store.specs.Making.{TakesRoom}
use Rattle.fw_store.proofs.Makings.{takes_roomed}
use Rattle.fw_store.proofs.beside.begin_with_room.Goals as goal

pub returns-in_err-file-clause-goes : goal.returns-in_err-file-clause-goes
returns-in_err-file-clause-goes g c = λ honest.
    let room = IsCapacity c.args.capacity in
    let a = g.F.Folder.seen c.args.folder.now in
    let may = MayTake IsBegunStore a.disk New in
    widen (Takes IsBegunStore ⊤ New may) (Takes IsBegunStore room New may) a (g.F.Folder.seen c.begin.new.folder) c.begin.ensures.goes
    (λ h x y t. takes_begun IsBegunStore room New may may x y (λ n is. is) t) honest

-- begun, and its room taken
pub returns-in-Ok-clause-goes : goal.returns-in-Ok-clause-goes
returns-in-Ok-clause-goes g c = λ honest.
    let room = IsCapacity c.args.capacity in
    let a = g.F.Folder.seen c.args.folder.now in
    let b = g.F.Folder.seen c.begin.new.folder in
    let d = g.F.Folder.seen c.take_room.new.folder in
    let n = g.F.Folder.number c.in_ok-file.file in
    let may = MayTake IsBegunStore a.disk New in
    let T = Takes IsBegunStore room New may in
    let taken = c.in_ok-file.ensures.taken honest in
    let empty = (c.in_ok-file.ensures.empty honest).contents in
    chain T (takes_trans IsBegunStore room New may) a b d
    (widen (Takes IsBegunStore ⊤ New may) T a b c.begin.ensures.goes (λ h x y t. takes_begun IsBegunStore room New may may x y (λ k is. is) t))
    (widen (TakesRoom c.args.capacity n) T b d (c.take_room.ensures.goes empty (c.in_ok-file.ensures.synced honest)) (λ h x y r. takes_roomed may c.args.capacity n taken x y r)) honest

-- and taken away
pub returns-in-Err-clause-goes : goal.returns-in-Err-clause-goes
returns-in-Err-clause-goes g c = λ honest.
    let room = IsCapacity c.args.capacity in
    let a = g.F.Folder.seen c.args.folder.now in
    let b = g.F.Folder.seen c.begin.new.folder in
    let d = g.F.Folder.seen c.take_room.new.folder in
    let e = g.F.Folder.seen c.abandon.new.folder in
    let n = g.F.Folder.number c.in_ok-file.file in
    let may = MayTake IsBegunStore a.disk New in
    let T = Takes IsBegunStore room New may in
    let taken = c.in_ok-file.ensures.taken honest in
    let empty = (c.in_ok-file.ensures.empty honest).contents in
    chain T (takes_trans IsBegunStore room New may) a d e
    (chain T (takes_trans IsBegunStore room New may) a b d
    (widen (Takes IsBegunStore ⊤ New may) T a b c.begin.ensures.goes (λ h x y t. takes_begun IsBegunStore room New may may x y (λ k is. is) t))
    (widen (TakesRoom c.args.capacity n) T b d (c.take_room.ensures.goes empty (c.in_ok-file.ensures.synced honest)) (λ h x y r. takes_roomed may c.args.capacity n taken x y r)))
    (widen (MayRemove New) T d e c.abandon.ensures.goes (λ h x y r. takes_removed IsBegunStore room New may x y r)) honest
