use Rattle.std.proofs.Common.{◌≡◌}
use Rattle.std.specs.Prelude.{⊤}
use Rattle.fw_disk.specs.declared.name.Name.TheVariants.{New}
use Rattle.fw_disk.specs.Calls.{MayRemove}
use Rattle.fw_disk.specs.Ours.{MayTake, Takes}
use Rattle.fw_disk.proofs.Goings.{follow, widen}
use Rattle.fw_host.specs.BegunCapture.{IsBegunCapture, MakesFile}
use Rattle.fw_host.proofs.Makings.{makes_begun, makes_then, makes_removed}
use Rattle.fw_host.proofs.capture_making.new_capture.Goals as goal

pub returns-in-Err-clause-goes : goal.returns-in-Err-clause-goes
returns-in-Err-clause-goes g c = λ honest.
    let bytes = c.args.header.now in
    let a = g.F.Folder.seen c.args.folder.now in
    let may = MayTake IsBegunCapture a.disk New in
    widen (Takes IsBegunCapture ⊤ New may) (MakesFile bytes may) a (g.F.Folder.seen c.begin.new.folder) c.begin.ensures.goes
    (λ h. makes_begun bytes may IsBegunCapture) honest

-- it is begun, filled and named
pub returns-in-Ok-fill_and_name-clause-goes : goal.returns-in-Ok-fill_and_name-clause-goes
returns-in-Ok-fill_and_name-clause-goes g c = λ honest.
    let bytes = c.args.header.now in
    let n = g.F.Folder.number c.in-Ok.file in
    let a = g.F.Folder.seen c.args.folder.now in
    let b = g.F.Folder.seen c.begin.new.folder in
    let may = MayTake IsBegunCapture a.disk New in
    follow (Takes IsBegunCapture ⊤ New may) (MakesFile bytes (λ m. m ≡ n)) (MakesFile bytes may) (λ x. Unit {0}) a b (g.F.Folder.seen c.fill_and_name.new.folder)
    c.begin.ensures.goes (λ h. tt) (λ h left le. tt) (c.fill_and_name.ensures.goes (c.in-Ok.ensures.empty honest) (c.in-Ok.ensures.synced honest))
    (makes_begun bytes may IsBegunCapture) (λ x y z t q m. makes_then bytes may IsBegunCapture n (c.in-Ok.ensures.taken honest) x y z t m) honest

-- and taken away
pub returns-in-Err-fill_and_name-clause-goes : goal.returns-in-Err-fill_and_name-clause-goes
returns-in-Err-fill_and_name-clause-goes g c = λ honest.
    let bytes = c.args.header.now in
    let n = g.F.Folder.number c.in-Ok.file in
    let a = g.F.Folder.seen c.args.folder.now in
    let b = g.F.Folder.seen c.begin.new.folder in
    let d = g.F.Folder.seen c.fill_and_name.new.folder in
    let may = MayTake IsBegunCapture a.disk New in
    let T = MakesFile bytes may in
    follow T (MayRemove New) T (λ x. Unit {0}) a d (g.F.Folder.seen c.abandon.new.folder)
    (follow (Takes IsBegunCapture ⊤ New may) (MakesFile bytes (λ m. m ≡ n)) T (λ x. Unit {0}) a b d
    c.begin.ensures.goes (λ h. tt) (λ h left le. tt) (c.fill_and_name.ensures.goes (c.in-Ok.ensures.empty honest) (c.in-Ok.ensures.synced honest))
    (makes_begun bytes may IsBegunCapture) (λ x y z t q m. makes_then bytes may IsBegunCapture n (c.in-Ok.ensures.taken honest) x y z t m))
    (λ h. tt) (λ h left le. tt) c.abandon.ensures.goes (λ x y t. t) (λ x y z m q r. makes_removed bytes may x y z m r) honest
