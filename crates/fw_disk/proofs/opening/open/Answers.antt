use Rattle.fw_disk.specs.declared.name.Name.TheVariants.{New}
use Rattle.fw_disk.specs.Calls.{MayRemove}
use Rattle.fw_disk.proofs.Goings.{stays, stays_first}
use Rattle.fw_disk.proofs.Steps.{remove_same}
use Rattle.fw_disk.proofs.opening.open.Goals as goal

-- nothing changes before the renaming is ended
pub returns-clause-goes : goal.returns-clause-goes
returns-clause-goes g c =
    let a = g.F.Folder.seen c.args.folder.now in
    let b = g.F.Folder.seen c.open_found.new.folder in
    let d = g.F.Folder.seen c.sync_folder.new.self in
    let e = g.F.Folder.seen c.is_alone.new.self in
    stays_first (MayRemove New) (remove_same New) a e (g.F.Folder.seen c.end_renaming.new.folder)
    (stays a d e (stays a b d c.open_found.ensures.goes c.sync_folder.ensures.goes) c.is_alone.ensures.goes) c.end_renaming.ensures.goes
