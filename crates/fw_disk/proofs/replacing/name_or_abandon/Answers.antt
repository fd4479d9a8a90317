use Rattle.fw_disk.specs.declared.name.Name.TheVariants.{Main, New}
use Rattle.fw_disk.specs.Calls.{MayRename, MayRemove}
use Rattle.fw_disk.proofs.Goings.{follow}
use Rattle.fw_disk.proofs.Steps.{renamed_or_removed}
use Rattle.fw_disk.proofs.replacing.name_or_abandon.Goals as goal

-- what hasn't got the name is taken away
pub returns-in-Err-NotNamed-clause-goes : goal.returns-in-Err-NotNamed-clause-goes
returns-in-Err-NotNamed-clause-goes g c =
    let a = g.F.Folder.seen c.args.folder.now in
    let e = a.disk.entry New in
    follow (MayRename New Main e) (MayRemove New) (MayRename New Main e) (λ d. Unit {0}) a (g.F.Folder.seen c.give_name.new.folder) (g.F.Folder.seen c.abandon.new.folder)
    c.give_name.ensures.goes (λ h. tt) (λ h left may. tt) c.abandon.ensures.goes (λ x y m. m) (λ x y z m q r. renamed_or_removed e x y z m r)
