use Rattle.std.proofs.Common.{◌≡◌, ◌∙◌, ap}
use Rattle.fw_disk.specs.declared.name.Name.TheVariants.{Main, New}
use Rattle.fw_disk.specs.Disk.{Disk}
use Rattle.fw_disk.specs.Calls.{Stays, MayRename}
use Rattle.fw_disk.specs.Ours.{Names}
use Rattle.fw_disk.proofs.Goings.{follow}
use Rattle.fw_disk.proofs.Steps.{names_refl, names_renamed}
use Rattle.fw_disk.proofs.replacing.finish.Goals as goal

-- what is renamed is synced
pub returns-clause-goes : goal.returns-clause-goes
returns-clause-goes g c = λ named honest.
    let a = g.F.Folder.seen c.args.folder.now in
    let b = g.F.Folder.seen c.prepare.new.folder in
    let n = g.F.Folder.number c.args.file.now in
    let bytes = a.disk.bytes n in
    let same = (c.prepare.ensures.goes honest).reads in
    let is_file = ap (λ (d : Disk). d.entry New) same ∙ named in
    let has = ap (λ (d : Disk). d.bytes n) same in
    follow Stays (MayRename New Main (b.disk.entry New)) (Names n bytes) (λ d. d.bytes n ≡ bytes) a b (g.F.Folder.seen c.give_name.new.folder) c.prepare.ensures.goes
    (λ h. has) (λ h left may. c.in_ok-prepare.ensures.synced h left may ∙ has) c.give_name.ensures.goes
    (names_refl n bytes) (names_renamed n bytes (b.disk.entry New) is_file) honest
