use Rattle.std.specs.Prelude.{⊤}
use Rattle.fw_disk.specs.Calls.{Shortens}
use Rattle.fw_disk.specs.Ours.{IsOurs, Takes}
use Rattle.fw_disk.proofs.Goings.{widen, stays_first, stays_last}
use Rattle.fw_disk.proofs.Steps.{takes_refl, takes_shortened}
use Rattle.fw_disk.proofs.making.take.Goals as goal

-- emptied, and synced or not
pub returns-in_err-sync-clause-goes : goal.returns-in_err-sync-clause-goes
returns-in_err-sync-clause-goes g c = λ honest.
    let ours = g.K.Kind.ours c.args.kind.now in
    let a = g.F.Folder.seen c.args.folder.now in
    let may = IsOurs ours a.disk c.args.name in
    let T = Takes ours ⊤ c.args.name may in
    let n = g.F.Folder.number c.in_ok-file.file in
    let taken : may n = c.in_ok-file.ensures.ours honest in
    stays_first T (takes_refl ours ⊤ c.args.name may) a (g.F.Folder.seen c.open_ours.new.folder) (g.F.Folder.seen c.sync.new.self) c.open_ours.ensures.goes
    (stays_last T (g.F.Folder.seen c.open_ours.new.folder) (g.F.Folder.seen c.clear.new.self) (g.F.Folder.seen c.sync.new.self)
    (widen (Shortens n) T (g.F.Folder.seen c.open_ours.new.folder) (g.F.Folder.seen c.clear.new.self) c.clear.ensures.goes
    (λ h x y s. takes_shortened ours ⊤ c.args.name may n taken (g.met.K.Kind.fronts c.args.kind.now) x y s))
    c.sync.ensures.goes) honest
