use Rattle.std.proofs.Common.{rules, ◌≡◌, [], inl, inr, ap, subst, arith}
use Rattle.std.specs.Prelude.{⊤}
use Rattle.fw_disk.specs.Disk.{absent, Disk}
use Rattle.fw_disk.specs.Calls.{MayMake}
use Rattle.fw_disk.specs.Ours.{IsOurs, MayTake, Takes}
use Rattle.fw_disk.proofs.Goings.{widen, stays_first}
use Rattle.fw_disk.proofs.Steps.{takes_refl, takes_more, takes_made}
use Rattle.fw_disk.proofs.making.begin.Goals as goal

-- what is there is taken, if it is ours
pub returns-in-Plain-clause-goes : goal.returns-in-Plain-clause-goes
returns-in-Plain-clause-goes g c = λ honest.
    let ours = g.K.Kind.ours c.args.kind.now in
    let a = g.F.Folder.seen c.args.folder.now in
    let b = g.F.Folder.seen c.look.new.self in
    let may = MayTake ours a.disk c.args.name in
    let T = Takes ours ⊤ c.args.name may in
    let same = (c.look.ensures.goes honest).reads in
    stays_first T (takes_refl ours ⊤ c.args.name may) a b (g.F.Folder.seen c.take.new.folder) c.look.ensures.goes
    (widen (Takes ours ⊤ c.args.name (IsOurs ours b.disk c.args.name)) T b (g.F.Folder.seen c.take.new.folder) c.take.ensures.goes
    (λ h x y t. takes_more ours ⊤ c.args.name (IsOurs ours b.disk c.args.name) may x y (λ n is. inr (subst (λ (d : Disk). IsOurs ours d c.args.name n) same is)) t)) honest

-- nothing is there, and a file is made, or none
pub returns-in-Absent-clause-goes : goal.returns-in-Absent-clause-goes
returns-in-Absent-clause-goes g c = λ honest.
    let ours = g.K.Kind.ours c.args.kind.now in
    let a = g.F.Folder.seen c.args.folder.now in
    let b = g.F.Folder.seen c.look.new.self in
    let d = g.F.Folder.seen c.make.new.folder in
    let may = MayTake ours a.disk c.args.name in
    let T = Takes ours ⊤ c.args.name may in
    let same = (c.look.ensures.goes honest).reads in
    let none : a.disk.entry c.args.name ≡ absent = search rules in
    stays_first T (takes_refl ours ⊤ c.args.name may) a b d c.look.ensures.goes
    (widen (MayMake c.args.name b.disk.next) T b d c.make.ensures.goes
    (λ h x y made. takes_made ours ⊤ c.args.name may b.disk.next (inl (none, ap (λ (x : Disk). x.next) same)) (g.met.K.Kind.small c.args.kind.now [] (omega arith)) x y made)) honest
