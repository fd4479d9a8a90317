use Rattle.std.proofs.Common.{rules, ℕ, List, subst, IsTrue}
use Rattle.std.specs.Prelude.{⊤}
use Rattle.fw_disk.specs.declared.name.Name.TheVariants.{Main, New}
use Rattle.fw_disk.specs.Disk.{Disk, Seen, IsAlone, Goes}
use Rattle.fw_disk.specs.Calls.{Stays, MayRemove}
use Rattle.fw_disk.specs.Ours.{MayTake, MayTakeBeside, Takes, Starts, Fills}
use Rattle.fw_disk.proofs.Goings.{chain, widen, stays_first}
use Rattle.fw_disk.proofs.Steps.{takes_refl, takes_trans, takes_begun, takes_filled, takes_removed}
use Rattle.fw_disk.proofs.replacing.make_beside.Goals as goal

-- a file that is alone, and then a making
module _ (ours : List ℕ → Type 0) (fits : Type 0) (o : ℕ) where
  begun : (a b d : Seen) → Goes Stays a b → IsAlone a.disk Main o → Goes (Takes ours ⊤ New (MayTake ours b.disk New)) b d → IsTrue a.honest → Goes (Takes ours fits New (MayTakeBeside ours a.disk o)) a d
  begun a b d first alone second honest =
      let same = (first honest).reads in
      stays_first (Takes ours fits New (MayTakeBeside ours a.disk o)) (takes_refl ours fits New (MayTakeBeside ours a.disk o)) a b d first
      (widen (Takes ours ⊤ New (MayTake ours b.disk New)) (Takes ours fits New (MayTakeBeside ours a.disk o)) b d second
      (λ h x y t. takes_begun ours fits New (MayTakeBeside ours a.disk o) (MayTake ours b.disk New) x y
      (λ n is. record { main = alone; takes = subst (λ (d : Disk). MayTake ours d New n) same is }) t))

pub returns-in_err-file-clause-goes : goal.returns-in_err-file-clause-goes
returns-in_err-file-clause-goes g c = λ honest.
    let ours = g.K.Kind.ours c.args.kind.now in
    let o = g.F.Folder.number c.args.old.now in
    let fits = Starts ours (g.K.Kind.first c.args.kind.now) c.args.bytes.now in
    let is : IsTrue c.in_ok-is_alone.field-0 = search rules in
    let alone = (c.in_ok-is_alone.ensures.done honest).0 is in
    begun ours fits o (g.F.Folder.seen c.args.folder.now) (g.F.Folder.seen c.is_alone.new.self) (g.F.Folder.seen c.begin.new.folder) c.is_alone.ensures.goes alone c.begin.ensures.goes honest honest

pub returns-in-Ok-clause-goes : goal.returns-in-Ok-clause-goes
returns-in-Ok-clause-goes g c = λ honest.
    let ours = g.K.Kind.ours c.args.kind.now in
    let first = g.K.Kind.first c.args.kind.now in
    let o = g.F.Folder.number c.args.old.now in
    let bytes = c.args.bytes.now in
    let fits = Starts ours first bytes in
    let is : IsTrue c.in_ok-is_alone.field-0 = search rules in
    let alone = (c.in_ok-is_alone.ensures.done honest).0 is in
    let a = g.F.Folder.seen c.args.folder.now in
    let b = g.F.Folder.seen c.is_alone.new.self in
    let d = g.F.Folder.seen c.begin.new.folder in
    let e = g.F.Folder.seen c.fill_like.new.folder in
    let n = g.F.Folder.number c.in_ok-file.file in
    let then = (c.is_alone.ensures.goes honest).honest in
    let T = Takes ours fits New (MayTakeBeside ours a.disk o) in
    let taken : MayTakeBeside ours a.disk o n = record { main = alone; takes = subst (λ (x : Disk). MayTake ours x New n) (c.is_alone.ensures.goes honest).reads (c.in_ok-file.ensures.taken then) } in
    let empty = (c.in_ok-file.ensures.empty then).contents in
    let filled = c.fill_like.ensures.goes empty (c.in_ok-file.ensures.synced then) in
    chain T (takes_trans ours fits New (MayTakeBeside ours a.disk o)) a d e (begun ours fits o a b d c.is_alone.ensures.goes alone c.begin.ensures.goes honest)
    (widen (Fills ours first n bytes) T d e filled (λ h x y f. takes_filled ours fits New (MayTakeBeside ours a.disk o) n first bytes taken (λ fit. fit) x y f)) honest

-- what was begun is taken away
pub returns-in-Err-clause-goes : goal.returns-in-Err-clause-goes
returns-in-Err-clause-goes g c = λ honest.
    let ours = g.K.Kind.ours c.args.kind.now in
    let first = g.K.Kind.first c.args.kind.now in
    let o = g.F.Folder.number c.args.old.now in
    let bytes = c.args.bytes.now in
    let fits = Starts ours first bytes in
    let is : IsTrue c.in_ok-is_alone.field-0 = search rules in
    let alone = (c.in_ok-is_alone.ensures.done honest).0 is in
    let a = g.F.Folder.seen c.args.folder.now in
    let b = g.F.Folder.seen c.is_alone.new.self in
    let d = g.F.Folder.seen c.begin.new.folder in
    let e = g.F.Folder.seen c.fill_like.new.folder in
    let n = g.F.Folder.number c.in_ok-file.file in
    let then = (c.is_alone.ensures.goes honest).honest in
    let T = Takes ours fits New (MayTakeBeside ours a.disk o) in
    let taken : MayTakeBeside ours a.disk o n = record { main = alone; takes = subst (λ (x : Disk). MayTake ours x New n) (c.is_alone.ensures.goes honest).reads (c.in_ok-file.ensures.taken then) } in
    let empty = (c.in_ok-file.ensures.empty then).contents in
    let filled = c.fill_like.ensures.goes empty (c.in_ok-file.ensures.synced then) in
    chain T (takes_trans ours fits New (MayTakeBeside ours a.disk o)) a e (g.F.Folder.seen c.abandon.new.folder)
    (chain T (takes_trans ours fits New (MayTakeBeside ours a.disk o)) a d e (begun ours fits o a b d c.is_alone.ensures.goes alone c.begin.ensures.goes honest)
    (widen (Fills ours first n bytes) T d e filled (λ h x y f. takes_filled ours fits New (MayTakeBeside ours a.disk o) n first bytes taken (λ fit. fit) x y f)))
    (widen (MayRemove New) T e (g.F.Folder.seen c.abandon.new.folder) c.abandon.ensures.goes (λ h x y r. takes_removed ours fits New (MayTakeBeside ours a.disk o) x y r)) honest
