use Rattle.std.proofs.Common.{◌≡◌, ◌∙◌}
use Rattle.fw_disk.specs.declared.name.Name.TheVariants.{Main, New}
use Rattle.fw_disk.specs.Calls.{MayRename}
use Rattle.fw_disk.specs.Ours.{MayTake, MayTakeBeside, Takes, Starts, Replaces}
use Rattle.fw_disk.proofs.Goings.{follow, widen}
use Rattle.fw_disk.proofs.Steps.{apart, replaces_beside, replaces_renamed}
use Rattle.fw_disk.proofs.replacing.replace.Goals as goal

-- nothing has the name of FILE yet
pub returns-in_err-file-clause-goes : goal.returns-in_err-file-clause-goes
returns-in_err-file-clause-goes g c = λ honest.
    let ours = g.K.Kind.ours c.args.kind.now in
    let first = g.K.Kind.first c.args.kind.now in
    let o = g.F.Folder.number c.args.old.now in
    let bytes = c.args.bytes.now in
    let a = g.F.Folder.seen c.args.folder.now in
    let fresh = g.met.F.Folder.nameless c.args.folder.now honest in
    widen (Takes ours (Starts ours first bytes) New (MayTakeBeside ours a.disk o)) (Replaces ours first o bytes (MayTake ours a.disk New)) a (g.F.Folder.seen c.make_beside.new.folder) c.make_beside.ensures.goes
    (λ h. replaces_beside ours first o bytes (MayTakeBeside ours a.disk o) (MayTake ours a.disk New) (λ n both. both.takes) (apart ours a.disk o fresh)) honest

pub returns-in_err-name_or_abandon-clause-goes : goal.returns-in_err-name_or_abandon-clause-goes
returns-in_err-name_or_abandon-clause-goes g c = λ honest.
    let ours = g.K.Kind.ours c.args.kind.now in
    let first = g.K.Kind.first c.args.kind.now in
    let o = g.F.Folder.number c.args.old.now in
    let bytes = c.args.bytes.now in
    let a = g.F.Folder.seen c.args.folder.now in
    let b = g.F.Folder.seen c.make_beside.new.folder in
    let n = g.F.Folder.number c.in_ok-file.file in
    let fresh = g.met.F.Folder.nameless c.args.folder.now honest in
    let beside = c.in_ok-file.ensures.named honest in
    follow (Takes ours (Starts ours first bytes) New (MayTakeBeside ours a.disk o)) (MayRename New Main (b.disk.entry New)) (Replaces ours first o bytes (MayTake ours a.disk New)) (λ d. d.bytes n ≡ bytes)
    a b (g.F.Folder.seen c.name_or_abandon.new.folder) c.make_beside.ensures.goes (λ h. beside.contents) (λ h left may. c.in_ok-file.ensures.synced h left may ∙ beside.contents) c.name_or_abandon.ensures.goes
    (replaces_beside ours first o bytes (MayTakeBeside ours a.disk o) (MayTake ours a.disk New) (λ n both. both.takes) (apart ours a.disk o fresh))
    (replaces_renamed ours first o bytes (MayTakeBeside ours a.disk o) (MayTake ours a.disk New) (λ n both. both.takes) (apart ours a.disk o fresh) n (b.disk.entry New) beside.named) honest

pub returns-clause-goes : goal.returns-clause-goes
returns-clause-goes g c = λ honest.
    let ours = g.K.Kind.ours c.args.kind.now in
    let first = g.K.Kind.first c.args.kind.now in
    let o = g.F.Folder.number c.args.old.now in
    let bytes = c.args.bytes.now in
    let a = g.F.Folder.seen c.args.folder.now in
    let b = g.F.Folder.seen c.make_beside.new.folder in
    let n = g.F.Folder.number c.in_ok-file.file in
    let fresh = g.met.F.Folder.nameless c.args.folder.now honest in
    let beside = c.in_ok-file.ensures.named honest in
    follow (Takes ours (Starts ours first bytes) New (MayTakeBeside ours a.disk o)) (MayRename New Main (b.disk.entry New)) (Replaces ours first o bytes (MayTake ours a.disk New)) (λ d. d.bytes n ≡ bytes)
    a b (g.F.Folder.seen c.name_or_abandon.new.folder) c.make_beside.ensures.goes (λ h. beside.contents) (λ h left may. c.in_ok-file.ensures.synced h left may ∙ beside.contents) c.name_or_abandon.ensures.goes
    (replaces_beside ours first o bytes (MayTakeBeside ours a.disk o) (MayTake ours a.disk New) (λ n both. both.takes) (apart ours a.disk o fresh))
    (replaces_renamed ours first o bytes (MayTakeBeside ours a.disk o) (MayTake ours a.disk New) (λ n both. both.takes) (apart ours a.disk o fresh) n (b.disk.entry New) beside.named) honest

-- the bytes were synced before the name
pub returns-clause-kept : goal.returns-clause-kept
returns-clause-kept g c = λ honest left may.
    let bytes = c.args.bytes.now in
    let n = g.F.Folder.number c.in_ok-file.file in
    let then = (c.make_beside.ensures.goes honest).honest in
    let beside = c.in_ok-file.ensures.named honest in
    let earlier = (c.name_or_abandon.ensures.goes then).leaves left may in
    record {
      named = c.in_ok-name_or_abandon.ensures.synced then left may Main ∙ (c.in_ok-name_or_abandon.ensures.named then).named ∙ beside.named;
      contents = earlier.2.rest.contents n (λ no. no) ∙ c.in_ok-file.ensures.synced honest earlier.0 earlier.1 ∙ beside.contents;
    }
