use Rattle.std.proofs.Common.{◌≡◌, sym, ◌∙◌}
use Rattle.fw_disk.specs.declared.name.Name.TheVariants.{Main, New}
use Rattle.fw_disk.specs.Ours.{Fills, Names}
use Rattle.fw_disk.proofs.Goings.{follow}
use Rattle.fw_host.specs.BegunCapture.{IsBegunCapture, MakesFile}
use Rattle.fw_host.proofs.Makings.{makes_filled, makes_named}
use Rattle.fw_host.proofs.capture_making.fill_and_name.Goals as goal

pub returns-in-Ok-finish-clause-absent : goal.returns-in-Ok-finish-clause-absent
returns-in-Ok-finish-clause-absent g c = λ honest named synced.
    let filled = c.fill.ensures.goes named.contents synced honest in
    sym (filled.reads.only.entries Main (λ no. no)) ∙ c.in-Ok-finish.ensures.absent filled.honest

pub returns-in-Ok-finish-clause-named : goal.returns-in-Ok-finish-clause-named
returns-in-Ok-finish-clause-named g c = λ honest named synced.
    let filled = c.fill.ensures.goes named.contents synced honest in
    let it = c.in-Ok-finish.ensures.named filled.honest (filled.reads.only.entries New (λ no. no) ∙ named.named) in
    record { named = it.named; contents = it.contents ∙ c.in-Ok.ensures.done honest named.contents }

pub returns-in-Ok-finish-clause-kept : goal.returns-in-Ok-finish-clause-kept
returns-in-Ok-finish-clause-kept g c = λ honest named synced left may.
    let filled = c.fill.ensures.goes named.contents synced honest in
    let it = c.in-Ok-finish.ensures.kept filled.honest (filled.reads.only.entries New (λ no. no) ∙ named.named) left may in
    record { named = it.named; contents = it.contents ∙ c.in-Ok.ensures.done honest named.contents }

-- it is filled, and then named
pub returns-in-Ok-finish-clause-goes : goal.returns-in-Ok-finish-clause-goes
returns-in-Ok-finish-clause-goes g c = λ named synced honest.
    let n = g.F.Folder.number c.args.file.now in
    let bytes = c.args.header.now in
    let a = g.F.Folder.seen c.args.folder.now in
    let b = g.F.Folder.seen c.fill.new.folder in
    let filled = c.fill.ensures.goes named.contents synced in
    let has = c.in-Ok.ensures.done honest named.contents in
    follow (Fills IsBegunCapture 0 n bytes) (Names n (b.disk.bytes n)) (MakesFile bytes (λ m. m ≡ n)) (λ x. Unit {0}) a b (g.F.Folder.seen c.finish.new.folder)
    filled (λ h. tt) (λ h left may. tt) (c.finish.ensures.goes ((filled honest).reads.only.entries New (λ no. no) ∙ named.named))
    (makes_filled bytes n IsBegunCapture 0) (λ x y z f q m. makes_named bytes n IsBegunCapture 0 (b.disk.bytes n) has x y z f m) honest

pub returns-in-Err-finish-clause-goes : goal.returns-in-Err-finish-clause-goes
returns-in-Err-finish-clause-goes g c = λ named synced honest.
    let n = g.F.Folder.number c.args.file.now in
    let bytes = c.args.header.now in
    let a = g.F.Folder.seen c.args.folder.now in
    let b = g.F.Folder.seen c.fill.new.folder in
    let filled = c.fill.ensures.goes named.contents synced in
    let has = c.in-Ok.ensures.done honest named.contents in
    follow (Fills IsBegunCapture 0 n bytes) (Names n (b.disk.bytes n)) (MakesFile bytes (λ m. m ≡ n)) (λ x. Unit {0}) a b (g.F.Folder.seen c.finish.new.folder)
    filled (λ h. tt) (λ h left may. tt) (c.finish.ensures.goes ((filled honest).reads.only.entries New (λ no. no) ∙ named.named))
    (makes_filled bytes n IsBegunCapture 0) (λ x y z f q m. makes_named bytes n IsBegunCapture 0 (b.disk.bytes n) has x y z f m) honest
