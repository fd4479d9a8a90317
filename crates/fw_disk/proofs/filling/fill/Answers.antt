use Rattle.std.proofs.Common.{rules, ◌≡◌, min, [], length, ◌∙◌, ap, arith}
use Rattle.fw_disk.specs.Calls.{Writes, Tears}
use Rattle.fw_disk.specs.Ours.{Fills}
use Rattle.fw_disk.proofs.Goings.{follow, widen_from, on_ok}
use Rattle.fw_disk.proofs.Fillings.{torn_first, torn_others, written_first, written_all}
use Rattle.fw_disk.proofs.filling.fill.Goals as goal

-- both parts are written
pub returns-clause-done : goal.returns-clause-done
returns-clause-done g c = λ honest empty.
    let ours = g.K.Kind.ours c.args.kind.now in
    let limit = g.K.Kind.first c.args.kind.now in
    let n = g.F.Folder.number c.args.file.now in
    let bytes = c.args.bytes.now in
    let f = c.split_at.result.0.now in
    let o = c.split_at.result.1.now in
    let k_is : c.min.result ≡ min (length bytes) limit = search rules in
    let a = g.F.Folder.seen c.args.folder.now in
    let b = g.F.Folder.seen c.write_synced.new.folder in
    let d = g.F.Folder.seen c.write_synced-2.new.folder in
    let first = written_first ours limit n c.min.result bytes f o k_is c.split_at.ensures.front c.split_at.ensures.back a.disk b.disk empty (c.in_ok-write_synced.ensures.done honest (omega arith)) in
    let then = (c.write_synced.ensures.goes honest).honest in
    on_ok c.write_synced-2.result (Writes n (length f) o b.disk d.disk) (d.disk.bytes n ≡ bytes)
    (λ w. written_all ours limit n c.min.result bytes f o k_is c.split_at.ensures.front c.split_at.ensures.back b.disk d.disk first w)
    (c.write_synced-2.ensures.done then (omega (arith, ap length first)))

-- the first part is synced before the others are written
pub returns-clause-goes : goal.returns-clause-goes
returns-clause-goes g c = λ empty synced honest.
    let ours = g.K.Kind.ours c.args.kind.now in
    let limit = g.K.Kind.first c.args.kind.now in
    let n = g.F.Folder.number c.args.file.now in
    let bytes = c.args.bytes.now in
    let f = c.split_at.result.0.now in
    let o = c.split_at.result.1.now in
    let k_is : c.min.result ≡ min (length bytes) limit = search rules in
    let a = g.F.Folder.seen c.args.folder.now in
    let b = g.F.Folder.seen c.write_synced.new.folder in
    let d = g.F.Folder.seen c.write_synced-2.new.folder in
    let T = Fills ours limit n bytes in
    let first = written_first ours limit n c.min.result bytes f o k_is c.split_at.ensures.front c.split_at.ensures.back a.disk b.disk empty (c.in_ok-write_synced.ensures.done honest (omega arith)) in
    follow T (Tears n (length f) (length o)) T (λ x. x.bytes n ≡ f) a b d
    (widen_from (Tears n 0 (length f)) T (λ x. x.bytes n ≡ []) a b c.write_synced.ensures.goes (λ h. empty) (λ h left may. synced left may ∙ empty)
    (λ x y q t. torn_first ours limit n c.min.result bytes f o k_is c.split_at.ensures.front c.split_at.ensures.back (g.met.K.Kind.small c.args.kind.now) x y q t))
    (λ h. first) (λ h left may. c.in_ok-write_synced.ensures.synced h left may ∙ first) c.write_synced-2.ensures.goes
    (λ x y t. t)
    (λ x y z t q s. torn_others ours limit n c.min.result bytes f o k_is c.split_at.ensures.front c.split_at.ensures.back x y z t q s) honest
