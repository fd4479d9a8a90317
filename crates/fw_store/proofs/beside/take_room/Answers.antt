use Rattle.std.proofs.Common.{rules, ◌≡◌, ◌-◌, [], length, ap, ◌∙◌, arith}
use Rattle.std.specs.Int.{w32, to_be_bytes}
use Rattle.fw_disk.specs.Calls.{Tears}
use Rattle.fw_disk.proofs.Goings.{follow, widen_from, stays_last}
use Rattle.fw_store.specs.Making.{TakesRoom}
use Rattle.fw_store.proofs.Makings.{length_capacity, torn_capacity, torn_zeros, written_capacity}
use Rattle.fw_store.proofs.beside.take_room.Goals as goal

-- the capacity is synced before the zeros are written
pub returns-clause-goes : goal.returns-clause-goes
returns-clause-goes g c = λ empty synced honest.
    let n = g.F.Folder.number c.args.file.now in
    let capacity = c.args.capacity in
    let bytes = c.to_be_bytes.result in
    let size = c.store_size-size.result in
    let T = TakesRoom capacity n in
    let a = g.F.Folder.seen c.args.folder.now in
    let b = g.F.Folder.seen c.write_at.new.self in
    let d = g.F.Folder.seen c.sync.new.self in
    let e = g.F.Folder.seen c.reserve.new.folder in
    let is : bytes ≡ to_be_bytes w32 capacity = search rules in
    let four : length bytes ≡ 4 = ap length is ∙ length_capacity capacity in
    let first = written_capacity n bytes a.disk b.disk empty (c.in_ok-write_at.ensures.done honest (omega arith)) ∙ is in
    let then = (c.write_at.ensures.goes honest).honest in
    let has : d.disk.bytes n ≡ to_be_bytes w32 capacity = ap (λ x. x.bytes n) (c.sync.ensures.goes then).reads ∙ first in
    follow T (Tears n 4 (size - 4)) T (λ x. x.bytes n ≡ to_be_bytes w32 capacity) a d e
    (stays_last T a b d
    (widen_from (Tears n 0 (length bytes)) T (λ x. x.bytes n ≡ []) a b c.write_at.ensures.goes (λ h. empty) (λ h left may. synced left may ∙ empty)
    (λ x y q t. torn_capacity capacity n (length bytes) four x y q t))
    c.sync.ensures.goes)
    (λ h. has) (λ h left may. c.in_ok-sync.ensures.done then left may ∙ has) c.reserve.ensures.goes
    (λ x y t. t)
    (λ x y z t q s. torn_zeros capacity size (search rules) n x y z t q s) honest
