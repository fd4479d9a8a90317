use Rattle.std.proofs.Common.{rules, ◌≤◌, ◌+◌, ◌-◌, inl, inr, take, replicate, refl, arith}
use Rattle.std.proofs.lemmas.List.{take-replicate}
use Rattle.fw_disk.proofs.Reserving.{begun, breaks, grows, ended}
use Rattle.fw_disk.proofs.filling.reserve.Goals as goal

pub loop-at-init : goal.loop-at-init
loop-at-init g c = (begun (g.F.Folder.number c.args.file.now) c.args.from (g.F.Folder.seen c.args.folder.now), inr refl)

pub loop-at-preserved : goal.loop-at-preserved
loop-at-preserved g c =
    let count = c.min-count.result in
    let few : count ≤ 4096 = search rules in
    let within : count ≤ c.args.to - c.loop-at.at = search rules in
    let below = c.loop-at-test.true in (
      grows (g.F.Folder.number c.args.file.now) c.args.from c.loop-at.at count (c.loop-at.at + count) (take count (replicate 4096 0))
          (g.F.Folder.seen c.args.folder.now) (g.F.Folder.seen c.loop-at.folder) (g.F.Folder.seen c.write_at.new.self)
          (take-replicate count 4096 0 few) c.loop-at.invariant.0 c.write_at.ensures.goes refl (λ h inside. c.in_ok-write_at.ensures.done h inside),
      inl (omega (arith, within, below)),
    )

-- a piece was cut
pub returns-in_err-write_at-clause-goes : goal.returns-in_err-write_at-clause-goes
returns-in_err-write_at-clause-goes g c =
    let count = c.min-count.result in
    let few : count ≤ 4096 = search rules in
    let within : count ≤ c.args.to - c.loop-at.at = search rules in
    let below = c.loop-at-test.true in
    breaks (g.F.Folder.number c.args.file.now) c.args.from c.loop-at.at count c.args.to (take count (replicate 4096 0))
    (g.F.Folder.seen c.args.folder.now) (g.F.Folder.seen c.loop-at.folder) (g.F.Folder.seen c.write_at.new.self)
    (take-replicate count 4096 0 few) c.loop-at.invariant.0 c.write_at.ensures.goes (omega (arith, within, below))

pub returns-clause-goes : goal.returns-clause-goes
returns-clause-goes g c =
    let past : c.args.to ≤ c.loop-at.at = omega arith in
    ended (g.F.Folder.number c.args.file.now) c.args.from c.loop-at.at c.args.to (g.F.Folder.seen c.args.folder.now) (g.F.Folder.seen c.loop-at.folder)
    c.loop-at.invariant.0 c.loop-at.invariant.1 past
