use Rattle.std.proofs.Common.{rules, arith, ◌-◌, ◌≤◌, ◌≡◌, length}
use Rattle.fw_cuts.specs.Private.{IsWrittenAgain}
use Rattle.fw_cuts.specs.Cuts.{IsSynced, NoneLost, LosesNoMore}
use Rattle.fw_cuts.specs.declared.files.Part.TheVariants.{Store}
use Rattle.fw_cuts.proofs.Goings.{on_ok_2}
use Rattle.fw_cuts.proofs.Pieces.{begins, goes_on, none_lost, ends}
use Rattle.fw_cuts.proofs.again.write_again.Goals as goal

pub loop-at-init : goal.loop-at-init
loop-at-init g c = (
  λ honest. begins (g.F.StoreFiles.seen c.args.files.now) (g.F.StoreFiles.seen c.len.new.self) c.in_ok-size.size (c.len.ensures.goes honest) (c.in_ok-size.ensures.done honest),
  omega arith,
)

pub loop-at-preserved : goal.loop-at-preserved
loop-at-preserved g c =
    let count = c.min-count.result in
    let within : count ≤ c.in_ok-size.size - c.loop-at.at = search rules in
    let below = c.loop-at-test.true in (
      λ honest.
          let so_far = c.loop-at.invariant.0 honest in
          let few : length c.read_at.new.out ≡ count = search rules in
          goes_on (g.F.StoreFiles.seen c.args.files.now) (g.F.StoreFiles.seen c.loop-at.files) (g.F.StoreFiles.seen c.read_at.new.self) (g.F.StoreFiles.seen c.write_at.new.self)
          c.in_ok-size.size c.loop-at.at count c.read_at.new.out so_far (omega (arith, within, below)) few
          (c.read_at.ensures.goes honest) (c.read_at.ensures.lost honest) (search (rules, c.in_ok-read_at.ensures.done honest))
          (c.write_at.ensures.goes honest) (c.in_ok-write_at.ensures.done honest) (c.write_at.ensures.lost honest) (c.in_ok-write_at.ensures.found honest),
      omega (arith, within, below),
    )

pub returns-clause-written : goal.returns-clause-written
returns-clause-written g c = λ honest.
    let a = g.F.StoreFiles.seen c.args.files.now in
    let b = g.F.StoreFiles.seen c.loop-at.files in
    let e = g.F.StoreFiles.seen c.sync.new.self in
    let so_far = c.loop-at.invariant.0 honest in
    let past : c.in_ok-size.size ≤ c.loop-at.at = c.loop-at-test.false in
    let none : NoneLost Store b = none_lost a b c.in_ok-size.size c.loop-at.at so_far past (λ i is. g.met.F.StoreFiles.lost_is_there honest c.loop-at.files Store i is) in
    on_ok_2 c.sync.result (IsSynced Store e) (LosesNoMore b e) (IsWrittenAgain a e)
    (λ synced lost. ends a b e c.in_ok-size.size c.loop-at.at so_far none (c.sync.ensures.goes honest) lost synced)
    (c.sync.ensures.done honest none) (c.sync.ensures.lost honest)
