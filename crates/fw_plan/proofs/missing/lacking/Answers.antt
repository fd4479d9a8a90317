use Rattle.std.proofs.Common.{◌≡◌, ℕ, Bool, nat_eq, not, filter}
use Rattle.std.specs.HashSet.{contains}
use Rattle.fw_plan.specs.Openings.{has_row}
use Rattle.fw_plan.proofs.Lists.{exact_from, lacking_from, once_from}
use Rattle.fw_plan.proofs.missing.lacking.Goals as goal

pub returns-clause-lacking : goal.returns-clause-lacking
returns-clause-lacking c =
    let has : ℕ → Bool = λ m. has_row c.args.book.now c.args.serial c.args.release c.args.image.now m in
    lacking_from (λ m. contains nat_eq c.in_ok-have.have m) has c.args.meters.now c.new-lacking.result.items c.push_lacking.new.lacking.items
    c.in_ok-have.ensures c.new-lacking.ensures.items c.in_ok-push_lacking.ensures

pub returns-clause-exact : goal.returns-clause-exact
returns-clause-exact c =
    let has : ℕ → Bool = λ m. has_row c.args.book.now c.args.serial c.args.release c.args.image.now m in
    let left : c.push_lacking.new.lacking.items ≡ filter (λ m. not (has m)) c.args.meters.now =
    lacking_from (λ m. contains nat_eq c.in_ok-have.have m) has c.args.meters.now c.new-lacking.result.items c.push_lacking.new.lacking.items
    c.in_ok-have.ensures c.new-lacking.ensures.items c.in_ok-push_lacking.ensures in
    exact_from has c.args.meters.now c.push_lacking.new.lacking.items left

pub returns-clause-once : goal.returns-clause-once
returns-clause-once c =
    let has : ℕ → Bool = λ m. has_row c.args.book.now c.args.serial c.args.release c.args.image.now m in
    let left : c.push_lacking.new.lacking.items ≡ filter (λ m. not (has m)) c.args.meters.now =
    lacking_from (λ m. contains nat_eq c.in_ok-have.have m) has c.args.meters.now c.new-lacking.result.items c.push_lacking.new.lacking.items
    c.in_ok-have.ensures c.new-lacking.ensures.items c.in_ok-push_lacking.ensures in
    once_from has c.args.meters.now c.push_lacking.new.lacking.items left
