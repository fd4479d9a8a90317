use Rattle.std.proofs.Common.{sym, subst}
use Rattle.std.proofs.lemmas.List.Sorted.{IsPermutation-sym, IsPermutation-trans}
use Rattle.std.specs.List.Sorted.{IsNonDecreasingBy, IsPermutation}
use Rattle.fw_air.specs.Events.{Receipt}
use Rattle.fw_world.specs.Runs.{events_of}
use Rattle.fw_accounts.specs.Accounts.{all_of, numbered}
use Rattle.fw_accounts.proofs.Ordered.{in_one_way}
use Rattle.fw_accounts.proofs.accounts.are_numbered.Goals as goal

pub returns-clause-numbered : goal.returns-clause-numbered
returns-clause-numbered c =
    let all = all_of c.args.receipts.now in
    let sorted = c.deref.result.now in
    let made = events_of c.args.made.now in
    let same : IsPermutation all sorted = subst (IsPermutation all) (sym c.deref.ensures.value) c.in_ok-all.ensures.same in
    let in_order = subst (IsNonDecreasingBy (λ (receipt : Receipt). receipt.number)) (sym c.deref.ensures.value) c.in_ok-all.ensures.in_order in (
      λ yes. subst (IsPermutation all) (c.are_for.ensures.0 yes) same,
      λ once. c.are_for.ensures.1 (in_one_way c.args.first made sorted (IsPermutation-trans sorted all (numbered c.args.first made) (IsPermutation-sym all sorted same) once) in_order),
    )
