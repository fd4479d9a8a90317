use Rattle.std.proofs.Common.{sym, ap, subst, ◌∙◌}
use Rattle.std.specs.List.{slice_get}
use Rattle.fw_blocks.specs.Members.{IsFirstMissing}
use Rattle.fw_blocks.proofs.MemberLemmas.{only_first_missing}
use Rattle.fw_blocks.proofs.RunLemmas.{first_at, none_at}
use Rattle.fw_blocks.proofs.block_set.BlockSet.first_missing.Goals as goal

pub returns-in-None-clause-least : goal.returns-in-None-clause-least
returns-in-None-clause-least c =
    let read = c.as_slice.ensures.value in
    let none = ap (λ l. slice_get l 0) (sym read) ∙ sym c.run_at.ensures ∙ c.in-None.is in
    subst (λ set. IsFirstMissing set 0) c.self.view_is (none_at c.self.inside.count c.self.inside.runs.items c.self.invariant.apart none)

pub returns-in-None-clause-value : goal.returns-in-None-clause-value
returns-in-None-clause-value c = only_first_missing c.args.self.now 0 (returns-in-None-clause-least c)

pub returns-in-Some-clause-least : goal.returns-in-Some-clause-least
returns-in-Some-clause-least c =
    let read = c.as_slice.ensures.value in
    let there = ap (λ l. slice_get l 0) (sym read) ∙ sym c.run_at.ensures ∙ c.in-Some.is in
    rw (c.end_from_0.ensures, ← c.self.view_is) (first_at c.self.inside.count c.self.inside.runs.items c.in-Some.run' c.self.invariant.apart there)

pub returns-in-Some-clause-value : goal.returns-in-Some-clause-value
returns-in-Some-clause-value c = only_first_missing c.args.self.now c.end_from_0.result (returns-in-Some-clause-least c)
