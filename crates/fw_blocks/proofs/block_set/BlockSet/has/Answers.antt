use Rattle.std.proofs.Common.{◌<◌, ◌≤◌, length, sym, ap, subst, ◌∙◌}
use Rattle.std.specs.List.{AllWithin, slice_get}
use Rattle.fw_blocks.specs.Members.{has}
use Rattle.fw_blocks.specs.declared.runs.Run.{Run}
use Rattle.fw_blocks.proofs.RunLemmas.{has_at, has_past}
use Rattle.fw_blocks.proofs.block_set.BlockSet.has.Goals as goal

pub returns-in-None : goal.returns-in-None
returns-in-None c =
    let xs = c.self.inside.runs.items in
    let n = c.args.number in
    let read = c.as_slice-runs.ensures.value in
    let none = ap (λ l. slice_get l c.place_of.result) (sym read) ∙ sym c.run_at.ensures ∙ c.in-None.is in
    let before = subst (λ l. AllWithin (λ (run : Run). run.end < n) l 0 c.place_of.result) read c.place_of.ensures.before in
    sym (ap (λ set. has set n) (sym c.self.view_is) ∙ has_past c.self.inside.count xs c.place_of.result n c.self.invariant.apart none before)

pub returns-in-Some : goal.returns-in-Some
returns-in-Some c =
    let xs = c.self.inside.runs.items in
    let n = c.args.number in
    let read = c.as_slice-runs.ensures.value in
    let there = ap (λ l. slice_get l c.place_of.result) (sym read) ∙ sym c.run_at.ensures ∙ c.in-Some.is in
    let before = subst (λ l. AllWithin (λ (run : Run). run.end < n) l 0 c.place_of.result) read c.place_of.ensures.before in
    let behind = subst (λ l. AllWithin (λ (run : Run). n ≤ run.end) l c.place_of.result (length l)) read c.place_of.ensures.behind in
    c.is_of.ensures
    ∙ sym (ap (λ set. has set n) (sym c.self.view_is) ∙ has_at c.self.inside.count xs c.place_of.result c.in-Some.run' n c.self.invariant.apart there before behind)
