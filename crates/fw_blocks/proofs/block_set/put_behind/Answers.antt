use Rattle.std.proofs.Common.{◌≡◌, ◌+◌, ◌<◌, length, get_or, refl, sym, ap, subst, ◌∙◌}
use Rattle.fw_blocks.specs.declared.runs.Run.{Run}
use Rattle.fw_blocks.proofs.PutLemmas.{LieApart, below_all, put_behind, put_between}
use Rattle.fw_blocks.proofs.block_set.put_behind.Goals as goal

pub returns-then-starts_at-clause-puts : goal.returns-then-starts_at-clause-puts
returns-then-starts_at-clause-puts c =
    let xs = c.args.runs.now.items in
    let n = c.args.number in
    let next = c.remove-next.result in
    let some : LieApart n xs = (c.requires.apart.0, c.requires.apart.1, c.requires.apart.3) in
    let within : c.args.at + 1 < length xs = subst (λ l. c.args.at + 1 < length l) c.as_slice.ensures.value (c.if-starts_at.ensures.within refl) in
    let there = sym c.remove-next.ensures.value in
    let begins : next.start ≡ n + 1 =
    sym (ap (λ (r : Run). r.start) (ap (λ l. get_or l (c.args.at + 1) next) c.as_slice.ensures.value ∙ there)) ∙ c.if-starts_at.ensures.starts refl next in
    rw c.remove-next.ensures.items
    (below_all n xs _ some (λ count below apart. put_between count n xs c.args.at c.args.run next apart c.requires.there within there c.requires.ends begins))

pub returns-else-starts_at-clause-puts : goal.returns-else-starts_at-clause-puts
returns-else-starts_at-clause-puts c =
    let xs = c.args.runs.now.items in
    let n = c.args.number in
    let some : LieApart n xs = (c.requires.apart.0, c.requires.apart.1, c.requires.apart.3) in
    below_all n xs _ some (λ count below apart. put_behind count n xs c.args.at c.args.run apart below c.requires.there c.requires.ends (λ within d starts.
    c.starts_at.ensures.other c.if-starts_at.false (subst (λ l. c.args.at + 1 < length l) (sym c.as_slice.ensures.value) within) d
    (ap (λ l. (get_or l (c.args.at + 1) d).start) c.as_slice.ensures.value ∙ starts)))
