use Rattle.std.proofs.Common.{ℕ, List, drop, subst, arith}
use Rattle.fw_journal.specs.Book.{HasBlocks}
use Rattle.fw_journal.proofs.Blocks.{count_unique}
use Rattle.fw_journal.proofs.journal.keep_rest.Goals as goal

pub returns-then-count-eq0-clause-held : goal.returns-then-count-eq0-clause-held
returns-then-count-eq0-clause-held g c = λ count has some.
    let rest = drop c.args.end c.args.bytes.now in
    let counted = subst (λ (l : List ℕ). HasBlocks c.count_blocks-count.result l) c.split_at.ensures.back c.count_blocks-count.ensures in
    absurd (omega (arith, some, c.if-count-eq0.true, count_unique rest count c.count_blocks-count.result has counted))

pub returns-clause-idle : goal.returns-clause-idle
returns-clause-idle g c = λ none.
    let rest = drop c.args.end c.args.bytes.now in
    let counted = subst (λ (l : List ℕ). HasBlocks c.count_blocks-count.result l) c.split_at.ensures.back c.count_blocks-count.ensures in
    absurd (omega (arith, c.if-count-eq0.false, count_unique rest c.count_blocks-count.result 0 counted none))
