use Rattle.std.proofs.Common.{subst}
use Rattle.fw_blocks.specs.Members.{IsFirstMissing}
use Rattle.fw_blocks.proofs.MemberLemmas.{only_first_missing}
use Rattle.fw_blocks.proofs.PageLemmas.{are_words, pages_full, first_of_pages}
use Rattle.fw_blocks.proofs.pages.Pages.first_missing.Goals as goal

pub first_unmarked-requires : goal.first_unmarked-requires
first_unmarked-requires c =
    let are = are_words c.self.inside.count c.self.inside.words c.self.inside.counts c.self.invariant in
    pages_full c.self.inside.count c.self.inside.words c.self.inside.counts are c.full_pages.result c.full_pages.ensures.most c.full_pages.ensures.full

pub returns-clause-least : goal.returns-clause-least
returns-clause-least c =
    subst (λ marks. IsFirstMissing marks c.first_unmarked.result) c.self.view_is
    (first_of_pages c.self.inside.count c.self.inside.words c.self.inside.counts c.self.invariant c.first_unmarked.result c.first_unmarked.ensures.before c.first_unmarked.ensures.here)

pub returns-clause-value : goal.returns-clause-value
returns-clause-value c = only_first_missing c.args.self.now c.first_unmarked.result (returns-clause-least c)
