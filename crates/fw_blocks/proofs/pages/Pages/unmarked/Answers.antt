use Rattle.fw_blocks.proofs.PageLemmas.{holds, none_words, none_marks}
use Rattle.fw_blocks.proofs.pages.Pages.unmarked.Goals as goal

pub invariant_of-result : goal.invariant_of-result
invariant_of-result c = holds c.args.count _ _ c.requires (none_words c.args.count)

pub returns : goal.returns
returns c = none_marks c.args.count
