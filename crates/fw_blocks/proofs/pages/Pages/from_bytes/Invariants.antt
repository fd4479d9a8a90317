use Rattle.fw_blocks.proofs.PageLemmas.{ReadTo}
use Rattle.fw_blocks.proofs.pages.Pages.from_bytes.Given as goal

abbrev pub invariant-loop-page : goal.invariant-loop-page
invariant-loop-page l = ReadTo l.bytes l.page l.words l.counts
