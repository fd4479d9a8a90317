use Rattle.std.proofs.Common.{◌≡◌, length, arith}
use Rattle.fw_blocks.proofs.PageLemmas.{written_all}
use Rattle.fw_blocks.proofs.pages.put_words.Goals as goal

pub returns : goal.returns
returns c =
    let all : c.loop-page.page ≡ length c.args.words.now = omega arith in
    written_all c.loop-page.bytes c.args.words.now c.loop-page.page all c.loop-page.invariant.1 c.loop-page.invariant.0
