use Rattle.std.proofs.Common.{◌≡◌, length, ap, subst, ◌∙◌, arith}
use Rattle.fw_axdr.specs.Bits.{packed}
use Rattle.fw_blocks.specs.Cuts.{max_blocks}
use Rattle.fw_blocks.specs.Private.{marks_of}
use Rattle.fw_blocks.specs.Members.{all_marks}
use Rattle.fw_blocks.proofs.PageLemmas.{are_words, words_packed, length-all_marks, all_again}
use Rattle.fw_blocks.proofs.pages.Pages.to_bytes.Goals as goal

pub returns-clause-value : goal.returns-clause-value
returns-clause-value c =
    let words = c.self.inside.words in
    let are = are_words c.self.inside.count words c.self.inside.counts c.self.invariant in
    c.put_words.ensures ∙ words_packed c.self.inside.count words c.self.inside.counts c.self.invariant.most are c.bytes_packed.ensures
    ∙ ap (λ marks. packed (all_marks marks)) c.self.view_is

pub returns-clause-size : goal.returns-clause-size
returns-clause-size c =
    subst (λ marks. length (all_marks marks) ≡ max_blocks) c.self.view_is
    (length-all_marks (marks_of c.self.inside.count c.self.inside.words) (omega (arith, c.self.invariant.most, c.self.invariant.size)))

pub returns-clause-whole : goal.returns-clause-whole
returns-clause-whole c = all_again c.args.self.now
