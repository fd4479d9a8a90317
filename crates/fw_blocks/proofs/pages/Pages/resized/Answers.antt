use Rattle.std.proofs.Common.{◌≡◌, ℕ, ◌-◌, ◌++◌, Bool, false, List, length, take, replicate, append-nil, sym, ap, ◌∙◌, arith}
use Rattle.std.proofs.lemmas.List.{take_all}
use Rattle.fw_blocks.specs.Private.{marks_of}
use Rattle.fw_blocks.specs.Members.{resized_marks}
use Rattle.fw_blocks.proofs.PageLemmas.{are_words, holds, grown, marks_grown}
use Rattle.fw_blocks.proofs.pages.Pages.resized.Goals as goal

pub invariant_of-result : goal.invariant_of-result
invariant_of-result c =
    let was = c.self.inside in
    holds c.args.count was.words was.counts c.requires
    (grown was.count c.args.count was.words was.counts (omega arith) (are_words was.count was.words was.counts c.self.invariant))

pub returns-then-count-self : goal.returns-then-count-self
returns-then-count-self c =
    let marks = c.args.self in
    let none : c.args.count - length marks ≡ 0 = omega (arith, ap length c.self.view_is, c.self.invariant.size) in
    c.below.ensures ∙ sym (append-nil (take c.args.count marks)) ∙ ap (λ (n : ℕ). take c.args.count marks ++ replicate n false) (sym none)

pub returns : goal.returns
returns c =
    let was = c.self.inside in
    let marks = marks_of was.count was.words in
    let few : length marks ≡ was.count = c.self.invariant.size in
    let whole : take c.args.count marks ≡ marks = take_all c.args.count marks (omega (arith, few)) in
    sym (marks_grown was.count c.args.count was.words (omega arith) (are_words was.count was.words was.counts c.self.invariant).past)
    ∙ ap (λ (xs : List Bool). xs ++ replicate (c.args.count - length marks) false) (sym whole)
    ∙ ap (resized_marks c.args.count) c.self.view_is
