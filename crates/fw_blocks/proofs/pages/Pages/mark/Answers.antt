use Rattle.std.proofs.Common.{◌/◌, ◌<◌, length, get_or, set, true, sym, ap, ◌∙◌, arith}
use Rattle.fw_blocks.specs.Private.{page_count}
use Rattle.fw_blocks.proofs.PageLemmas.{bit_from_top, are_words, holds, ones_of-le, length-marks_of, marks_more, marks_same, words_more}
use Rattle.fw_blocks.proofs.pages.Pages.mark.Goals as goal

pub overflow_add-self : goal.overflow_add-self
overflow_add-self c =
    let are = are_words c.self.inside.count c.self.inside.words c.self.inside.counts c.self.invariant in
    let size = length-marks_of c.self.inside.count c.self.inside.words in
    let page : c.args.number / 64 < page_count = omega (arith, size, ap length c.self.view_is, c.requires, c.self.invariant.most) in
    omega (arith, are.each (c.args.number / 64) page, ones_of-le (bit_from_top (get_or c.self.inside.words (c.args.number / 64) 0) 64) 64)

pub invariant_of-self : goal.invariant_of-self
invariant_of-self c =
    let are = are_words c.self.inside.count c.self.inside.words c.self.inside.counts c.self.invariant in
    let size = length-marks_of c.self.inside.count c.self.inside.words in
    let below : c.args.number < c.self.inside.count = omega (arith, size, ap length c.self.view_is, c.requires) in
    holds c.self.inside.count _ _ c.self.invariant.most
    (words_more c.self.inside.count c.args.number c.with_bit.result c.self.inside.words c.self.inside.counts below c.self.invariant.most are
    (sym c.has_bit.ensures ∙ c.if-not-has_bit.true) (omega (arith, c.with_bit.type_inv)) c.with_bit.ensures)

pub returns-then-not-has_bit : goal.returns-then-not-has_bit
returns-then-not-has_bit c =
    let size = length-marks_of c.self.inside.count c.self.inside.words in
    let below : c.args.number < c.self.inside.count = omega (arith, size, ap length c.self.view_is, c.requires) in
    marks_more c.self.inside.count c.args.number c.self.inside.words _ below c.with_bit.ensures ∙ ap (λ marks. set marks c.args.number true) c.self.view_is

pub returns-else-not-has_bit : goal.returns-else-not-has_bit
returns-else-not-has_bit c =
    let size = length-marks_of c.self.inside.count c.self.inside.words in
    let below : c.args.number < c.self.inside.count = omega (arith, size, ap length c.self.view_is, c.requires) in
    sym c.self.view_is ∙ marks_same c.self.inside.count c.args.number c.self.inside.words below (sym c.has_bit.ensures ∙ c.if-not-has_bit.false)
    ∙ ap (λ marks. set marks c.args.number true) c.self.view_is
