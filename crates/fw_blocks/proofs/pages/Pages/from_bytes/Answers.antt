use Rattle.std.proofs.Common.{◌≡◌, ◌<◌, ℕ, length, take, sym, ap, ◌∙◌, subst, arith}
use Rattle.std.proofs.lemmas.List.{get_or_default, take_all}
use Rattle.std.specs.List.{All}
use Rattle.fw_axdr.specs.Bits.{bits, packed}
use Rattle.fw_blocks.specs.Cuts.{max_blocks}
use Rattle.fw_blocks.specs.Private.{page_count}
use Rattle.fw_blocks.proofs.BitLemmas.{length-bits}
use Rattle.fw_blocks.proofs.PageLemmas.{ReadTo, holds, read_none, read_next, read_all, read_marks}
use Rattle.fw_blocks.proofs.pages.Pages.from_bytes.Goals as goal

pub loop-page-init : goal.loop-page-init
loop-page-init c = read_none c.args.bytes.now

pub loop-page-preserved : goal.loop-page-preserved
loop-page-preserved c =
    read_next c.args.bytes.now c.loop-page.page c.word_at-word.result c.loop-page.words c.loop-page.counts c.loop-page.invariant c.loop-page-test.true
    (omega (arith, c.word_at-word.type_inv)) c.word_at-word.ensures

pub invariant_of-result : goal.invariant_of-result
invariant_of-result c =
    let all : c.loop-page.page ≡ page_count = omega arith in
    let read = subst (λ page. ReadTo c.args.bytes.now page c.loop-page.words c.loop-page.counts) all c.loop-page.invariant in
    holds max_blocks c.loop-page.words c.loop-page.counts (omega arith) (read_all c.args.bytes.now c.loop-page.words c.loop-page.counts read)

pub returns-clause-value : goal.returns-clause-value
returns-clause-value c =
    let all : c.loop-page.page ≡ page_count = omega arith in
    let read = subst (λ page. ReadTo c.args.bytes.now page c.loop-page.words c.loop-page.counts) all c.loop-page.invariant in
    read_marks c.args.bytes.now c.loop-page.words c.loop-page.counts (omega (arith, c.told-bytes)) read

pub returns-clause-packs : goal.returns-clause-packs
returns-clause-packs c =
    let small : All (λ b. b < 256) c.args.bytes.now = λ k d h.
    let P : ℕ → Type 0 = λ b. b < 256 in
    subst P (get_or_default c.args.bytes.now k 0 d h) (c.fits-bytes k) in
    ap packed (returns-clause-value c) ∙ c.bytes_packed.ensures c.args.bytes.now small

pub returns-clause-size : goal.returns-clause-size
returns-clause-size c = ap length (returns-clause-value c) ∙ omega (arith, c.told-bytes, length-bits c.args.bytes.now)

pub returns-clause-unique : goal.returns-clause-unique
returns-clause-unique c = λ marks size packs.
    let bytes = c.args.bytes.now in
    let all : take max_blocks (bits bytes) ≡ bits bytes = take_all max_blocks (bits bytes) (omega (arith, c.told-bytes, length-bits bytes)) in
    returns-clause-value c ∙ sym all ∙ ap (λ xs. take max_blocks (bits xs)) (sym packs) ∙ ap (λ n. take n (bits (packed marks))) (sym size) ∙ (c.bits_packed.ensures marks).1
