use Rattle.std.proofs.Common.{rules, ◌≡◌, ◌≢◌, Bool, false, IsTrue, sym, subst, ◌∙◌}
use Rattle.fw_cuts.specs.Write.{Write, IsWrite, journal_bytes}
use Rattle.fw_cuts.proofs.Spellings.{is_sizes, payload_unique, sealed_payload, told_none}
use Rattle.fw_cuts.proofs.undo.write.HeaderWrite.from_bytes.Goals as goal

not_true : (b : Bool) → b ≡ false → IsTrue b → ⊥
not_true b e t = search rules

pub returns-in_err-write-clause-none : goal.returns-in_err-write-clause-none
returns-in_err-write-clause-none c =
    told_none c.from_residual-in_err-write.result ((write : Write) → IsWrite write → c.args.bytes.now ≢ journal_bytes write)
    (λ write is e. c.in_err-write.ensures.none write (is_sizes write is)
    (sealed_payload c.args.bytes.now c.in_ok-before_digest.field-0.now write c.in_ok-before_digest.ensures.found e))

pub returns-else-fits-clause-none : goal.returns-else-fits-clause-none
returns-else-fits-clause-none c = λ write is e.
    let found : Write = c.in_ok-write.write in
    let whole = sealed_payload c.args.bytes.now c.in_ok-before_digest.field-0.now write c.in_ok-before_digest.ensures.found e in
    let same = payload_unique found write c.in_ok-write.ensures.sizes (is_sizes write is) (sym c.in_ok-write.ensures.some ∙ whole) in
    not_true c.fits.result c.if-fits.false (c.fits.ensures.1 (subst IsWrite (sym same) is))
