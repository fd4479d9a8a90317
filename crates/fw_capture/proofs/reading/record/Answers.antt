use Rattle.std.proofs.Common.{◌≡◌, ◌+◌, ◌*◌, ℕ, Ok, Err, sym, ap, ◌∙◌, arith}
use Rattle.std.proofs.lemmas.Result.{err_from_is_err_and}
use Rattle.fw_capture.specs.View.{told_in}
use Rattle.fw_capture.specs.Reading.{time_at, fraction_at, fraction_nanoseconds}
use Rattle.fw_capture.proofs.Readings.{record_read}
use Rattle.fw_capture.proofs.reading.record.Goals as goal

pub returns-in_err-told-clause-exact : goal.returns-in_err-told-clause-exact
returns-in_err-told-clause-exact c =
    let p = err_from_is_err_and c.from_residual.result c.from_residual.ensures.1 in
    rw (p.1, p.2) (record_read c.args.format c.args.bytes.now (16 + c.number_at-2.result) (Err c.in_err-told.field-0.0) (omega arith)
    (omega (arith, c.number_at-fraction.ensures, c.fractions.ensures)) (omega (arith, c.number_at-2.ensures)) (omega arith) c.in_err-told.ensures)

pub returns-clause-exact : goal.returns-clause-exact
returns-clause-exact c =
    let time : time_at c.args.format c.args.bytes.now ≡ c.from-seconds.result * 1000000000 + c.nanoseconds.result =
    ap (λ (n : ℕ). n * 1000000000 + fraction_at c.args.format c.args.bytes.now * fraction_nanoseconds c.args.format) (sym (c.from-seconds.ensures ∙ c.number_at.ensures))
    ∙ ap (λ (n : ℕ). c.from-seconds.result * 1000000000 + n * fraction_nanoseconds c.args.format) (sym c.number_at-fraction.ensures)
    ∙ ap (λ (n : ℕ). c.from-seconds.result * 1000000000 + n) (sym c.nanoseconds.ensures.value) in
    record_read c.args.format c.args.bytes.now (16 + c.number_at-2.result) (Ok (told_in c.in_ok-told.told)) (omega arith)
    (omega (arith, c.number_at-fraction.ensures, c.fractions.ensures)) (omega (arith, c.number_at-2.ensures)) (omega arith) c.in_ok-told.ensures
    ∙ ap (λ (n : ℕ). Ok (n, told_in c.in_ok-told.told, 16 + c.number_at-2.result)) time
