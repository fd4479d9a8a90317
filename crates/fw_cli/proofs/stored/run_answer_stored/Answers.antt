use Rattle.std.proofs.Common.{◌≡◌, ◌∙◌, ap, inr, sym, Err}
use Rattle.std.proofs.lemmas.Result.{err_from_is_err_and}
use Rattle.fw_disk.specs.declared.reason.Because.{Because}
use Rattle.fw_cli.specs.Options.{DescribesNone}
use Rattle.fw_cli.specs.declared.stored.StoredAnswerError.{StoredAnswerError}
use Rattle.fw_cli.specs.declared.stored.StoredAnswerError.TheVariants.{BadSetup}
use Rattle.fw_cli.proofs.Answered.{early_of, line_of, memory_of, reads_of, setup_of, silent_of}
use Rattle.fw_cli.proofs.Passing.{passed_to}
use Rattle.fw_cli.proofs.stored.run_answer_stored.Goals as goal

pub returns-in-Ok-clause-ok : goal.returns-in-Ok-clause-ok
returns-in-Ok-clause-ok g c =
    record { meter = c.in_ok-meter.meter; begins = c.in_ok-meter.ensures.begins; faultless = c.in_ok-meter.ensures.faultless; writes = c.in-Ok.ensures.ok }

pub returns-in-Err-clause-bad_line : goal.returns-in-Err-clause-bad_line
returns-in-Err-clause-bad_line g c = λ number bad.
    record {
      meter = c.in_ok-meter.meter;
      begins = c.in_ok-meter.ensures.begins;
      faultless = c.in_ok-meter.ensures.faultless;
      writes = c.serve.ensures.bad_line number (c.in-Err.is ∙ ap Err (line_of c.in-Err.error number (sym (c.from.ensures.0 ∙ c.from-ended.ensures) ∙ bad)));
    }

pub returns-in-Err-clause-bad_setup : goal.returns-in-Err-clause-bad_setup
returns-in-Err-clause-bad_setup g c = λ bad. absurd (c.in-Err.ensures.later (setup_of c.in-Err.error (sym (c.from.ensures.0 ∙ c.from-ended.ensures) ∙ bad)))

pub returns-in-Err-clause-setup_first : goal.returns-in-Err-clause-setup_first
returns-in-Err-clause-setup_first g c = λ early. absurd (c.in-Err.ensures.later (early_of c.in-Err.error c.from.result.error (c.from.ensures.0 ∙ c.from-ended.ensures) early))

pub returns-in-Err-clause-memory : goal.returns-in-Err-clause-memory
returns-in-Err-clause-memory g c = λ wanted.
    inr (c.serve.ensures.memory (c.in-Err.is ∙ ap Err (memory_of c.in-Err.error (sym (c.from.ensures.0 ∙ c.from-ended.ensures) ∙ wanted))))

pub returns-in-Err-clause-reading : goal.returns-in-Err-clause-reading
returns-in-Err-clause-reading g c =
    reads_of c.in-Err.error c.from.result.error (g.R.Read.remaining c.args.reader.now) (g.R.Read.remaining c.serve.new.reader) (c.from.ensures.0 ∙ c.from-ended.ensures)
    c.in-Err.ensures.reading

pub returns-in-Err-clause-silent : goal.returns-in-Err-clause-silent
returns-in-Err-clause-silent g c =
    silent_of c.in-Err.error c.from.result.error (g.W.Write.contents c.args.writer.now) (g.W.Write.contents c.serve.new.writer) (c.from.ensures.0 ∙ c.from-ended.ensures)
    c.in-Err.ensures.silent

pub returns-in_err-meter-clause-bad_setup : goal.returns-in_err-meter-clause-bad_setup
returns-in_err-meter-clause-bad_setup g c =
    let passed = err_from_is_err_and c.from_residual.result c.from_residual.ensures.1 in
    let same : passed.0 ≡ c.in_err-meter.field-0.0 = cc passed.2 in
    passed_to c.from_residual.result (λ (b : Because StoredAnswerError). b.error ≡ BadSetup → DescribesNone c.args.options.now.fresh) passed.0 _ passed.1 same
    c.in_err-meter.ensures.bad_setup
