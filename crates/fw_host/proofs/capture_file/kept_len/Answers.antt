use Rattle.std.proofs.Common.{Err, inl, inr, ap, ◌∙◌}
use Rattle.fw_capture.specs.declared.error.WholeError.{WholeError}
use Rattle.fw_host.proofs.capture_file.kept_len.Goals as goal

pub returns-in-Err-Header-clause-foreign : goal.returns-in-Err-Header-clause-foreign
returns-in-Err-Header-clause-foreign g c = λ capture there is.
    inl (
      c.in-Err-Header._fault,
      c.whole_len.ensures.header capture there c.in-Err-Header._fault
          (c.in-Err-Header.is ∙ ap (λ (e : WholeError). Err e) c.in-Err-Header.field-0-is),
    )

pub returns-in-Err-Foreign-clause-foreign : goal.returns-in-Err-Foreign-clause-foreign
returns-in-Err-Foreign-clause-foreign g c = λ capture there is.
    inr (
      c.in-Err-Foreign._offset,
      c.whole_len.ensures.foreign capture there c.in-Err-Foreign._offset
          (c.in-Err-Foreign.is ∙ ap (λ (e : WholeError). Err e) c.in-Err-Foreign.field-0-is),
    )
