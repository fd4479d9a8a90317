use Rattle.std.proofs.Common.{Err, ap, sym, ◌∙◌}
use Rattle.fw_key_files.proofs.Refused.{refused_line}
use Rattle.fw_key_files.proofs.reading.meter_keys.Goals as goal

pub returns-clause-refused : goal.returns-clause-refused
returns-clause-refused g c = λ line why is.
    let same = refused_line c.in-Err.error line why (sym c.from.ensures ∙ (sym c.from-in-Err.ensures.0 ∙ is)) in
    (c.as_slice.result.now, c.in-Err.ensures.refused line why (ap (λ e. Err e) same))
