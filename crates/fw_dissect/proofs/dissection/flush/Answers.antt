use Rattle.std.proofs.lemmas.Result.{err_from_is_err_and}
use Rattle.fw_dissect.proofs.dissection.flush.Goals as goal

pub returns-in_err-flush_plain-clause-asked : goal.returns-in_err-flush_plain-clause-asked
returns-in_err-flush_plain-clause-asked g c =
    let p = err_from_is_err_and c.from_residual.result c.from_residual.ensures.1 in
    rw p.1 (λ kind. c.in_err-flush_plain.ensures.asked)

pub returns-in_err-flush_plain-clause-faults : goal.returns-in_err-flush_plain-clause-faults
returns-in_err-flush_plain-clause-faults g c =
    let p = err_from_is_err_and c.from_residual.result c.from_residual.ensures.1 in
    rw (p.1, p.2) c.in_err-flush_plain.ensures.faults
