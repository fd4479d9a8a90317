use Rattle.std.proofs.Common.{arith}
use Rattle.std.proofs.lemmas.Result.{err_from_is_err_and}
use Rattle.fw_apdu.proofs.Tails.{value_fails}
use Rattle.fw_apdu.proofs.response.result_at.Goals as goal

pub returns-in_err-data_at-in-0-clause-fault : goal.returns-in_err-data_at-in-0-clause-fault
returns-in_err-data_at-in-0-clause-fault c =
    let p = err_from_is_err_and c.from_residual.result c.from_residual.ensures.1 in
    rw (p.1, p.2) (value_fails c.args.bytes.now c.in_err-data_at-in-0.field-0.0 (omega (arith, c.in-len1-up.len_at_least)) c.in-0.is c.in_err-data_at-in-0.ensures.fault)
