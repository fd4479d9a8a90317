use Rattle.std.proofs.Common.{arith}
use Rattle.std.proofs.lemmas.Grind.{common_steps}
use Rattle.std.proofs.lemmas.Result.{err_from_is_err_and}
use Rattle.fw_apdu.proofs.Heads.{IfFault-all}
use Rattle.fw_apdu.proofs.Tails.{trails}
use Rattle.fw_apdu.proofs.places.data_at.Goals as goal

pub returns-in_err-end_at-clause-fault : goal.returns-in_err-end_at-clause-fault
returns-in_err-end_at-clause-fault c =
    let p = err_from_is_err_and c.from_residual-in_err-end_at.result c.from_residual-in_err-end_at.ensures.1 in
    rw (p.1, p.2) (IfFault-all c.in_err-end_at.field-0.0 _ (trails c.args.bytes.now _ c.in_ok-value.used _ c.in_err-end_at.field-0.0 c.in_ok-value.ensures.found (grind (arith, common_steps)) c.in_err-end_at.ensures.fault))
