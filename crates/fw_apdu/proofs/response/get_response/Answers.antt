use Rattle.std.proofs.lemmas.Result.{err_from_is_err_and}
use Rattle.fw_apdu.proofs.Wants.{IfMemory-map, answer_takes}
use Rattle.fw_apdu.proofs.response.get_response.Goals as goal

pub returns-in_err-result-clause-memory : goal.returns-in_err-result-clause-memory
returns-in_err-result-clause-memory c =
    let p = err_from_is_err_and c.from_residual-in_err-result.result c.from_residual-in_err-result.ensures.1 in
    rw (p.1, p.2) (IfMemory-map c.in_err-result.field-0.0 _ _ (answer_takes c.args.bytes.now c.in_ok-invoke.invoke.0 c.in_ok-invoke.rest.now c.in_ok-invoke.ensures.found) c.in_err-result.ensures.memory)
