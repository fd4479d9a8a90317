use Rattle.std.proofs.lemmas.Result.{err_from_is_err_and}
use Rattle.fw_apdu.proofs.Wants.{IfMemory-map, returned_takes}
use Rattle.fw_apdu.proofs.response.action_response.Goals as goal

pub returns-in_err-returned-clause-memory : goal.returns-in_err-returned-clause-memory
returns-in_err-returned-clause-memory c =
    let p = err_from_is_err_and c.from_residual-in_err-returned.result c.from_residual-in_err-returned.ensures.1 in
    rw (p.1, p.2) (IfMemory-map c.in_err-returned.field-0.0 _ _
    (returned_takes c.args.bytes.now c.in_ok-invoke.invoke.0 c.in_ok-code.code c.in_ok-invoke.rest.now c.in_ok-code.rest.now c.in_ok-invoke.ensures.found c.in_ok-code.ensures.found) c.in_err-returned.ensures.memory)
