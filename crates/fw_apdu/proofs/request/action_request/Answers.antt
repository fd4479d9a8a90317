use Rattle.std.proofs.lemmas.Result.{err_from_is_err_and}
use Rattle.fw_apdu.specs.Fault.{ParameterFails}
use Rattle.fw_apdu.proofs.Heads.{if_head_behind}
use Rattle.fw_apdu.proofs.Wants.{IfMemory-map, action_takes}
use Rattle.fw_apdu.proofs.request.action_request.Goals as goal

pub returns-in_err-parameter-clause-fault : goal.returns-in_err-parameter-clause-fault
returns-in_err-parameter-clause-fault c =
    let p = err_from_is_err_and c.from_residual-in_err-parameter.result c.from_residual-in_err-parameter.ensures.1 in
    rw (p.1, p.2) (if_head_behind (λ t f. ParameterFails t f) c.args.bytes.now c.in_ok-head.head c.in_ok-head.rest.now c.in_err-parameter.field-0.0 c.in_ok-head.ensures.found c.in_err-parameter.ensures.fault)

pub returns-in_err-parameter-clause-memory : goal.returns-in_err-parameter-clause-memory
returns-in_err-parameter-clause-memory c =
    let p = err_from_is_err_and c.from_residual-in_err-parameter.result c.from_residual-in_err-parameter.ensures.1 in
    rw (p.1, p.2) (IfMemory-map c.in_err-parameter.field-0.0 _ _ (action_takes c.args.bytes.now c.in_ok-head.head c.in_ok-head.rest.now c.in_ok-head.ensures.found) c.in_err-parameter.ensures.memory)
