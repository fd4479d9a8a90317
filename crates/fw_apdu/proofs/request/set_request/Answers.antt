use Rattle.std.proofs.lemmas.Result.{err_from_is_err_and}
use Rattle.fw_apdu.specs.Fault.{SelectionFails, DataFails}
use Rattle.fw_apdu.proofs.Heads.{head_behind, if_head_behind, selection_stops, IfFault-all}
use Rattle.fw_apdu.proofs.Wants.{IfMemory-map, set_takes}
use Rattle.fw_apdu.proofs.request.set_request.Goals as goal

pub returns-in_err-rest-clause-fault : goal.returns-in_err-rest-clause-fault
returns-in_err-rest-clause-fault c =
    let p = err_from_is_err_and c.from_residual-in_err-rest.result c.from_residual-in_err-rest.ensures.1 in
    rw (p.1, p.2) (IfFault-all c.in_err-rest.field-0.0 _ (head_behind (λ t f. SelectionFails (λ u g. DataFails u g) t f) c.args.bytes.now c.in_ok-head.head c.in_ok-head.rest.now c.in_err-rest.field-0.0 c.in_ok-head.ensures.found
    (selection_stops (λ u g. DataFails u g) c.in_ok-head.rest.now c.in_err-rest.field-0.0 c.in_err-rest.ensures.fault)))

pub returns-in_err-value-clause-fault : goal.returns-in_err-value-clause-fault
returns-in_err-value-clause-fault c =
    let p = err_from_is_err_and c.from_residual-in_err-value.result c.from_residual-in_err-value.ensures.1 in
    rw (p.1, p.2) (if_head_behind (λ t f. SelectionFails (λ u g. DataFails u g) t f) c.args.bytes.now c.in_ok-head.head c.in_ok-head.rest.now c.in_err-value.field-0.0 c.in_ok-head.ensures.found
    (rw c.in_ok-rest.ensures.found c.in_err-value.ensures.fault))

pub returns-in_err-value-clause-memory : goal.returns-in_err-value-clause-memory
returns-in_err-value-clause-memory c =
    let p = err_from_is_err_and c.from_residual-in_err-value.result c.from_residual-in_err-value.ensures.1 in
    rw (p.1, p.2) (IfMemory-map c.in_err-value.field-0.0 _ _ (set_takes c.args.bytes.now c.in_ok-head.head c.in_ok-head.rest.now c.in_ok-rest.rest.now c.in_ok-head.ensures.found c.in_ok-rest.ensures.found) c.in_err-value.ensures.memory)
