use Rattle.std.proofs.lemmas.Result.{err_from_is_err_and}
use Rattle.fw_apdu.specs.Fault.{SelectionFails, EndFails}
use Rattle.fw_apdu.proofs.Heads.{head_behind, selection_stops}
use Rattle.fw_apdu.proofs.request.get_request.Goals as goal

pub returns-in_err-rest-clause-fault : goal.returns-in_err-rest-clause-fault
returns-in_err-rest-clause-fault c =
    let p = err_from_is_err_and c.from_residual-in_err-rest.result c.from_residual-in_err-rest.ensures.1 in
    rw (p.1, p.2) (head_behind (λ t f. SelectionFails (λ u g. EndFails u g) t f) c.args.bytes.now c.in_ok-head.head c.in_ok-head.rest.now c.in_err-rest.field-0.0 c.in_ok-head.ensures.found
    (selection_stops (λ u g. EndFails u g) c.in_ok-head.rest.now c.in_err-rest.field-0.0 c.in_err-rest.ensures.fault))

pub returns-in_err-end_at-clause-fault : goal.returns-in_err-end_at-clause-fault
returns-in_err-end_at-clause-fault c =
    let p = err_from_is_err_and c.from_residual-in_err-end_at.result c.from_residual-in_err-end_at.ensures.1 in
    rw (p.1, p.2) (head_behind (λ t f. SelectionFails (λ u g. EndFails u g) t f) c.args.bytes.now c.in_ok-head.head c.in_ok-head.rest.now c.in_err-end_at.field-0.0 c.in_ok-head.ensures.found
    (rw c.in_ok-rest.ensures.found c.in_err-end_at.ensures.fault))
