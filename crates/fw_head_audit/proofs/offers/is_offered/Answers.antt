use Rattle.std.proofs.Common.{◌≡◌, Some, sym, subst}
use Rattle.fw_apdu.specs.View.{request_content, request_invoke}
use Rattle.fw_head_audit.specs.Private.{IsRequestIn, asked_in, kind_of}
use Rattle.fw_head_audit.proofs.Asked.{asks_nothing, no_request, not_offered, offered}
use Rattle.fw_head_audit.proofs.Carrying.{match_of}
use Rattle.fw_head_audit.proofs.offers.is_offered.Goals as goal

pub returns-in-Some : goal.returns-in-Some
returns-in-Some c =
    let book = c.args.book.now in
    let meters = c.args.meters.now in
    let datagram = c.args.datagram.now in
    let request = c.in-Ok-Some.request in
    let invoke = request_invoke request in
    let content = request_content request in
    let carries = subst (IsRequestIn datagram) c.in-Ok-Some.field-0-is c.in-Ok-Some.ensures in
    let kind = kind_of c.in-Some.asking in
    let asks : asked_in invoke content ≡ Some kind = sym c.in-Some.ensures in
    match_of c.is_asked_at.result
    (λ is. offered c.one_frame.ensures c.one_request.ensures book meters c.args.to datagram invoke content carries kind asks (c.is_asked_at.ensures.some is))
    (λ is. not_offered c.one_frame.ensures c.one_request.ensures book meters c.args.to datagram invoke content carries kind asks (c.is_asked_at.ensures.none is))

pub returns-in-Ok-Some : goal.returns-in-Ok-Some
returns-in-Ok-Some c =
    let datagram = c.args.datagram.now in
    let request = c.in-Ok-Some.request in
    let carries = subst (IsRequestIn datagram) c.in-Ok-Some.field-0-is c.in-Ok-Some.ensures in
    asks_nothing c.one_frame.ensures c.one_request.ensures c.args.book.now c.args.meters.now c.args.to datagram (request_invoke request) (request_content request) carries
    (sym c.in-None.ensures)

pub returns-in-Ok-None : goal.returns-in-Ok-None
returns-in-Ok-None c =
    no_request c.args.book.now c.args.meters.now c.args.to c.args.datagram.now (subst (IsRequestIn c.args.datagram.now) c.in-Ok-None.field-0-is c.in-Ok-None.ensures)
