use Rattle.std.proofs.Common.{sym, ap, subst, ◌∙◌}
use Rattle.fw_apdu.specs.Request.{is_confirmed}
use Rattle.fw_apdu.specs.View.{request_content, request_invoke}
use Rattle.fw_meter.specs.Handling.{Brings, BringsNothing}
use Rattle.fw_meter.specs.Private.{IsHeard}
use Rattle.fw_meter.proofs.OneAnswer.{one_brought}
use Rattle.fw_meter.proofs.serving.asks_for_response.Goals as goal

-- the request that was heard is the one that asks
pub returns-in-Some-clause-asks : goal.returns-in-Some-clause-asks
returns-in-Some-clause-asks c = λ asks.
    let request = c.in-Some.heard.request in
    let brings : Brings c.args.datagram.now c.in-Some.heard.source (request_invoke request) (request_content request) = subst (IsHeard c.args.datagram.now) c.in-Some.is c.in_ok-heard.ensures.heard in
    record {
      source = c.in-Some.heard.source;
      invoke = request_invoke request;
      content = request_content request;
      brings = brings;
      confirmed = sym (c.confirmed.ensures ∙ ap is_confirmed c.invoke.ensures) ∙ asks;
    }

pub returns-in-Some-clause-told : goal.returns-in-Some-clause-told
returns-in-Some-clause-told c = λ h.
    let request = c.in-Some.heard.request in
    let brings : Brings c.args.datagram.now c.in-Some.heard.source (request_invoke request) (request_content request) = subst (IsHeard c.args.datagram.now) c.in-Some.is c.in_ok-heard.ensures.heard in
    let same = one_brought c.one_frame.ensures c.one_request.ensures c.args.datagram.now h.source c.in-Some.heard.source h.invoke (request_invoke request) h.content (request_content request) h.brings brings in
    c.confirmed.ensures ∙ ap is_confirmed (c.invoke.ensures ∙ sym same.invokes) ∙ h.confirmed

pub returns-in-None-clause-told : goal.returns-in-None-clause-told
returns-in-None-clause-told c = λ h.
    let nothing : BringsNothing c.args.datagram.now = subst (IsHeard c.args.datagram.now) c.in-None.is c.in_ok-heard.ensures.heard in
    absurd (nothing h.source h.invoke h.content h.brings)
