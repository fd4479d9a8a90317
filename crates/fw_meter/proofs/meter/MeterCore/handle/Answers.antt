use Rattle.std.proofs.Common.{◌≡◌, Option, Some, IsTrue, sym, ap, subst}
use Rattle.std.proofs.lemmas.Result.{IfOk-weaker}
use Rattle.fw_apdu.specs.View.{request_content, request_invoke}
use Rattle.fw_names.specs.Name.{Name}
use Rattle.fw_server.specs.Meaning.{meaning_of}
use Rattle.fw_store.specs.declared.fuse.Fuse.{Fuse}
use Rattle.fw_image.specs.State.{Counts}
use Rattle.fw_meter.specs.declared.meter.Handled.{Handled}
use Rattle.fw_meter.specs.Handling.{Brings, BringsNothing, Handles, Responds, reply_bytes}
use Rattle.fw_meter.specs.Private.{IsCalled, IsHeard}
use Rattle.fw_meter.specs.Stopping.{CallsStore, StopsAfter}
use Rattle.fw_meter.proofs.Calling.{handled, calls_store, stops_after, drops_calls, drops_stop}
use Rattle.fw_meter.proofs.meter.MeterCore.handle.Goals as goal

pub returns-in-None-clause-calls : goal.returns-in-None-clause-calls
returns-in-None-clause-calls g c = drops_calls c.args.self.now c.args.datagram.now (subst (IsHeard c.args.datagram.now) c.in-None.is c.in_ok-hear.ensures.heard)

pub returns-in-None-clause-cut : goal.returns-in-None-clause-cut
returns-in-None-clause-cut g c = λ honest set is.
    let this = c.args.self.now.meter in
    let nothing : BringsNothing c.args.datagram.now = subst (IsHeard c.args.datagram.now) c.in-None.is c.in_ok-hear.ensures.heard in
    subst (λ (name : Option Name). StopsAfter set.calls set.torn this c.args.datagram.now name this) (sym (ap (λ (h : Handled). h.activated) c.unchanged.ensures))
    (drops_stop this c.args.datagram.now set.calls set.torn nothing)

pub returns-in-Some-clause-step : goal.returns-in-Some-clause-step
returns-in-Some-clause-step g c =
    let old = c.args.self.now in
    let new = c.respond.new.self in
    let heard = c.in-Some.heard in
    let content = request_content heard.request in
    let brings : Brings c.args.datagram.now heard.source (request_invoke heard.request) content = subst (IsHeard c.args.datagram.now) c.in-Some.is c.in_ok-hear.ensures.heard in
    IfOk-weaker c.respond.result
    (λ h. Responds old.honest (IsCalled old (meaning_of content) new) old.meter heard.source (request_invoke heard.request) content (reply_bytes h.reply) h.activated new.meter)
    (λ h. Handles old.honest (Counts old new) old.meter c.args.datagram.now (reply_bytes h.reply) h.activated new.meter)
    (λ h did. handled c.one_name.ensures c.one_frame.ensures c.one_request.ensures old new c.args.datagram.now heard.source (request_invoke heard.request) content (reply_bytes h.reply) h.activated brings did)
    c.respond.ensures.step

pub returns-in-Some-clause-calls : goal.returns-in-Some-clause-calls
returns-in-Some-clause-calls g c =
    let old = c.args.self.now in
    let new = c.respond.new.self in
    let heard = c.in-Some.heard in
    let content = request_content heard.request in
    let brings : Brings c.args.datagram.now heard.source (request_invoke heard.request) content = subst (IsHeard c.args.datagram.now) c.in-Some.is c.in_ok-hear.ensures.heard in
    IfOk-weaker c.respond.result
    (λ h. Responds old.honest (IsCalled old (meaning_of content) new) old.meter heard.source (request_invoke heard.request) content (reply_bytes h.reply) h.activated new.meter)
    (λ h. CallsStore old c.args.datagram.now new)
    (λ h did. calls_store c.one_name.ensures c.one_frame.ensures c.one_request.ensures old new c.args.datagram.now heard.source (request_invoke heard.request) content (reply_bytes h.reply) h.activated brings did)
    c.respond.ensures.step

pub returns-in-Some-clause-cut : goal.returns-in-Some-clause-cut
returns-in-Some-clause-cut g c =
    let old = c.args.self.now in
    let new = c.respond.new.self in
    let heard = c.in-Some.heard in
    let content = request_content heard.request in
    let brings : Brings c.args.datagram.now heard.source (request_invoke heard.request) content = subst (IsHeard c.args.datagram.now) c.in-Some.is c.in_ok-hear.ensures.heard in
    IfOk-weaker c.respond.result
    (λ h. Responds old.honest (IsCalled old (meaning_of content) new) old.meter heard.source (request_invoke heard.request) content (reply_bytes h.reply) h.activated new.meter)
    (λ h. IsTrue old.honest → (set : Fuse) → old.fuse ≡ Some set → StopsAfter set.calls set.torn old.meter c.args.datagram.now h.activated new.meter)
    (λ h did. stops_after c.one_name.ensures c.one_frame.ensures c.one_request.ensures old new c.args.datagram.now heard.source (request_invoke heard.request) content (reply_bytes h.reply) h.activated brings did)
    c.respond.ensures.step
