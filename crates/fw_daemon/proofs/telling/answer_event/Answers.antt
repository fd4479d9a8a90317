use Rattle.std.proofs.Common.{◌≡◌, Some, None, rules, subst}
use Rattle.fw_meter.specs.Handling.{reply_bytes}
use Rattle.fw_daemon.specs.Private.{HasRequest}
use Rattle.fw_daemon.proofs.Tellings.{tells_no_reply, tells_no_request, tells_reply}
use Rattle.fw_daemon.proofs.telling.answer_event.Goals as goal

pub returns-in-Some-reply : goal.returns-in-Some-reply
returns-in-Some-reply c = λ datagram has.
    let (source, brings) = subst (HasRequest datagram) c.in-Some.is has in
    let is : reply_bytes c.args.reply.now ≡ Some c.deref.result.now = search rules in
    tells_reply c.args.running datagram (Some c.deref.result.now) _ _ is (c.reply_event.ensures datagram source brings)

pub returns-in-None-reply : goal.returns-in-None-reply
returns-in-None-reply c = λ datagram has.
    let is : reply_bytes c.args.reply.now ≡ None = search rules in
    tells_reply c.args.running datagram None _ _ is (tells_no_reply c.args.running datagram)

pub returns-in-None : goal.returns-in-None
returns-in-None c = λ datagram has. tells_no_request c.args.running datagram (reply_bytes c.args.reply.now) (subst (HasRequest datagram) c.in-None.is has)
