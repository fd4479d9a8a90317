use Rattle.std.proofs.Common.{subst}
use Rattle.fw_apdu.specs.View.{response_content, response_invoke}
use Rattle.fw_head_audit.specs.Private.{IsResponseIn}
use Rattle.fw_head_audit.proofs.Claiming.{finds_claim, no_claim}
use Rattle.fw_head_audit.proofs.claims.claim_in.Goals as goal

pub returns-in-Ok-Some : goal.returns-in-Ok-Some
returns-in-Ok-Some c =
    let datagram = c.args.datagram.now in
    let response = c.in-Ok-Some.response in
    let carries = subst (IsResponseIn datagram) c.in-Ok-Some.field-0-is c.in-Ok-Some.ensures in
    finds_claim c.one_frame.ensures c.one_response.ensures datagram (response_invoke response) (response_content response) c.name_in.result carries c.name_in.ensures

pub returns-in-Ok-None : goal.returns-in-Ok-None
returns-in-Ok-None c = no_claim c.args.datagram.now (subst (IsResponseIn c.args.datagram.now) c.in-Ok-None.field-0-is c.in-Ok-None.ensures)
