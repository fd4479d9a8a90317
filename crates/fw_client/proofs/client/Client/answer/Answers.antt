use Rattle.std.proofs.Common.{ap}
use Rattle.fw_client.specs.State.{State}
use Rattle.fw_client.proofs.Hearing.{none_asked, none_heard}
use Rattle.fw_client.proofs.client.Client.answer.Goals as goal

pub returns-in_err-id-clause-answered : goal.returns-in_err-id-clause-answered
returns-in_err-id-clause-answered c = rw c.from_residual.ensures (none_asked c.args.self.now c.invoke_of.result.0 _ _ c.invoke_of.ensures c.in_err-id.ensures.asked)

pub returns-in_err-heard-clause-answered : goal.returns-in_err-heard-clause-answered
returns-in_err-heard-clause-answered c =
    rw c.from_residual-in_err-heard.ensures (none_heard c.args.self.now c.self.inside.meter c.invoke_of.result.0 _ _ c.in_ok-id.id c.in_ok-id.asked
    (ap (λ (s : State). s.meter) c.self.view_is) c.invoke_of.ensures c.in_ok-id.ensures.asked c.in_err-heard.ensures)
