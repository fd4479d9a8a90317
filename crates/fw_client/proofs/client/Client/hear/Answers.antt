use Rattle.std.proofs.lemmas.Result.{IfOk-weaker}
use Rattle.fw_client.proofs.client.Client.hear.Goals as goal

pub returns-clause-claims : goal.returns-clause-claims
returns-clause-claims c = IfOk-weaker c.take_answer.result _ _ (λ h is claim. c.only_claimed.ensures _ _ _ h claim is) c.take_answer.ensures.hears
