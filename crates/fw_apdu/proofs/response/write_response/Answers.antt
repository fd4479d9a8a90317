use Rattle.fw_apdu.proofs.Written.{get_spelled, action_spelled}
use Rattle.fw_apdu.proofs.response.write_response.Goals as goal

pub returns-in-Get-clause-spelled : goal.returns-in-Get-clause-spelled
returns-in-Get-clause-spelled c = rw c.in-Get.is (get_spelled c.ending_in.result _ _ c.ending_in.ensures.written c.ending_in.ensures.spelled)

pub returns-in-Some-clause-spelled : goal.returns-in-Some-clause-spelled
returns-in-Some-clause-spelled c = rw (c.in-Action.is, c.in-Some.is) (action_spelled c.ending_in-in-Some.result _ _ _ c.ending_in-in-Some.ensures.written c.ending_in-in-Some.ensures.spelled)
