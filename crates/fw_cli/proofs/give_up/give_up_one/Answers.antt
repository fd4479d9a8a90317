use Rattle.std.proofs.lemmas.Result.{on_ok_weaker}
use Rattle.fw_cli.proofs.GivenUp.{adds_one, told_none_of, told_some}
use Rattle.fw_cli.proofs.give_up.give_up_one.Goals as goal

pub returns-in-Some-clause-given : goal.returns-in-Some-clause-given
returns-in-Some-clause-given g c =
    on_ok_weaker c.push_row.result (λ it. adds_one _ _ _ _ c.in-Ok.told _ _ _ _ c.in-Ok.ensures.given_up (told_some _ _ c.in-Ok.told c.in-Some.row _ _ _ _ c.in-Some.is it c.push_row.ensures.lacking))
    c.push_row.ensures.added

pub returns-in-Some-clause-waits : goal.returns-in-Some-clause-waits
returns-in-Some-clause-waits g c = λ synced holds. on_ok_weaker c.push_row.result (λ it. c.in-Ok.ensures.waits synced holds) c.push_row.ensures.added

pub returns-in-None-clause-given : goal.returns-in-None-clause-given
returns-in-None-clause-given g c =
    on_ok_weaker c.push_lacking.result (λ it. adds_one _ _ _ _ c.in-Ok.told _ _ _ _ c.in-Ok.ensures.given_up (told_none_of _ _ c.in-Ok.told _ _ _ _ c.in-None.is c.push_lacking.ensures.rows it))
    c.push_lacking.ensures.added

pub returns-in-None-clause-waits : goal.returns-in-None-clause-waits
returns-in-None-clause-waits g c = λ synced holds. on_ok_weaker c.push_lacking.result (λ it. c.in-Ok.ensures.waits synced holds) c.push_lacking.ensures.added
