use Rattle.std.proofs.Common.{ℕ, List, subst}
use Rattle.std.specs.Prelude.{IfSome}
use Rattle.fw_host.specs.ListCauses.{RefusesAddress}
use Rattle.fw_host.proofs.Causes.{of_asking}
use Rattle.fw_host.proofs.list_cause.address_refusal.Goals as goal

pub returns-in-Ok-parse : goal.returns-in-Ok-parse
returns-in-Ok-parse c =
    subst (λ (f : List ℕ). IfSome c.asking_refusal.result (RefusesAddress c.args.own f)) c.in-Ok.ensures.cases.0
    (of_asking _ _ c.in-Ok-parse.address _ c.in-Ok-parse.ensures.value c.asking_refusal.ensures)
