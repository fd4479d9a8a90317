use Rattle.std.proofs.Common.{sym, ap, ◌∙◌, arith}
use Rattle.std.specs.FinMap.{get}
use Rattle.fw_client.specs.State.{Asks}
use Rattle.fw_client.proofs.Places.{past_asks}
use Rattle.fw_client.proofs.outstanding.Outstanding.at.Goals as goal

pub returns-else-id-lt-INVOKE_IDS-clause-asked : goal.returns-else-id-lt-INVOKE_IDS-clause-asked
returns-else-id-lt-INVOKE_IDS-clause-asked c =
    sym (ap (λ (asks : Asks). get asks c.args.id) (sym c.self.view_is) ∙ past_asks c.self.inside.places c.args.id (omega (arith, c.self.invariant, c.if-id-lt-INVOKE_IDS.false)))
