use Rattle.std.proofs.Common.{List, subst, arith}
use Rattle.fw_audit.specs.Log.{Item}
use Rattle.fw_head_audit.specs.Private.{AreClaims}
use Rattle.fw_head_audit.proofs.Claiming.{claims_at}
use Rattle.fw_head_audit.proofs.Lists.{log_all}
use Rattle.fw_head_audit.proofs.claims.claims.Goals as goal

pub loop-at-preserved : goal.loop-at-preserved
loop-at-preserved c =
    claims_at c.args.items.now c.loop-at.at _ c.loop-at.claims.items c.note_claim.new.claims.items (omega (arith, c.loop-at-test.true)) c.loop-at.invariant
    c.in_ok-note_claim.ensures

pub returns-clause-claims : goal.returns-clause-claims
returns-clause-claims c =
    subst (λ (l : List Item). AreClaims l c.loop-at.claims.items) (log_all c.args.items.now c.loop-at.at (omega (arith, c.loop-at-test.false))) c.loop-at.invariant
