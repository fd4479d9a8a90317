use Rattle.std.proofs.Common.{sym, subst}
use Rattle.fw_audit.specs.Log.{log_of}
use Rattle.fw_head_audit.specs.Private.{AreClaims}
use Rattle.fw_head_audit.proofs.Claiming.{are_claimants}
use Rattle.fw_head_audit.proofs.claims.claimants.Goals as goal

pub returns-clause-claimants : goal.returns-clause-claimants
returns-clause-claimants c =
    let log = log_of c.args.items.now in
    let are = subst (AreClaims log) (sym c.as_slice.ensures.value) c.in_ok-claims.ensures.claims in
    are_claimants c.args.meters.now log c.as_slice.result.now c.in_ok-all.all.items are c.in_ok-all.ensures.names
