use Rattle.std.proofs.Common.{sym, subst}
use Rattle.fw_audit.specs.Log.{log_of}
use Rattle.fw_head_audit.specs.Private.{AreClaimants}
use Rattle.fw_head_audit.proofs.Rows.{are_claimed, first_not_claimed}
use Rattle.fw_head_audit.proofs.audit.audit_claims.Goals as goal

pub returns-in-Ok-clause-claimed : goal.returns-in-Ok-clause-claimed
returns-in-Ok-clause-claimed c =
    let log = log_of c.args.items.now in
    let same = subst (AreClaimants c.args.meters.now log) (sym c.as_slice.ensures.value) c.in_ok-claimed.ensures.claimants in
    are_claimed c.args.meters.now log c.as_slice.result.now same c.args.book.now c.in-Ok.ensures.borne_out

pub returns-clause-refused : goal.returns-clause-refused
returns-clause-refused c =
    let log = log_of c.args.items.now in
    let same = subst (AreClaimants c.args.meters.now log) (sym c.as_slice.ensures.value) c.in_ok-claimed.ensures.claimants in
    first_not_claimed c.args.meters.now log c.as_slice.result.now same c.args.book.now c.in-Err.departure c.in-Err.ensures.departs
