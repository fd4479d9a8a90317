use Rattle.std.proofs.Common.{length, subst, sym}
use Rattle.fw_audit.specs.declared.error.AuditError.{AuditError}
use Rattle.fw_evidence.specs.Private.{IsMarked, IsWithin}
use Rattle.fw_evidence.proofs.audit.placed.Goals as goal

pub place_of-requires : goal.place_of-requires
place_of-requires c = subst (λ (e : AuditError). IsWithin (length c.args.marks.now) e) c.in-Departs.is c.requires

pub returns-in-Departs : goal.returns-in-Departs
returns-in-Departs c = subst (λ (e : AuditError). IsMarked c.args.marks.now e c.place_of.result) (sym c.in-Departs.is) c.place_of.ensures
