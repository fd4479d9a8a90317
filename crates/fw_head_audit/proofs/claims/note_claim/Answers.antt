use Rattle.std.proofs.Common.{refl, sym, subst}
use Rattle.fw_audit.specs.Log.{item_of}
use Rattle.fw_audit.specs.declared.item.LogItem.{LogItem}
use Rattle.fw_head_audit.specs.Heads.{Claims}
use Rattle.fw_head_audit.specs.Private.{Finds, NotesClaim}
use Rattle.fw_head_audit.specs.declared.claims.Claim.{Claim}
use Rattle.fw_head_audit.proofs.Claiming.{notes_none, notes_one}
use Rattle.fw_head_audit.proofs.claims.note_claim.Goals as goal

pub returns-in_ok-push-in-Came : goal.returns-in_ok-push-in-Came
returns-in_ok-push-in-Came c =
    let old = c.args.claims.now.items in
    let new = c.push.new.self.items in
    let bytes = c.in-Came.bytes.now in
    let claim : Claim = record { from = c.in-Came.from; name = c.in-Some.name } in
    let claims = subst (Finds (Claims bytes)) c.in-Some.is c.in_ok-name-in-Came.ensures in
    subst (λ (i : LogItem). NotesClaim old (item_of i) new) (sym c.in-Came.is)
    (notes_one c.one_frame.ensures c.one_response.ensures c.one_name.ensures c.in-Came.from bytes claim old new refl c.in_ok-push-in-Came.ensures.items claims)

pub returns-in_default : goal.returns-in_default
returns-in_default c =
    let old = c.args.claims.now.items in
    let bytes = c.in-Came.bytes.now in
    let none = subst (Finds (Claims bytes)) c.in_default.is c.in_ok-name-in-Came.ensures in
    subst (λ (i : LogItem). NotesClaim old (item_of i) old) (sym c.in-Came.is) (notes_none c.in-Came.from bytes old old refl none)
