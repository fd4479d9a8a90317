-- A meter that was silent is so still, where nothing was heard meanwhile.
use Rattle.std.proofs.Common.{◌≡◌, ℕ, Bool, true, false, List, Option, Some, None, IfSome, cond, slice_get, refl, sym, ap, subst, ◌∙◌}
use Rattle.fw_book.specs.declared.row.RowState.TheVariants as state
use Rattle.fw_plan.specs.Silence.{GivesUp}
use Rattle.fw_plan.specs.declared.deadline.Contact.{Contact}
use Rattle.fw_rollout.specs.declared.daemon.HeadDaemon.{HeadDaemon}
use Rattle.fw_rollout.specs.declared.link.Listed.{Listed}
use Rattle.fw_rollout.specs.declared.plan.Plan.{Plan}
use Rattle.fw_rollout.specs.Contacts.{contact_in, seconds_of}
use Rattle.fw_rollout.specs.Legs.{WasSilent}
use Rattle.fw_rollout.specs.Plans.{KnowsSame, contacts_of, plan_of}

was_silent : {D : Type 0} (old new : HeadDaemon D) → KnowsSame old new → (at : Listed) → WasSilent old at → WasSilent new at
was_silent old new same at (time, is) = (
  time,
  record {
    place = is.place;
    there = ap (λ (ms : List Listed). slice_get ms is.place) same.meters ∙ is.there;
    silent = subst (λ (cs : List Contact). GivesUp (plan_of new).deadline state.Live (contact_in cs is.place) (seconds_of time)) (sym same.contacts)
        (subst (λ (p : Plan). GivesUp p.deadline state.Live (contact_in (contacts_of old) is.place) (seconds_of time)) (sym same.plan) is.silent);
  },
)

-- a round returns the meter that was silent as its rows were asked, if nothing came then
pub silent_then : {D : Type 0} (came : Bool) (silent result : Option Listed) (sent heard saved : HeadDaemon D) → result ≡ cond came None silent → IfSome silent (WasSilent sent)
    → (came ≡ false → heard ≡ sent) → KnowsSame heard saved → IfSome result (WasSilent saved)
silent_then true silent result sent heard saved is was same knows = subst (λ (r : Option Listed). IfSome r (WasSilent saved)) (sym is) tt
silent_then false None result sent heard saved is was same knows = subst (λ (r : Option Listed). IfSome r (WasSilent saved)) (sym is) tt
silent_then {D} false (Some at) result sent heard saved is was same knows =
    subst (λ (r : Option Listed). IfSome r (WasSilent saved)) (sym is)
    (was_silent heard saved knows at (subst (λ (d : HeadDaemon D). WasSilent d at) (sym (same refl)) was))
