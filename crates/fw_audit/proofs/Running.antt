-- What a meter does leaves it the image that it runs, but for a switch: then it runs that.
use Rattle.std.proofs.Common.{◌≡◌, ◌∙◌, ◌++◌, ◌+◌, ℕ, Bool, true, false, IsTrue, List, [], ◌∷◌, Option, Some, None, inl, inr, refl, sym, ap}
use Rattle.std.specs.declared.net.socket_addr.SocketAddr.{SocketAddr}
use Rattle.fw_names.specs.Name.{Name}
use Rattle.fw_server.specs.Meaning as meaning
use Rattle.fw_server.specs.Meaning.{Meaning, meaning_of}
use Rattle.fw_verify.specs.Slices.{slice_size}
use Rattle.fw_image.specs.Meter.{Image, Meter, Phase, idle, receiving, verifying, verified, spoilt, switched}
use Rattle.fw_image.specs.Step.{OperationOutcome, done, refused, verification_initiated, Operation, enable, initiate, block, verify, activate, begun, digested_phase, spoilt_phase, verified_phase, with_cell, Does, Judges, Leaves, Step, Tears, Turn, TurnsIn}
use Rattle.fw_image.specs.declared.error.Refusal.{Refusal}
use Rattle.fw_image.specs.declared.error.Refusal.TheVariants.{Disabled, BadInitiate, BadBlock, Missing, Fault, Differs}
use Rattle.fw_meter.specs.Handling.{Handles}
use Rattle.fw_meter.specs.Step.{MeterResult, coded, MeterStep, Operates, activation_of, operation_code}
use Rattle.fw_audit.specs.Log.{Item, started, came, sent, turned}
use Rattle.fw_audit.specs.Stands.{Stand, ended, waits, owes, left_by, owing, switched_to, Leads, Makes}
use Rattle.fw_audit.specs.Laws.{RunsTheLast, last_of}
use Rattle.fw_audit.specs.Private.{meter_in}

kept : (this old new : Meter) → Leaves true this new → this.running ≡ old.running → new.running ≡ old.running
kept this old new h same = ap (λ (m : Meter). m.running) (h.is refl) ∙ same

judged : (old new : Meter) (genuine : Bool) → Judges true old genuine new → new.running ≡ old.running
judged old new true h = kept (record old { phase = verified_phase old.phase }) old new h.0 refl
judged old new false h = kept (record old { phase = spoilt_phase old.phase }) old new h.0 refl

torn : (old new : Meter) (i : ℕ) (value : List ℕ) → Tears true old i value new → new.running ≡ old.running
torn old new i value (inl h) = kept old old new h refl
torn old new i value (inr (there, any, was, size, left)) = kept (with_cell old i any) old new left refl

enabled : (old new : Meter) (b : Bool) (made : OperationOutcome) → Does true old (enable b) made new → new.running ≡ old.running
enabled old new b done h = kept (record old { enabled = b }) old new h refl
enabled old new b (refused Disabled) h = absurd h
enabled old new b (refused BadInitiate) h = absurd h
enabled old new b (refused BadBlock) h = absurd h
enabled old new b (refused Missing) h = absurd h
enabled old new b (refused Fault) h = kept old old new h refl
enabled old new b (refused Differs) h = absurd h
enabled old new b verification_initiated h = absurd h

initiated : (old new : Meter) (name : Name) (size : ℕ) (made : OperationOutcome) → Does true old (initiate name size) made new → new.running ≡ old.running
initiated old new name size done h = kept (begun old name size) old new h refl
initiated old new name size (refused Disabled) h = absurd h
initiated old new name size (refused BadInitiate) h = absurd h
initiated old new name size (refused BadBlock) h = absurd h
initiated old new name size (refused Missing) h = absurd h
initiated old new name size (refused Fault) h = kept old old new h refl
initiated old new name size (refused Differs) h = absurd h
initiated old new name size verification_initiated h = absurd h

blocked : (old new : Meter) (i : ℕ) (value : List ℕ) (made : OperationOutcome) → Does true old (block i value) made new → new.running ≡ old.running
blocked old new i value done h = kept (with_cell old i value) old new h refl
blocked old new i value (refused Disabled) h = absurd h
blocked old new i value (refused BadInitiate) h = absurd h
blocked old new i value (refused BadBlock) h = absurd h
blocked old new i value (refused Missing) h = absurd h
blocked old new i value (refused Fault) h = torn old new i value h
blocked old new i value (refused Differs) h = absurd h
blocked old new i value verification_initiated h = absurd h

verified_so : (old new : Meter) (made : OperationOutcome) → Does true old verify made new → new.running ≡ old.running
verified_so old new done h = judged old new true h.1
verified_so old new (refused Disabled) h = absurd h
verified_so old new (refused BadInitiate) h = absurd h
verified_so old new (refused BadBlock) h = absurd h
verified_so old new (refused Missing) h = absurd h
verified_so old new (refused Fault) h = kept old old new h refl
verified_so old new (refused Differs) h = judged old new false h.1
verified_so old new verification_initiated h = kept (record old { phase = digested_phase old.phase slice_size }) old new h.1 refl

-- an operation that is no activate
stepped : (old new : Meter) (operation : Operation) (result : MeterResult) → ((made : OperationOutcome) → Does true old operation made new → new.running ≡ old.running)
    → Operates true old operation result new → new.running ≡ old.running
stepped old new operation result does (made, inl h, told) = kept old old new h.same refl
stepped old new operation result does (made, inr h, told) = does made h.does

-- ---- a switch

still : (old new : Meter) (images : List Image) → new.running ≡ old.running → images ≡ [] → new.running ≡ last_of old.running images
still old new images same none = same ∙ ap (λ (l : List Image). last_of old.running l) (sym none)

refused_none : (refusal : Refusal) (new : Meter) → activation_of meaning.activate (coded (operation_code (refused refusal))) new ≡ None
refused_none Disabled new = refl
refused_none BadInitiate new = refl
refused_none BadBlock new = refl
refused_none Missing new = refl
refused_none Fault new = refl
refused_none Differs new = refl

-- what an activate of this outcome switched to
abbrev switched_by : OperationOutcome → Meter → List Image
switched_by made new = switched_to (activation_of meaning.activate (coded (operation_code made)) new) new

activated : (old new : Meter) (made : OperationOutcome) (images : List Image) → Does true old activate made new → images ≡ switched_by made new → new.running ≡ last_of old.running images
activated old new done images h is = ap (λ (l : List Image). last_of old.running l) (sym is)
activated old new (refused Disabled) images h is = absurd h
activated old new (refused BadInitiate) images h is = absurd h
activated old new (refused BadBlock) images h is = absurd h
activated old new (refused Missing) images h is = absurd h
activated old new (refused Fault) images h is = still old new images (kept old old new h refl) is
activated old new (refused Differs) images h is = absurd h
activated old new verification_initiated images h is = absurd h

activate_runs : (old new : Meter) (result : MeterResult) (images : List Image) → Operates true old activate result new → images ≡ switched_to (activation_of meaning.activate result new) new
    → new.running ≡ last_of old.running images
activate_runs old new result images (made, inl h, told) is =
    still old new images (kept old old new h.same refl)
    (is ∙ ap (λ (r : MeterResult). switched_to (activation_of meaning.activate r new) new) told
    ∙ ap (λ (o : OperationOutcome). switched_by o new) h.told
    ∙ ap (λ (n : Option Name). switched_to n new) (refused_none h.refusal new))
activate_runs old new result images (made, inr h, told) is =
    activated old new made images h.does (is ∙ ap (λ (r : MeterResult). switched_to (activation_of meaning.activate r new) new) told)

asked_runs : (old new : Meter) (asked : Meaning) (result : MeterResult) (images : List Image) → MeterStep true old asked result new → images ≡ switched_to (activation_of asked result new) new
    → new.running ≡ last_of old.running images
asked_runs old new (meaning.read reading) result images h is = still old new images (ap (λ (m : Meter). m.running) h.1) is
asked_runs old new (meaning.refused refusal) result images h is = still old new images (ap (λ (m : Meter). m.running) h.1) is
asked_runs old new (meaning.enable b) result images h is = still old new images (stepped old new (enable b) result (enabled old new b) h) is
asked_runs old new (meaning.initiate identifier size) result images (inl (name, spells, h)) is = still old new images (stepped old new (initiate name size) result (initiated old new name size) h) is
asked_runs old new (meaning.initiate identifier size) result images (inr h) is = still old new images (ap (λ (m : Meter). m.running) h.2) is
asked_runs old new (meaning.block i value) result images h is = still old new images (stepped old new (block i value) result (blocked old new i value) h) is
asked_runs old new meaning.verify result images h is = still old new images (stepped old new verify result (verified_so old new) h) is
asked_runs old new meaning.activate result images h is = activate_runs old new result images h is

handled_runs : (old new : Meter) (datagram : List ℕ) (reply : Option (List ℕ)) (name : Option Name) → Handles true IsTrue old datagram reply name new
    → new.running ≡ last_of old.running (switched_to name new)
handled_runs old new datagram reply name (inl h) =
    asked_runs old new (meaning_of h.content) h.responds.result (switched_to name new) h.responds.steps (ap (λ (n : Option Name). switched_to n new) h.responds.activates)
handled_runs old new datagram reply name (inr h) =
    still old new (switched_to name new) (ap (λ (m : Meter). m.running) h.same) (ap (λ (n : Option Name). switched_to n new) h.none_activated)

turned_in : (phase : Phase) (old new : Meter) → TurnsIn phase true old true new → new.running ≡ old.running
turned_in idle old new h = ap (λ (m : Meter). m.running) h
turned_in (receiving goal) old new h = ap (λ (m : Meter). m.running) h
turned_in (verifying goal taken) old new (inl h) = kept (record old { phase = verifying goal (taken + slice_size) }) old new h.1 refl
turned_in (verifying goal taken) old new (inr (last, inl h)) = judged old new true h
turned_in (verifying goal taken) old new (inr (last, inr h)) = judged old new false h
turned_in (verified goal) old new h = ap (λ (m : Meter). m.running) h
turned_in (spoilt goal) old new h = ap (λ (m : Meter). m.running) h
turned_in switched old new h = ap (λ (m : Meter). m.running) h

pub turned_runs : (old new : Meter) → Turn true old true new → new.running ≡ old.running
turned_runs old new h = turned_in old.phase old new h

-- ---- item after item

abbrev runs_in : Stand → Image
runs_in stand = (meter_in stand).running

owing_runs : (from : SocketAddr) (reply : Option (List ℕ)) (after : Meter) → runs_in (owing from reply after) ≡ after.running
owing_runs from None after = refl
owing_runs from (Some reply) after = refl

-- nothing was switched to, and the process stands here
stays : (old new there : Stand) (images : List Image) → images ≡ [] → new ≡ there → runs_in there ≡ runs_in old → runs_in new ≡ last_of (runs_in old) images
stays old new there images none is same = ap runs_in is ∙ same ∙ ap (λ (l : List Image). last_of (runs_in old) l) (sym none)

made_runs : (heads : List SocketAddr) (old new : Stand) (item : Item) (images : List Image) → Makes heads old item images new → runs_in new ≡ last_of (runs_in old) images
made_runs heads (ended m) new started images h = stays (ended m) new _ images h.0 h.1 refl
made_runs heads (waits m) new started images h = stays (waits m) new _ images h.0 h.1 refl
made_runs heads (owes to reply m) new started images h = stays (owes to reply m) new _ images h.0 h.1 refl
made_runs heads (ended m) new (came from datagram) images h = absurd h
made_runs heads (waits m) new (came from datagram) images (inl h) =
    ap runs_in h.stands ∙ owing_runs from h.reply h.after ∙ handled_runs m h.after datagram h.reply h.name h.handles
    ∙ ap (λ (l : List Image). last_of m.running l) (sym h.switches)
made_runs heads (waits m) new (came from datagram) images (inr (inl h)) = stays (waits m) new (waits m) images h.none h.stands refl
made_runs heads (waits m) new (came from datagram) images (inr (inr h)) = stays (waits m) new _ images h.none h.ends refl
made_runs heads (owes to reply m) new (came from datagram) images h = absurd h
made_runs heads (ended m) new (sent to bytes) images h = absurd h
made_runs heads (waits m) new (sent to bytes) images h = absurd h
made_runs heads (owes there reply m) new (sent to bytes) images (address, same, none, is) = stays (owes there reply m) new (waits m) images none is refl
made_runs heads (ended m) new turned images h = absurd h
made_runs heads (waits m) new turned images (verifies, inl h) = stays (waits m) new (waits h.after) images h.none h.stands (turned_runs m h.after h.turn)
made_runs heads (waits m) new turned images (verifies, inr h) = stays (waits m) new _ images h.none h.ends refl
made_runs heads (owes to reply m) new turned images h = absurd h

last_more : (first : Image) (images more : List Image) → last_of first (images ++ more) ≡ last_of (last_of first images) more
last_more first [] more = refl
last_more first (image ∷ images) more = last_more image images more

leads_run : (heads : List SocketAddr) (old new : Stand) (log : List Item) (images : List Image) → Leads heads old log images new → runs_in new ≡ last_of (runs_in old) images
leads_run heads old new [] images (none, is) = stays old new old images none is refl
leads_run heads old new (item ∷ log) images (next, first, rest, makes, leads, all) =
    leads_run heads next new log rest leads
    ∙ ap (λ (i : Image). last_of i rest) (made_runs heads old next item first makes)
    ∙ sym (last_more (runs_in old) first rest)
    ∙ ap (λ (l : List Image). last_of (runs_in old) l) (sym all)

left_runs : (stand : Stand) → (left_by stand).running ≡ runs_in stand
left_runs (ended m) = refl
left_runs (waits m) = refl
left_runs (owes to reply m) = refl

pub runs_the_last : RunsTheLast
runs_the_last heads begin log images end h =
    ap (λ (m : Meter). m.running) h.left ∙ left_runs h.stand ∙ leads_run heads (ended begin) h.stand log images h.leads
