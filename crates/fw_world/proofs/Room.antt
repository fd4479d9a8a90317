-- There is room for an image that a meter switches to, and for what it replies.
use Rattle.std.proofs.Common.{◌≡◌, ◌≤◌, ℕ, zero, suc, Bool, true, false, IsTrue, List, length, Option, Some, None, inl, inr, refl, sym, ◌∙◌, ap, subst}
use Rattle.std.specs.Global.{Vec}
use Rattle.std.specs.Prelude.{IfSome, if◌then◌else◌}
use Rattle.fw_apdu.specs.Request.{is_confirmed}
use Rattle.fw_names.specs.Name.{Name}
use Rattle.fw_store.specs.Header.{goal_count}
use Rattle.fw_store.specs.declared.header.Goal.{Goal}
use Rattle.fw_server.specs.Meaning as meaning
use Rattle.fw_server.specs.Meaning.{Meaning, meaning_of}
use Rattle.fw_image.specs.Calls.{verified_size}
use Rattle.fw_image.specs.Fits.{IsFit}
use Rattle.fw_image.specs.Laws.{JoinedSize}
use Rattle.fw_image.specs.Meter.{Image, Meter, Phase, verified, status_of, goal_of, joined, goal_bytes, IsGenuine, IsTrusted}
use Rattle.fw_image.specs.Step as image
use Rattle.fw_image.specs.Step.{OperationOutcome, done, refused, verification_initiated, Admits, switched_to, Step}
use Rattle.fw_meter.specs.Step.{MeterResult, got, coded, MeterStep, activation_of}
use Rattle.fw_meter.specs.Handling.{AsksForResponse, Handles, reply_bytes}
use Rattle.fw_world.specs.Private.{HasRoom, IsRunning, switched_name}
use Rattle.fw_world.specs.Refusals.{HoldsVerified}
use Rattle.fw_world.proofs.SafeMeters.{admits_activate, genuine_bytes, switches}
use Rattle.fw_world.proofs.Handled.{activate_switches}

-- ---- a meter switches to an image only by an activate that its phase admits

module _ (old new : Meter) (Q : Type 0) (so : Admits old old.phase image.activate → new ≡ switched_to old old.phase (goal_bytes old) → Q) where
  outcome_switches : (made : OperationOutcome) (name : Name) → Step true old image.activate made new → switches image.activate made new ≡ Some name → Q
  outcome_switches done name (inl h) e = let told = h.told in absurd cc
  outcome_switches done name (inr h) e = so h.serves.1 (h.does.is refl)
  outcome_switches (refused r) name step e = absurd cc
  outcome_switches verification_initiated name step e = absurd cc

  step_switches : (asked : Meaning) (result : MeterResult) (name : Name) → MeterStep true old asked result new → activation_of asked result new ≡ Some name → Q
  step_switches (meaning.read reading) result name h e = absurd cc
  step_switches (meaning.refused refusal) result name h e = absurd cc
  step_switches (meaning.enable b) result name h e = absurd cc
  step_switches (meaning.initiate identifier size) result name h e = absurd cc
  step_switches (meaning.block number bytes) result name h e = absurd cc
  step_switches meaning.verify result name h e = absurd cc
  step_switches meaning.activate result name (made, step, told) e =
      outcome_switches made name step (sym (activate_switches new made) ∙ ap (λ (r : MeterResult). activation_of meaning.activate r new) (sym told) ∙ e)

  handled_switches : (Faults : Bool → Type 0) (datagram : List ℕ) (reply : Option (List ℕ)) (activated : Option Name) → Handles true Faults old datagram reply activated new
      → (name : Name) → activated ≡ Some name → Q
  handled_switches Faults datagram reply activated (inl h) name e = step_switches (meaning_of h.content) h.responds.result name h.responds.steps (sym h.responds.activates ∙ e)
  handled_switches Faults datagram reply activated (inr h) name e = let none = h.none_activated in absurd cc

-- it held a verified one
module _ (old new : Meter) (fits : IsFit old) where
  switched_held : Admits old old.phase image.activate → HoldsVerified old
  switched_held admits =
      let has_verified = admits_activate old old.phase admits in
      let goal : Goal = has_verified.0 in
      let phase : old.phase ≡ verified goal = has_verified.1 in
      let offer = fits.goal goal (ap goal_of phase) in
      subst (λ (p : Phase). 1 ≤ verified_size p) (sym phase) offer.limits.begins

  pub handled_held : (Faults : Bool → Type 0) (datagram : List ℕ) (reply : Option (List ℕ)) (activated : Option Name) → Handles true Faults old datagram reply activated new
      → (name : Name) → activated ≡ Some name → HoldsVerified old
  handled_held Faults datagram reply activated = handled_switches old new (HoldsVerified old) (λ admits is. switched_held admits) Faults datagram reply activated

-- and the room for that one is room for the one that runs
module _ (sizes : JoinedSize) (old new : Meter) (fits : IsFit old) (trusted : IsTrusted old) (room : List ℕ) (has : HasRoom old room) where
  switched_room : Admits old old.phase image.activate → new ≡ switched_to old old.phase (goal_bytes old) → length room ≡ length new.running.bytes
  switched_room admits is =
      let has_verified = admits_activate old old.phase admits in
      let goal : Goal = has_verified.0 in
      let phase : old.phase ≡ verified goal = has_verified.1 in
      let goal_is : goal_of old.phase ≡ Some goal = ap goal_of phase in
      let genuine : IsGenuine (Some goal) (goal_bytes old) =
      subst (λ (o : Option Goal). IsGenuine o (goal_bytes old)) goal_is (trusted.verified (ap status_of phase)) in
      let bytes = genuine_bytes goal (goal_bytes old) genuine in
      let whole : joined old.cells (goal_count old.block_size (Some goal)) ≡ Some bytes.0 =
      ap (λ (o : Option Goal). joined old.cells (goal_count old.block_size o)) (sym goal_is) ∙ bytes.1 in
      let size : length bytes.0 ≡ goal.size = sizes old.block_size goal.size old.cells bytes.0 fits.block_begins (fits.cells goal goal_is) whole in
      let same : new ≡ switched_to old (verified goal) (Some bytes.0) = is ∙ (λ i. switched_to old (phase i) (bytes.1 i)) in
      has goal phase ∙ sym size ∙ sym (ap (λ (m : Meter). length m.running.bytes) same)

  pub handled_room : (Faults : Bool → Type 0) (datagram : List ℕ) (reply : Option (List ℕ)) (activated : Option Name) → Handles true Faults old datagram reply activated new
      → (name : Name) → activated ≡ Some name → length room ≡ length new.running.bytes
  handled_room Faults datagram reply activated = handled_switches old new (length room ≡ length new.running.bytes) switched_room Faults datagram reply activated

pub each_some : {A : Type 0} (o : Option A) (P : A → Type 0) → ((x : A) → o ≡ Some x → P x) → IfSome o P
each_some None P f = tt
each_some (Some x) P f = f x refl

-- so it is where an image was noted as switched to
pub held_by : (Q : Type 0) (activated : Option Name) → ((name : Name) → activated ≡ Some name → Q) → (switched : Option Image) → switched_name switched ≡ activated → IfSome switched (λ _. Q)
held_by Q activated held None named = tt
held_by Q activated held (Some image) named = held image.name (sym named)

-- ---- the name is that of the image that runs

step_name : (new : Meter) (asked : Meaning) (result : MeterResult) (name : Name) → activation_of asked result new ≡ Some name → name ≡ new.running.name
step_name new meaning.activate (coded zero) name e = cc
step_name new meaning.activate (coded (suc n)) name e = absurd cc
step_name new meaning.activate (got answer) name e = absurd cc
step_name new (meaning.read reading) result name e = absurd cc
step_name new (meaning.refused refusal) result name e = absurd cc
step_name new (meaning.enable b) result name e = absurd cc
step_name new (meaning.initiate identifier size) result name e = absurd cc
step_name new (meaning.block number bytes) result name e = absurd cc
step_name new meaning.verify result name e = absurd cc

handled_name : (honest : Bool) (Faults : Bool → Type 0) (old new : Meter) (datagram : List ℕ) (reply : Option (List ℕ)) (activated : Option Name) → Handles honest Faults old datagram reply activated new
    → (name : Name) → activated ≡ Some name → name ≡ new.running.name
handled_name honest Faults old new datagram reply activated (inl h) name e = step_name new (meaning_of h.content) h.responds.result name (sym h.responds.activates ∙ e)
handled_name honest Faults old new datagram reply activated (inr h) name e = let none = h.none_activated in absurd cc

pub switched_runs : (honest : Bool) (Faults : Bool → Type 0) (old new : Meter) (datagram : List ℕ) (reply : Option (List ℕ)) (activated : Option Name) → Handles honest Faults old datagram reply activated new
    → (switched : Option Image) → switched_name switched ≡ activated → IfSome switched (λ image. image.bytes ≡ new.running.bytes) → IsRunning switched new
switched_runs honest Faults old new datagram reply activated h None named bytes = tt
switched_runs honest Faults old new datagram reply activated h (Some image) named bytes =
    let name : image.name ≡ new.running.name = handled_name honest Faults old new datagram reply activated h image.name (sym named) in
    λ i. record { name = name i; bytes = bytes i }

-- ---- only what asks for a response has a reply

told_where : (asked : Bool) (told bytes : List ℕ) → (if asked then Some told else None) ≡ Some bytes → IsTrue asked
told_where true told bytes e = refl
told_where false told bytes e = absurd cc

handled_asks : (honest : Bool) (Faults : Bool → Type 0) (old new : Meter) (datagram : List ℕ) (reply : Option (List ℕ)) (activated : Option Name) → Handles honest Faults old datagram reply activated new
    → (bytes : List ℕ) → reply ≡ Some bytes → AsksForResponse datagram
handled_asks honest Faults old new datagram reply activated (inl h) bytes e = record {
  source = h.source;
  invoke = h.invoke;
  content = h.content;
  brings = h.brings;
  confirmed = told_where (is_confirmed h.invoke) _ bytes (sym h.responds.replies ∙ e);
}
handled_asks honest Faults old new datagram reply activated (inr h) bytes e = let silent = h.silent in absurd cc

pub replied_asks : (honest : Bool) (Faults : Bool → Type 0) (old new : Meter) (datagram : List ℕ) (reply : Option (Vec ℕ)) (activated : Option Name) → Handles honest Faults old datagram (reply_bytes reply) activated new
    → IfSome reply (λ _. AsksForResponse datagram)
replied_asks honest Faults old new datagram None activated h = tt
replied_asks honest Faults old new datagram (Some v) activated h = handled_asks honest Faults old new datagram (Some v.items) activated h v.items refl
