-- What a datagram that is handled, or a stop in it, keeps of a meter of the world.
use Rattle.std.proofs.Common.{◌≡◌, ℕ, Bool, true, false, IsTrue, List, [], ◌++◌, Option, Some, None, inl, inr, refl, sym, ◌∙◌, ap, subst, if◌then◌else◌, All}
use Rattle.std.proofs.lemmas.List.Elements.{All-nil, All-cons}
use Rattle.fw_names.specs.Laws as names
use Rattle.fw_names.specs.Name.{Name, SpellsName}
use Rattle.fw_wrapper.specs.Wrapper.{wrapped, wport}
use Rattle.fw_apdu.specs.Request.{RequestContent, SpellsRequest, is_confirmed}
use Rattle.fw_apdu.specs.Response.{response_bytes}
use Rattle.fw_server.specs.Meaning as meaning
use Rattle.fw_server.specs.Meaning.{Meaning, meaning_of}
use Rattle.fw_server.specs.Answer.{response_of}
use Rattle.fw_image.specs.Laws.{JoinedSize}
use Rattle.fw_image.specs.Meter.{Meter}
use Rattle.fw_image.specs.Step as image
use Rattle.fw_image.specs.Step.{Operation, OperationOutcome, done, refused, verification_initiated}
use Rattle.fw_image.specs.declared.error.Refusal.TheVariants.{Disabled, BadInitiate, BadBlock, Missing, Fault, Differs}
use Rattle.fw_meter.specs.Step.{MeterResult, coded, operation_code, Operates, MeterStep, activation_of}
use Rattle.fw_meter.specs.Handling.{Brings, outcome_in, Handles}
use Rattle.fw_meter.specs.Laws.{Stops, TellsString, TellsRunning}
use Rattle.fw_world.specs.declared.datagram.Direction.TheVariants.{ToHead}
use Rattle.fw_world.specs.World.{Datagram, Activation, Offers}
use Rattle.fw_world.specs.Step.{replies}
use Rattle.fw_world.specs.Headline.{IsOffered, FirstNames, InitiatesOffered, TellsOwn}
use Rattle.fw_world.proofs.Spelled.{one_apdu, asks_nothing}
use Rattle.fw_world.proofs.SafeMeters.{IsSafeMeter, own_grows, switches, IsOfOffers, IsSafeAfter, quiet, cell_safe, step_safe}

-- an accepted activate, and nothing else, switches
pub activate_switches : (new : Meter) (made : OperationOutcome) → activation_of meaning.activate (coded (operation_code made)) new ≡ switches image.activate made new
activate_switches new done = refl
activate_switches new (refused Disabled) = refl
activate_switches new (refused BadInitiate) = refl
activate_switches new (refused BadBlock) = refl
activate_switches new (refused Missing) = refl
activate_switches new (refused Fault) = refl
activate_switches new (refused Differs) = refl
activate_switches new verification_initiated = refl

-- if there is a reply, it has these bytes
each_reply : (P : Datagram → Type 0) (d : Datagram) (reply : Option (List ℕ)) (confirmed : Bool) (bytes : List ℕ) → reply ≡ (if confirmed then Some bytes else None)
    → P (record d { direction = ToHead; bytes = bytes }) → All P (replies d reply)
each_reply P d reply true bytes e p = subst (λ (r : Option (List ℕ)). All P (replies d r)) (sym e) (All-cons P _ [] p (All-nil P))
each_reply P d reply false bytes e p = subst (λ (r : Option (List ℕ)). All P (replies d r)) (sym e) (All-nil P)

no_reply : (P : Datagram → Type 0) (d : Datagram) (reply : Option (List ℕ)) → reply ≡ None → All P (replies d reply)
no_reply P d reply e = subst (λ (r : Option (List ℕ)). All P (replies d r)) (sym e) (All-nil P)

module _ (sizes : JoinedSize) (one_name : names.OneName) (IsFirst : FirstNames) (offered : Offers) (activations : List Activation) (d : Datagram) (asks : InitiatesOffered offered d) (old : Meter)
    (k : IsSafeMeter IsFirst offered activations d.meter old) where
  abbrev After : Option Name → Meter → Type 0
  After name new = IsSafeAfter IsFirst offered activations d.meter name new

  still : (name : Option Name) (new : Meter) → name ≡ None → IsSafeMeter IsFirst offered activations d.meter new → After name new
  still name new none safe = subst (λ (n : Option Name). After n new) (sym none) (quiet IsFirst offered activations d.meter new safe)

  operates_safe : (asked : Meaning) (operation : Operation) (result : MeterResult) (new : Meter) → ((made : OperationOutcome) → activation_of asked (coded (operation_code made)) new ≡ switches operation made new)
      → IsOfOffers offered operation → Operates true old operation result new → After (activation_of asked result new) new
  operates_safe asked operation result new same of_offers (made, step, told) =
      subst (λ (n : Option Name). After n new) (sym (ap (λ (r : MeterResult). activation_of asked r new) told ∙ same made))
      (step_safe IsFirst offered activations d.meter sizes old new k operation made of_offers step)

  -- what a request initiates is offered
  abbrev AsksOffered : Meaning → Type 0
  AsksOffered asked = (identifier : List ℕ) (size : ℕ) → asked ≡ meaning.initiate identifier size → (name : Name) × SpellsName identifier name × IsOffered offered name size

  request_safe : (asked : Meaning) (result : MeterResult) (new : Meter) → AsksOffered asked → MeterStep true old asked result new → After (activation_of asked result new) new
  request_safe (meaning.read reading) result new offers h = still None new refl (subst (IsSafeMeter IsFirst offered activations d.meter) (sym h.1) k)
  request_safe (meaning.refused refusal) result new offers h = still None new refl (subst (IsSafeMeter IsFirst offered activations d.meter) (sym h.1) k)
  request_safe (meaning.enable b) result new offers h = operates_safe (meaning.enable b) (image.enable b) result new (λ made. refl) tt h
  request_safe (meaning.initiate identifier size) result new offers (inl (name, spells, h)) =
      let own = offers identifier size refl in
      let same : own.0 ≡ name = one_name identifier own.0 name own.1 spells in
      let offer : IsOffered offered name size = subst (λ (n : Name). IsOffered offered n size) same own.2 in
      operates_safe (meaning.initiate identifier size) (image.initiate name size) result new (λ made. refl) (spells.is_name, offer) h
  request_safe (meaning.initiate identifier size) result new offers (inr h) = still None new refl (subst (IsSafeMeter IsFirst offered activations d.meter) (sym h.2) k)
  request_safe (meaning.block number bytes) result new offers h = operates_safe (meaning.block number bytes) (image.block number bytes) result new (λ made. refl) tt h
  request_safe meaning.verify result new offers h = operates_safe meaning.verify image.verify result new (λ made. refl) tt h
  request_safe meaning.activate result new offers h = operates_safe meaning.activate image.activate result new (activate_switches new) tt h

  pub handles_safe : (reply : Option (List ℕ)) (name : Option Name) (new : Meter) → Handles true IsTrue old d.bytes reply name new → After name new
  handles_safe reply name new (inl h) =
      subst (λ (n : Option Name). After n new) (sym h.responds.activates)
      (request_safe (meaning_of h.content) h.responds.result new (λ identifier size e. asks h.source h.invoke size h.content identifier h.brings e) h.responds.steps)
  handles_safe reply name new (inr h) = still name new h.none_activated (subst (IsSafeMeter IsFirst offered activations d.meter) (sym h.same) k)

  pub stops_safe : (name : Option Name) (new : Meter) → Stops old d.bytes name new → After name new
  stops_safe name new (inl h) = still name new h.1 (subst (IsSafeMeter IsFirst offered activations d.meter) (sym h.0) k)
  stops_safe name new (inr (inl (t, none))) =
      still name new none
      (subst (IsSafeMeter IsFirst offered activations d.meter) (sym t.torn) (cell_safe IsFirst offered activations d.meter old t.goal t.number t.value t.left t.receives t.is_block t.size k))
  stops_safe name new (inr (inr (reply, h))) = handles_safe reply name new h

  -- a reply asks nothing
  pub reply_asks : (reply : Option (List ℕ)) (name : Option Name) (new : Meter) → Handles true IsTrue old d.bytes reply name new → All (InitiatesOffered offered) (replies d reply)
  reply_asks reply name new (inr h) = no_reply (InitiatesOffered offered) d reply h.silent
  reply_asks reply name new (inl h) =
      each_reply (InitiatesOffered offered) d reply (is_confirmed h.invoke) (wrapped wport h.source written) h.responds.replies
      (λ source invoke size content identifier brings e. absurd (no_request source invoke content brings))
    where
      written : List ℕ
      written = response_bytes h.invoke (response_of (outcome_in h.content h.responds.result))

      no_request : (source invoke : ℕ) (content : RequestContent) → Brings (wrapped wport h.source written) source invoke content → ⊥
      no_request source invoke content brings =
          let same : brings.apdu ≡ written = one_apdu source 1 1 h.source brings.apdu written (sym brings.wraps.bytes) in
          asks_nothing h.invoke invoke h.content content h.responds.result (subst (λ (s : List ℕ). SpellsRequest s invoke content) same brings.spells)

  -- and what it reports of 41 or of 45 bytes is a name of the meter's own
  pub reply_is_own : TellsRunning → (more : List Activation) (reply : Option (List ℕ)) (name : Option Name) (new : Meter) → Handles true IsTrue old d.bytes reply name new
      → All (TellsOwn IsFirst (activations ++ more)) (replies d reply)
  reply_is_own tells more None name new h = All-nil (TellsOwn IsFirst (activations ++ more))
  reply_is_own tells more (Some reply) name new h =
      let Own : Datagram → Type 0 = TellsOwn IsFirst (activations ++ more) in
      let own : Own (record d { direction = ToHead; bytes = reply }) = λ invoke bytes way carries size.
      let told : TellsString reply bytes = record { source = 1; dest = 1; invoke = invoke; apdu = carries.apdu; wraps = carries.wraps; spells = carries.spells } in
      (old.running.name, tells true old new d.bytes reply bytes name k.named h told size, own_grows IsFirst activations more d.meter old.running.name k.own) in
      All-cons Own (record d { direction = ToHead; bytes = reply }) [] own (All-nil Own)
