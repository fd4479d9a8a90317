-- The calls of its store that a meter makes for a datagram, and what a fault leaves.
use Rattle.std.proofs.Common.{◌≡◌, ◌⊎◌, ◌-◌, ◌≤◌, ℕ, Bool, true, false, IsTrue, List, Option, Some, None, inl, inr, refl, sym, ap, subst, ◌∙◌, arith}
use Rattle.std.proofs.lemmas.Bool.{cases_Bool}
use Rattle.std.specs.Prelude.{if◌then◌else◌}
use Rattle.fw_apdu.specs.Laws as apdu
use Rattle.fw_apdu.specs.Request.{RequestContent}
use Rattle.fw_names.specs.Laws as names
use Rattle.fw_names.specs.Name.{Name, SpellsName}
use Rattle.fw_wrapper.specs.Laws as wrapper
use Rattle.fw_server.specs.Meaning.{Meaning, read, enable, initiate, block, verify, activate, refused as denied, meaning_of, code_number}
use Rattle.fw_server.specs.Laws.{RefusesRequest}
use Rattle.fw_server.specs.declared.code.ResultCode.{ResultCode}
use Rattle.fw_server.specs.declared.code.ResultCode.TheVariants as code
use Rattle.fw_store.specs.Faults.{Spends}
use Rattle.fw_store.specs.declared.fuse.Fuse.{Fuse}
use Rattle.fw_image.specs.Calls.{calls_for}
use Rattle.fw_image.specs.Meter.{Meter, Phase, idle, receiving, verifying, verified, spoilt, switched}
use Rattle.fw_image.specs.State.{State, Makes, Counts}
use Rattle.fw_image.specs.Step as image
use Rattle.fw_image.specs.Step.{Operation, OperationOutcome, done, refused, verification_initiated, refusal_in, Refuses, Serves, is_operation_faultless}
use Rattle.fw_image.specs.declared.error.Refusal.{Refusal}
use Rattle.fw_image.specs.declared.error.Refusal.TheVariants.{Disabled, BadInitiate, BadBlock, Missing, Fault, Differs}
use Rattle.fw_meter.specs.Handling.{Brings, BringsNothing, Handles, Responds}
use Rattle.fw_meter.specs.Private.{CallsOf, IsCalled, IsMade, Steps}
use Rattle.fw_meter.specs.Step.{MeterResult, coded, tells_no_fault, operation_code, Operates, MeterStep, activation_of}
use Rattle.fw_meter.specs.Stopping.{AsksFor, IsServed, MakesCalls, CallsStore, StopsAfter}
use Rattle.fw_meter.proofs.Made.{not_served}
use Rattle.fw_meter.proofs.OneAnswer.{one_brought}
use Rattle.fw_meter.proofs.Stops.{activates_none, fault_told_by}

-- ---- an operation

-- a code reports a fault just if there is one
told_as : (made : OperationOutcome) → tells_no_fault (coded (operation_code made)) ≡ is_operation_faultless made
told_as done = refl
told_as (refused Disabled) = refl
told_as (refused BadInitiate) = refl
told_as (refused BadBlock) = refl
told_as (refused Missing) = refl
told_as (refused Fault) = refl
told_as (refused Differs) = refl
told_as verification_initiated = refl

-- what a line refuses is no fault
line_in : (p : Phase) (operation : Operation) → IsTrue (is_operation_faultless (refused (refusal_in p operation)))
line_in p (image.initiate name size) = refl
line_in (receiving goal) (image.block i value) = refl
line_in idle operation = refl
line_in (receiving goal) operation = refl
line_in (verifying goal taken) operation = refl
line_in (verified goal) operation = refl
line_in (spoilt goal) operation = refl
line_in switched operation = refl

method_line : (m : Meter) (operation : Operation) (r : Refusal) (admits : Type 0) → ((m.enabled ≡ false) × (r ≡ Disabled)) ⊎ ((m.enabled ≡ true) × (r ≡ refusal_in m.phase operation) × ¬ admits)
    → IsTrue (is_operation_faultless (refused r))
method_line m operation r admits (inl line) = rw line.1 refl
method_line m operation r admits (inr line) = rw line.1 (line_in m.phase operation)

line_faultless : (m : Meter) (operation : Operation) (r : Refusal) → Refuses m operation r → IsTrue (is_operation_faultless (refused r))
line_faultless m (image.enable b) r line = absurd line
line_faultless m (image.initiate name size) r line = method_line m (image.initiate name size) r _ line
line_faultless m (image.block i value) r line = method_line m (image.block i value) r _ line
line_faultless m image.verify r line = method_line m image.verify r _ line
line_faultless m image.activate r line = method_line m image.activate r _ line

no_spending : (fuse : Option Fuse) → Spends 0 fuse fuse true
no_spending fuse = record {
  told = λ set e. (λ t. omega arith, λ few. refl);
  used = λ set e. let same : set.calls - 0 ≡ set.calls = omega arith in e ∙ ap (λ (n : ℕ). Some (record set { calls = n })) (sym same);
}

-- where no call is made
pub none_called : (this : State) (asked : Meaning) → ((operation : Operation) → ¬ AsksFor asked operation) → IsCalled this asked this true
none_called this asked none = record {
  counts = record { counted = refl; never = λ _. refl };
  calls = 0;
  makes = inr (none, refl);
  spends = no_spending this.fuse;
  left = λ honest set is failed. absurd cc;
}

made_called : (old new : State) (asked : Meaning) (operation : Operation) (made : OperationOutcome) → AsksFor asked operation → Makes old operation made new → IsCalled old asked new (is_operation_faultless made)
made_called old new asked operation made asks makes = elim makes.step [
  | inl h ↦
      let same : new ≡ old = makes.untouched h.refusal h.line in
      let sure : is_operation_faultless made ≡ true = ap is_operation_faultless h.told ∙ line_faultless old.meter operation h.refusal h.line in
      record {
        counts = makes.counts;
        calls = 0;
        makes = inl (operation, asks, inr (λ serves. not_served old.meter operation h.refusal h.line serves, refl));
        spends = subst (λ (ok : Bool). Spends 0 old.fuse new.fuse ok) (sym sure) (subst (λ (s : State). Spends 0 old.fuse s.fuse true) (sym same) (no_spending old.fuse));
        left = λ honest set is failed. let bad : true ≡ false = sym sure ∙ failed in absurd cc;
      }
  | inr h ↦ record {
    counts = makes.counts;
    calls = calls_for old.meter operation;
    makes = inl (operation, asks, inl (h.serves, refl));
    spends = makes.spends h.serves;
    left = λ honest set is failed. record { operation = operation; asks = asks; serves = h.serves; left = makes.left honest set is failed };
  }
]

-- from an operation to the request that asks for it
pub steps_made : (old new : State) (asked : Meaning) (operation : Operation) (c : ℕ) → AsksFor asked operation
    → (Operates old.honest old.meter operation (coded c) new.meter → MeterStep old.honest old.meter asked (coded c) new.meter) → IsMade old operation c new → Steps old asked c new
steps_made old new asked operation c asks steps (made, makes, told) = record {
  step = steps (made, makes.step, ap coded told);
  follows = makes.follows;
  called = subst (IsCalled old asked new) (sym (ap (λ (n : ℕ). tells_no_fault (coded n)) told ∙ told_as made)) (made_called old new asked operation made asks makes);
}

-- an initiate whose identifier is no name
pub nameless : (s : State) (identifier : List ℕ) (size : ℕ) (e : Bool) → s.meter.enabled ≡ e → ((name : Name) → ¬ SpellsName identifier name)
    → Steps s (initiate identifier size) (code_number (if e then code.OtherReason else code.ReadWriteDenied)) s
nameless s identifier size true on none = record {
  step = inr (none, rw on refl, refl);
  follows = record { honesty = refl; soundness = λ h. h; later = omega arith };
  called = none_called s (initiate identifier size) (λ operation (name, spells, asks). none name spells);
}
nameless s identifier size false off none = record {
  step = inr (none, rw off refl, refl);
  follows = record { honesty = refl; soundness = λ h. h; later = omega arith };
  called = none_called s (initiate identifier size) (λ operation (name, spells, asks). none name spells);
}

-- a request that is refused for what it asks
pub denied_called : (this : State) (c : ResultCode) → RefusesRequest c → IsCalled this (denied c) this (tells_no_fault (coded (code_number c)))
denied_called this code.Success refuses = absurd refuses
denied_called this code.HardwareFault refuses = absurd refuses
denied_called this code.TemporaryFailure refuses = absurd refuses
denied_called this code.ReadWriteDenied refuses = none_called this (denied code.ReadWriteDenied) (λ operation h. h)
denied_called this code.ObjectUndefined refuses = none_called this (denied code.ObjectUndefined) (λ operation h. h)
denied_called this code.ObjectClassInconsistent refuses = none_called this (denied code.ObjectClassInconsistent) (λ operation h. h)
denied_called this code.TypeUnmatched refuses = none_called this (denied code.TypeUnmatched) (λ operation h. h)
denied_called this code.OtherReason refuses = absurd refuses

-- ---- a datagram

-- a request asks for one operation
asked_once : names.OneName → (m : Meaning) (a b : Operation) → AsksFor m a → AsksFor m b → a ≡ b
asked_once spelled (read reading) a b h k = absurd h
asked_once spelled (denied denial) a b h k = absurd h
asked_once spelled (enable e) a b h k = h ∙ sym k
asked_once spelled (initiate identifier size) a b (name, spells, h) (name', spells', k) =
    h ∙ ap (λ (n : Name). image.initiate n size) (spelled identifier name name' spells spells') ∙ sym k
asked_once spelled (block i value) a b h k = h ∙ sym k
asked_once spelled verify a b h k = h ∙ sym k
asked_once spelled activate a b h k = h ∙ sym k

-- and so does a datagram
asked_by : wrapper.OneFrame → apdu.OneRequest → (m : Meter) (datagram : List ℕ) (source invoke : ℕ) (content : RequestContent) (operation : Operation) → Brings datagram source invoke content
    → (served : IsServed m datagram operation) → AsksFor (meaning_of content) operation
asked_by frames requests m datagram source invoke content operation brings served =
    subst (λ (c : RequestContent). AsksFor (meaning_of c) operation) (one_brought frames requests datagram served.source source served.invoke invoke served.content content served.brings brings).contents served.asks

pub served_once : names.OneName → wrapper.OneFrame → apdu.OneRequest → (m : Meter) (datagram : List ℕ) (a b : Operation) → IsServed m datagram a → IsServed m datagram b → a ≡ b
served_once spelled frames requests m datagram a b h k =
    asked_once spelled (meaning_of h.content) a b h.asks (asked_by frames requests m datagram h.source h.invoke h.content b h.brings k)

calls_of : names.OneName → wrapper.OneFrame → apdu.OneRequest → (m : Meter) (datagram : List ℕ) (source invoke : ℕ) (content : RequestContent) (calls : ℕ) → Brings datagram source invoke content
    → CallsOf m (meaning_of content) calls → MakesCalls m datagram calls
calls_of spelled frames requests m datagram source invoke content calls brings (inl (operation, asks, inl h)) =
    inl (operation, record { source = source; invoke = invoke; content = content; brings = brings; asks = asks; serves = h.0 }, h.1)
calls_of spelled frames requests m datagram source invoke content calls brings (inl (operation, asks, inr h)) =
    inr (
      λ other served.
          h.0 (subst (Serves m) (asked_once spelled (meaning_of content) other operation (asked_by frames requests m datagram source invoke content other brings served) asks) served.serves),
      h.1,
    )
calls_of spelled frames requests m datagram source invoke content calls brings (inr h) =
    inr (λ other served. h.0 other (asked_by frames requests m datagram source invoke content other brings served), h.1)

-- no more calls are made than this
at_most : names.OneName → wrapper.OneFrame → apdu.OneRequest → (m : Meter) (datagram : List ℕ) (calls most : ℕ) → MakesCalls m datagram calls → calls ≤ most
    → (operation : Operation) → IsServed m datagram operation → calls_for m operation ≤ most
at_most spelled frames requests m datagram calls most (inl (made, is, count)) few operation served =
    let same : made ≡ operation = served_once spelled frames requests m datagram made operation is served in
    let needs : calls ≡ calls_for m operation = count ∙ ap (calls_for m) same in
    omega arith
at_most spelled frames requests m datagram calls most (inr h) few operation served = absurd (h.0 operation served)

-- the calls for the operation that was served
calls_are : names.OneName → wrapper.OneFrame → apdu.OneRequest → (m : Meter) (datagram : List ℕ) (calls : ℕ) (operation : Operation) → MakesCalls m datagram calls → IsServed m datagram operation → calls ≡ calls_for m operation
calls_are spelled frames requests m datagram calls operation (inl (made, is, count)) served =
    count ∙ ap (calls_for m) (served_once spelled frames requests m datagram made operation is served)
calls_are spelled frames requests m datagram calls operation (inr h) served = absurd (h.0 operation served)

module _ (spelled : names.OneName) (frames : wrapper.OneFrame) (requests : apdu.OneRequest) (old new : State) (datagram : List ℕ) (source invoke : ℕ) (content : RequestContent) (reply : Option (List ℕ)) (activated : Option Name)
    (brings : Brings datagram source invoke content) (did : Responds old.honest (IsCalled old (meaning_of content) new) old.meter source invoke content reply activated new.meter) where
  pub handled : Handles old.honest (Counts old new) old.meter datagram reply activated new.meter
  handled = inl (record {
    source = source;
    invoke = invoke;
    content = content;
    brings = brings;
    responds = record { result = did.result; steps = did.steps; replies = did.replies; activates = did.activates; faults = did.faults.counts };
  })

  makes : MakesCalls old.meter datagram did.faults.calls
  makes = calls_of spelled frames requests old.meter datagram source invoke content did.faults.calls brings did.faults.makes

  pub calls_store : CallsStore old datagram new
  calls_store = record { calls = did.faults.calls; faultless = tells_no_fault did.result; makes = makes; counts = did.faults.counts; spends = did.faults.spends }

  pub stops_after : IsTrue old.honest → (set : Fuse) → old.fuse ≡ Some set → StopsAfter set.calls set.torn old.meter datagram activated new.meter
  stops_after honest set is =
      let told = did.faults.spends.told set is in
      elim (cases_Bool (tells_no_fault did.result)) [
        | inl sure ↦ inr (record {
          reply = reply;
          handles = inl (record {
            source = source;
            invoke = invoke;
            content = content;
            brings = brings;
            responds = record {
              result = did.result;
              steps = subst (λ (b : Bool). MeterStep b old.meter (meaning_of content) did.result new.meter) honest did.steps;
              replies = did.replies;
              activates = did.activates;
              faults = sure;
            };
          });
          enough = at_most spelled frames requests old.meter datagram did.faults.calls set.calls makes (told.0 sure);
        })
        | inr failed ↦
            let left = did.faults.left honest set is failed in
            let served : IsServed old.meter datagram left.operation = record { source = source; invoke = invoke; content = content; brings = brings; asks = left.asks; serves = left.serves } in
            let calls = calls_are spelled frames requests old.meter datagram did.faults.calls left.operation makes served in
            let over : did.faults.calls ≤ set.calls → ⊥ = λ few. let bad : true ≡ false = sym (told.1 few) ∙ failed in cc in
            inl (record {
              operation = left.operation;
              served = served;
              short = omega (arith, calls, over);
              none = did.activates ∙ ap (λ (a : MeterResult). activation_of (meaning_of content) a new.meter) (fault_told_by did.result failed) ∙ activates_none (meaning_of content) new.meter;
              left = left.left;
            })
      ]

-- a datagram that brings no request
pub drops_calls : (this : State) (datagram : List ℕ) → BringsNothing datagram → CallsStore this datagram this
drops_calls this datagram nothing = record {
  calls = 0;
  faultless = true;
  makes = inr (λ operation served. nothing served.source served.invoke served.content served.brings, refl);
  counts = record { counted = refl; never = λ _. refl };
  spends = no_spending this.fuse;
}

pub drops_stop : (m : Meter) (datagram : List ℕ) (calls torn : ℕ) → BringsNothing datagram → StopsAfter calls torn m datagram None m
drops_stop m datagram calls torn nothing = inr (record {
  reply = None;
  handles = inr (record { nothing = nothing; silent = refl; none_activated = refl; same = refl; faults = refl });
  enough = λ operation served. absurd (nothing served.source served.invoke served.content served.brings);
})
