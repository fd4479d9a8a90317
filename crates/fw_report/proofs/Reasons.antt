-- Why initiates were refused that datagrams answer, one event after another.
use Rattle.std.proofs.Common.{◌≡◌, ◌≢◌, ◌⊎◌, inl, inr, ℕ, zero, suc, ◌+◌, ◌-◌, ◌<◌, ◌≤◌, length, replicate, take, drop, slice_get, slice_index_or, arith, List, [], ◌∷◌, ◌++◌, Option, Some, None, Result, Ok, Err, max, refl, sym, ap, subst, ◌∙◌, append_assoc}
use Rattle.std.proofs.lemmas.List.{length-append, length-replicate}
use Rattle.std.specs.Option.{option_map}
use Rattle.std.specs.Prelude.{IfOk}
use Rattle.fw_image.specs.Meter.{Meter}
use Rattle.fw_world.specs.declared.datagram.Direction.TheVariants.{ToMeter}
use Rattle.fw_world.specs.declared.error.StepError.{StepError}
use Rattle.fw_world.specs.declared.error.StepError.TheVariants.{OutOfMemory}
use Rattle.fw_world.specs.declared.event.Event.{Event as Given}
use Rattle.fw_world.specs.declared.setup.Setup.{Setup}
use Rattle.fw_world.specs.Refusals.{IsRefused, refusal_of}
use Rattle.fw_world.specs.Runs.{events_of}
use Rattle.fw_world.specs.Setup.{opening_state}
use Rattle.fw_world.specs.State.{State}
use Rattle.fw_world.specs.Step.{Event}
use Rattle.fw_world.specs.View.{event_of}
use Rattle.fw_air.specs.Laws.{SentGrows}
use Rattle.fw_air.specs.Rounds.{Admits, AdmittedRun}
use Rattle.fw_report.specs.declared.reason.Reason.{Reason}
use Rattle.fw_report.specs.declared.message.Message.{Message}
use Rattle.fw_report.specs.Reason.{Answers, AreReasons, HasReason, HasReasonAt, reason_of}
use Rattle.fw_report.specs.Message.{Says}

-- ---- lists

pub event_at : (events : List Given) (at : ℕ) (other event : Given) → at < length events → event ≡ slice_index_or events at other → slice_get (events_of events) at ≡ Some (event_of event)
event_at [] at other event inside is = absurd (omega arith)
event_at (first ∷ events) zero other event inside is = ap (λ e. Some (event_of e)) (sym is)
event_at (first ∷ events) (suc at) other event inside is = event_at events at other event (omega arith) is

one_more : {A : Type 0} → (xs : List A) (at : ℕ) (x : A) → slice_get xs at ≡ Some x → take (suc at) xs ≡ take at xs ++ x ∷ []
one_more [] at x e = absurd cc
one_more (first ∷ xs) zero x e = let same : first ≡ x = cc in ap (λ y. y ∷ []) same
one_more (first ∷ xs) (suc at) x e = ap (λ ys. first ∷ ys) (one_more xs at x e)

cut_at : {A : Type 0} → (xs : List A) (at : ℕ) (x : A) → slice_get xs at ≡ Some x → xs ≡ take at xs ++ x ∷ drop (suc at) xs
cut_at [] at x e = absurd cc
cut_at (first ∷ xs) zero x e = let same : first ≡ x = cc in ap (λ y. y ∷ xs) same
cut_at (first ∷ xs) (suc at) x e = ap (λ ys. first ∷ ys) (cut_at xs at x e)

in_replicate : {A : Type 0} → (n : ℕ) (x : A) (k : ℕ) (y : A) → slice_get (replicate n x) k ≡ Some y → (k < n) × (y ≡ x)
in_replicate zero x k y e = absurd cc
in_replicate (suc n) x zero y e = (omega arith, cc)
in_replicate (suc n) x (suc k) y e = let r = in_replicate n x k y e in (omega (arith, r.0), r.1)

-- what stands at a place of a list that was filled
abbrev Stands : {A : Type 0} → List A → ℕ → A → ℕ → A → Type 0
Stands xs n x k y = (slice_get xs k ≡ Some y) ⊎ ((length xs ≤ k) × (k < length xs + n) × (y ≡ x))

onward : {A : Type 0} → (first : A) (xs : List A) (n : ℕ) (x : A) (k : ℕ) (y : A) → Stands xs n x k y → Stands (first ∷ xs) n x (suc k) y
onward first xs n x k y (inl e) = inl e
onward first xs n x k y (inr (low, high, is)) = inr (omega (arith, low), omega (arith, high), is)

in_filled : {A : Type 0} → (xs : List A) (n : ℕ) (x : A) (k : ℕ) (y : A) → slice_get (xs ++ replicate n x) k ≡ Some y → Stands xs n x k y
in_filled [] n x k y e = let r = in_replicate n x k y e in inr (omega arith, omega (arith, r.0), r.1)
in_filled (first ∷ xs) n x zero y e = inl e
in_filled (first ∷ xs) n x (suc k) y e = onward first xs n x k y (in_filled xs n x k y e)

one_longer : {A : Type 0} → (n : ℕ) (x : A) → replicate n x ++ x ∷ [] ≡ replicate (suc n) x
one_longer zero x = refl
one_longer (suc n) x = ap (λ ys. x ∷ ys) (one_longer n x)

-- a list that is filled up to a place
pub record IsFilled (xs ys : List (Option Reason)) (count at : ℕ) (x : Option Reason) : Type 0 where
  pub begins : length xs ≤ at
  pub ends : at ≤ max (length xs) count
  pub is : ys ≡ xs ++ replicate (at - length xs) x

pub filled_on : (xs ys zs : List (Option Reason)) (count at : ℕ) (x : Option Reason) → IsFilled xs ys count at x → at < count → zs ≡ ys ++ x ∷ [] → IsFilled xs zs count (at + 1) x
filled_on xs ys zs count at x filled below more =
    let begins : length xs ≤ at = filled.begins in
    let n : ℕ = at - length xs in
    let next : suc n ≡ at + 1 - length xs = omega (arith, begins) in record {
      begins = omega (arith, begins);
      ends = omega (arith, below);
      is =
          more
          ∙ ap (λ (rs : List (Option Reason)). rs ++ x ∷ []) filled.is
          ∙ append_assoc xs (replicate n x) (x ∷ [])
          ∙ ap (λ (rs : List (Option Reason)). xs ++ rs) (one_longer n x ∙ ap (λ (k : ℕ). replicate k x) next);
    }

pub filled_up : (xs ys : List (Option Reason)) (count at : ℕ) (x : Option Reason) → IsFilled xs ys count at x → count ≤ at → ys ≡ xs ++ replicate (count - length xs) x
filled_up xs ys count at x filled past =
    let begins : length xs ≤ at = filled.begins in
    let ends : at ≤ max (length xs) count = filled.ends in
    let same : at - length xs ≡ count - length xs = omega (arith, begins, ends, past) in
    filled.is ∙ ap (λ (k : ℕ). xs ++ replicate k x) same

-- ---- runs

run_on : (events : List Event) (event : Event) (old mid new : State) → AdmittedRun old events mid → Admits mid event new → AdmittedRun old (events ++ event ∷ []) new
run_on [] event old mid new r s = (new, subst (λ w. Admits w event new) r s, refl)
run_on (first ∷ events) event old mid new r s = (r.0, r.1, run_on events event r.0 mid new r.2 s)

grows : SentGrows → (old new : State) (event : Event) → Admits old event new → length old.sent ≤ length new.sent
grows law old new event step = law old new (event ∷ []) (new, step, refl)

-- ---- as far as the events have come

pub record SoFar (setup : Setup) (events : List Event) (at : ℕ) (world : State) (reasons : List (Option Reason)) : Type 0 where
  pub run : AdmittedRun (opening_state setup) (take at events) world
  pub long : length reasons ≡ length world.sent
  pub each : (number : ℕ) (r : Option Reason) → slice_get reasons number ≡ Some r → Answers setup events number r

none_is : (y : Option Reason) → None ≡ Some y → ⊥
none_is y e = cc

pub begins : (setup : Setup) (events : List Event) (world : State) (reasons : List (Option Reason)) → world ≡ opening_state setup → reasons ≡ [] → SoFar setup events 0 world reasons
begins setup events world reasons is none = record {
  run = is;
  long = ap (λ (rs : List (Option Reason)). length rs) none ∙ sym (ap (λ (w : State). length w.sent) is);
  each = λ number r e. absurd (none_is r (sym (ap (λ (rs : List (Option Reason)). slice_get rs number) none) ∙ e));
}

-- a datagram that an event sends
answers : (setup : Setup) (events : List Event) (at : ℕ) (event : Event) (old new : State) (r : Option Reason) (number : ℕ) → slice_get events at ≡ Some event
    → AdmittedRun (opening_state setup) (take at events) old → Admits old event new → HasReason old event r → length old.sent ≤ number → number < length new.sent
    → Answers setup events number r
answers setup events at event old new r number there run step has low high = record {
  before = take at events;
  event = event;
  later = drop (suc at) events;
  world = old;
  next = new;
  all_are = cut_at events at event there;
  run = run;
  step = step;
  begins = low;
  ends = high;
  reason_is = has;
}

each_next : (setup : Setup) (events : List Event) (at : ℕ) (event : Event) (old new : State) (r : Option Reason) (reasons : List (Option Reason)) → SoFar setup events at old reasons
    → slice_get events at ≡ Some event → Admits old event new → HasReason old event r → length old.sent ≤ length new.sent
    → (number : ℕ) (other : Option Reason) → Stands reasons (length new.sent - length reasons) r number other → Answers setup events number other
each_next setup events at event old new r reasons so_far there step has more number other (inl e) = so_far.each number other e
each_next setup events at event old new r reasons so_far there step has more number other (inr (low, high, is)) =
    let long : length reasons ≡ length old.sent = so_far.long in
    let begins : length old.sent ≤ number = omega (arith, long, low) in
    let ends : number < length new.sent = omega (arith, long, high, more) in
    subst (λ (o : Option Reason). Answers setup events number o) (sym is) (answers setup events at event old new r number there so_far.run step has begins ends)

pub goes_on : SentGrows → (setup : Setup) (events : List Event) (at : ℕ) (event : Event) (old new : State) (r : Option Reason) (reasons filled : List (Option Reason)) → SoFar setup events at old reasons
    → slice_get events at ≡ Some event → Admits old event new → HasReason old event r → filled ≡ reasons ++ replicate (length new.sent - length reasons) r
    → SoFar setup events (at + 1) new filled
goes_on law setup events at event old new r reasons filled so_far there step has is =
    let n : ℕ = length new.sent - length reasons in
    let more : length old.sent ≤ length new.sent = grows law old new event step in
    let long : length reasons ≡ length old.sent = so_far.long in
    let next : at + 1 ≡ suc at = omega arith in
    let taken : take (at + 1) events ≡ take at events ++ event ∷ [] = ap (λ (k : ℕ). take k events) next ∙ one_more events at event there in
    let whole : length filled ≡ length reasons + n =
    ap (λ (rs : List (Option Reason)). length rs) is ∙ length-append reasons (replicate n r) ∙ ap (λ (k : ℕ). length reasons + k) (length-replicate n r) in record {
      run = subst (λ (es : List Event). AdmittedRun (opening_state setup) es new) (sym taken) (run_on (take at events) event (opening_state setup) old new so_far.run step);
      long = omega (arith, whole, more, long);
      each = λ number other e.
          each_next setup events at event old new r reasons so_far there step has more number other
          (in_filled reasons n r number other (sym (ap (λ (rs : List (Option Reason)). slice_get rs number) is) ∙ e));
    }

-- ---- at the end

pub ends : (setup : Setup) (events : List Event) (at : ℕ) (world : State) (reasons : List (Option Reason)) → SoFar setup events at world reasons → at ≡ length events
    → AreReasons setup events reasons
ends setup events at world reasons so_far all = record {
  count = at;
  world = world;
  run = so_far.run;
  happen = inl all;
  long = so_far.long;
  each = so_far.each;
}

other_refusal : (world : State) (event : Event) (cause : StepError) → IsRefused world event cause → cause ≢ OutOfMemory → refusal_of world event ≡ Some cause
other_refusal world event cause (inl is) other = is
other_refusal world event cause (inr (none, memory, may)) other = absurd (other memory)

pub is_refused : (setup : Setup) (events : List Event) (at : ℕ) (event : Event) (world : State) (cause : StepError) (reasons same : List (Option Reason)) → SoFar setup events at world reasons
    → slice_get events at ≡ Some event → IsRefused world event cause → cause ≢ OutOfMemory → same ≡ reasons → AreReasons setup events same
is_refused setup events at event world cause reasons same so_far there refused other is =
    subst (λ (rs : List (Option Reason)). AreReasons setup events rs) (sym is) (record {
      count = at;
      world = world;
      run = so_far.run;
      happen = inr (event, cause, there, other_refusal world event cause refused other);
      long = so_far.long;
      each = so_far.each;
    })

-- ---- a datagram that comes to a meter

abbrev pub Asks : List ℕ → ℕ → Option Reason → Type 0
Asks bytes running r = (s : Message) × Says ToMeter bytes s × (r ≡ reason_of running s)

pub has_reason : (bytes : List ℕ) (meter : Option Meter) (running : ℕ) (r : Option Reason) → option_map (λ (m : Meter). m.running.name.release) meter ≡ Some running → Asks bytes running r
    → HasReasonAt ToMeter bytes meter r
has_reason bytes None running r e h = absurd cc
has_reason bytes (Some m) running r e (s, says, is) =
    let same : m.running.name.release ≡ running = cc in (s, says, is ∙ ap (λ (n : ℕ). reason_of n s) (sym same))

-- what holds of a value, said otherwise
pub if_ok : {A B : Type 0} (r : Result A B) (P Q : A → Type 0) → ((x : A) → P x → Q x) → IfOk r P → IfOk r Q
if_ok (Ok x) P Q told h = told x h
if_ok (Err e) P Q told h = h
