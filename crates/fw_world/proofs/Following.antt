-- A run that goes on by an event.
use Rattle.std.proofs.Common.{◌≡◌, ℕ, zero, suc, ◌+◌, ◌<◌, length, slice_index_or, arith, List, [], ◌∷◌, ◌++◌, take, slice_get, Some, refl, sym, ap, subst, ◌∙◌}
use Rattle.fw_world.specs.declared.event.Event.{Event as Given}
use Rattle.fw_world.specs.Step.{Event, RunBy}
use Rattle.fw_world.specs.View.{event_of}
use Rattle.fw_world.specs.Runs.{events_of}

pub run_on : {W : Type 0} (step : W → Event → W → Type 0) (events : List Event) (event : Event) (old mid new : W) → RunBy step old events mid → step mid event new → RunBy step old (events ++ event ∷ []) new
run_on step [] event old mid new r s = (new, subst (λ w. step w event new) r s, refl)
run_on step (first ∷ events) event old mid new r s = (r.0, r.1, run_on step events event r.0 mid new r.2 s)

pub at_index : (events : List Given) (at : ℕ) (other event : Given) → at < length events → event ≡ slice_index_or events at other → slice_get events at ≡ Some event
at_index [] at other event inside is = absurd (omega arith)
at_index (first ∷ events) zero other event inside is = ap Some (sym is)
at_index (first ∷ events) (suc at) other event inside is = at_index events at other event (omega arith) is

one_more : (events : List Given) (at : ℕ) (event : Given) → slice_get events at ≡ Some event → take (at + 1) events ≡ take at events ++ event ∷ []
one_more [] at event e = absurd cc
one_more (first ∷ events) zero event e = let same : first ≡ event = cc in ap (λ x. x ∷ []) same
one_more (first ∷ events) (suc at) event e =
    let next : suc at + 1 ≡ suc (at + 1) = omega arith in
    ap (λ n. take n (first ∷ events)) next ∙ ap (λ xs. first ∷ xs) (one_more events at event e)

mapped : (events : List Given) (event : Given) → events_of (events ++ event ∷ []) ≡ events_of events ++ event_of event ∷ []
mapped [] event = refl
mapped (first ∷ events) event = ap (λ xs. event_of first ∷ xs) (mapped events event)

pub goes_on : {W : Type 0} (step : W → Event → W → Type 0) (events : List Given) (at : ℕ) (event : Given) (old mid new : W) → slice_get events at ≡ Some event
    → RunBy step old (events_of (take at events)) mid → step mid (event_of event) new → RunBy step old (events_of (take (at + 1) events)) new
goes_on step events at event old mid new there r s =
    subst (λ es. RunBy step old es new) (sym (ap events_of (one_more events at event there) ∙ mapped (take at events) event)) (run_on step (events_of (take at events)) (event_of event) old mid new r s)
