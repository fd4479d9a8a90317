-- Runs that nothing refuses: what they keep, and how they follow one another.
use Rattle.std.proofs.Common.{◌≡◌, ℕ, zero, suc, ◌+◌, ◌<◌, ◌≤◌, length, slice_get, slice_index_or, drop, take, arith, List, [], ◌∷◌, ◌++◌, map, Some, inl, inr, Result, Ok, Err, refl, sym, ap, subst, ◌∙◌, append_assoc}
use Rattle.std.proofs.lemmas.List.{append-nil, drop_all, drop_more, get_or-map, length-map, take_all}
use Rattle.std.specs.List.{AllZip}
use Rattle.std.specs.Prelude.{OnOk, OnErr, IfErr, IsErrAnd}
use Rattle.fw_world.specs.declared.error.StepError.{StepError}
use Rattle.fw_world.specs.declared.error.StepError.TheVariants.{OutOfMemory}
use Rattle.fw_world.specs.declared.event.Event.{Event as Given}
use Rattle.fw_world.specs.declared.runs.RunError.TheVariants as stopped
use Rattle.fw_world.specs.declared.setup.Setup.{Setup}
use Rattle.fw_world.specs.Refusals.{IsRefused}
use Rattle.fw_world.specs.Runs.{events_of}
use Rattle.fw_world.specs.Setup.{opening_state}
use Rattle.fw_world.specs.State.{State}
use Rattle.fw_world.specs.Step.{Event}
use Rattle.fw_world.specs.View.{event_of}
use Rattle.fw_air.specs.declared.fates.Fate.{Fate}
use Rattle.fw_air.specs.Private.{Recorded, Follows, GoesOn, MakesRounds}
use Rattle.fw_air.specs.Rounds.{Admits, AdmittedRun, OneByOne}
use Rattle.fw_air.specs.Schedules.{IsUnscheduled, Runs, ScheduleHasFates, Schedules}

pub run_append : (old mid new : State) (xs ys : List Event) → AdmittedRun old xs mid → AdmittedRun mid ys new → AdmittedRun old (xs ++ ys) new
run_append old mid new [] ys r s = subst (λ (w : State). AdmittedRun w ys new) r s
run_append old mid new (x ∷ xs) ys r s = (r.0, r.1, run_append r.0 mid new xs ys r.2 s)

-- ---- records

pub stays : (r : Recorded) → Follows r [] r
stays r = record { noted = sym (append-nil r.events); run = refl }

pub same_goes_on : (old new : Recorded) → new ≡ old → GoesOn old new
same_goes_on old new e = ([], subst (Follows old []) (sym e) (stays old))

pub follows_on : (a b c : Recorded) (xs ys : List Event) → Follows a xs b → Follows b ys c → Follows a (xs ++ ys) c
follows_on a b c xs ys f g = record {
  noted = g.noted ∙ ap (λ (l : List Event). l ++ ys) f.noted ∙ append_assoc a.events xs ys;
  run = run_append a.world b.world c.world xs ys f.run g.run;
}

pub goes_on : (a b c : Recorded) (xs : List Event) → Follows a xs b → GoesOn b c → GoesOn a c
goes_on a b c xs f g = (xs ++ g.0, follows_on a b c xs g.0 f g.1)

-- ---- one by one

-- if these are left, whatever they lead to is what all of them lead to
abbrev pub Leads : {A : Type 0} → (A → State → List Event → State → Type 0) → List A → State → List A → State → List Event → Type 0
Leads Does all old left now so_far = (events : List Event) (new : State) → OneByOne Does left now events new → OneByOne Does all old (so_far ++ events) new

pub leads_on : {A : Type 0} (Does : A → State → List Event → State → Type 0) (all left rest : List A) (x : A) (old now next : State) (so_far first : List Event) → left ≡ x ∷ rest
    → Leads Does all old left now so_far → Does x now first next → Leads Does all old rest next (so_far ++ first)
leads_on Does all left rest x old now next so_far first is leads does events new others =
    let here : OneByOne Does (x ∷ rest) now (first ++ events) new = (first, events, next, refl, does, others) in
    subst (λ (l : List Event). OneByOne Does all old l new) (sym (append_assoc so_far first events)) (leads (first ++ events) new (subst (λ l. OneByOne Does l now (first ++ events) new) (sym is) here))

pub leads_there : {A : Type 0} (Does : A → State → List Event → State → Type 0) (all left : List A) (old now : State) (so_far : List Event) → left ≡ []
    → Leads Does all old left now so_far → OneByOne Does all old so_far now
leads_there Does all left old now so_far is leads =
    subst (λ (l : List Event). OneByOne Does all old l now) (append-nil so_far) (leads [] now (subst (λ l. OneByOne Does l now [] now) (sym is) (refl, refl)))

-- ---- the end of a call

pub on_ok : {X E : Type 0} (r : Result X E) (P Q : Type 0) → (P → Q) → OnOk r P → OnOk r Q
on_ok (Ok x) P Q f h = f h
on_ok (Err e) P Q f h = h

pub err_has : {X E : Type 0} (r : Result X E) (P : Type 0) → P → OnErr r P
err_has (Ok x) P p = tt
err_has (Err e) P p = p

-- an event happened, or the world is as it was
pub at_last : {X E : Type 0} (r : Result X E) (a b c : Recorded) (xs ys : List Event) → Follows a xs b → OnOk r (Follows b ys c) → OnErr r (c ≡ b) → GoesOn a c
at_last (Ok x) a b c xs ys f ok err = (xs ++ ys, follows_on a b c xs ys f ok)
at_last (Err e) a b c xs ys f ok err = (xs, subst (Follows a xs) (sym err) f)

-- ---- what a loop has left

-- the element of a place, and those after it
pub left_at : {X Y : Type 0} (f : X → Y) (xs : List X) (all : List Y) (i : ℕ) (x : X) → map f xs ≡ all → i < length xs → x ≡ slice_index_or xs i x → drop i all ≡ f x ∷ drop (i + 1) all
left_at f xs all i x e inside is =
    let long : i < length all = let same = ap (λ l. length l) e in omega (arith, same, inside, length-map xs f) in
    let here : slice_index_or all i (f x) ≡ f x = ap (λ l. slice_index_or l i (f x)) (sym e) ∙ get_or-map f xs i x (f x) inside ∙ ap f (sym is) in
    drop_more all i (f x) long ∙ ap (λ y. y ∷ drop (i + 1) all) here

pub none_left : {X Y : Type 0} (f : X → Y) (xs : List X) (all : List Y) (i : ℕ) → map f xs ≡ all → length xs ≤ i → drop i all ≡ []
none_left f xs all i e past = let same = ap (λ l. length l) e in drop_all i all (omega (arith, same, past, length-map xs f))

-- ---- the given events

pub event_at : (events : List Given) (at : ℕ) (other event : Given) → at < length events → event ≡ slice_index_or events at other → slice_get (events_of events) at ≡ Some (event_of event)
event_at [] at other event inside is = absurd (omega arith)
event_at (first ∷ events) zero other event inside is = ap (λ e. Some (event_of e)) (sym is)
event_at (first ∷ events) (suc at) other event inside is = event_at events at other event (omega arith) is

so_long : (given : List Event) (at : ℕ) (event : Event) → slice_get given at ≡ Some event → length (take at given) ≡ at
so_long [] at event e = absurd cc
so_long (first ∷ given) zero event e = refl
so_long (first ∷ given) (suc at) event e = ap suc (so_long given at event e)

one_more : (given : List Event) (at : ℕ) (event : Event) → slice_get given at ≡ Some event → take (at + 1) given ≡ take at given ++ event ∷ []
one_more [] at event e = absurd cc
one_more (first ∷ given) zero event e = let same : first ≡ event = cc in ap (λ x. x ∷ []) same
one_more (first ∷ given) (suc at) event e =
    let next : suc at + 1 ≡ suc (at + 1) = omega arith in
    ap (λ n. take n (first ∷ given)) next ∙ ap (λ xs. first ∷ xs) (one_more given at event e)

pub run_on : (given : List Event) (at : ℕ) (event : Event) (old mid new : State) → slice_get given at ≡ Some event → AdmittedRun old (take at given) mid → Admits mid event new
    → AdmittedRun old (take (at + 1) given) new
run_on given at event old mid new there run step =
    subst (λ es. AdmittedRun old es new) (sym (one_more given at event there)) (run_append old mid new (take at given) (event ∷ []) run (new, step, refl))

pub whole : (given : List Event) (at : ℕ) (old new : State) → length given ≤ at → AdmittedRun old (take at given) new → AdmittedRun old given new
whole given at old new past run = subst (λ es. AdmittedRun old es new) (take_all at given past) run

pub cut_there : (setup : Setup) (given : List Event) (at : ℕ) (event : Event) (old new : State) (cause : StepError) → slice_get given at ≡ Some event → AdmittedRun (opening_state setup) (take at given) old
    → new ≡ old → IsRefused old event cause → IsUnscheduled setup given (stopped.Event at new cause)
cut_there setup given at event old new cause there run same refused =
    let long = so_long given at event there in (
      take at given,
      long,
      subst (AdmittedRun (opening_state setup) (take at given)) (sym same) run,
      inl (
        ap (λ n. take n given) (sym long),
        record { event = event; there = ap (slice_get given) long ∙ there; refused = subst (λ w. IsRefused w event cause) (sym same) refused },
      ),
    )

-- ---- copies

pub same_events : (events copies : List Given) → AllZip (λ event copy. event_of copy ≡ event_of event) events copies → events_of copies ≡ events_of events
same_events [] [] h = refl
same_events [] (copy ∷ copies) h = absurd h
same_events (event ∷ events) [] h = absurd h
same_events (event ∷ events) (copy ∷ copies) h = ap (λ e. e ∷ events_of copies) h.0 ∙ ap (λ es. event_of event ∷ es) (same_events events copies h.1)

-- ---- after the given events

pub scheduled : (setup : Setup) (given : List Event) (rounds : ℕ) (fates : List Fate) (world : State) (list : List Event) (old new : Recorded) → old ≡ record { world = world; events = given } → AdmittedRun (opening_state setup) given world
    → MakesRounds setup rounds fates old new → list ≡ new.events → Schedules setup given rounds list × ScheduleHasFates setup given rounds fates list × Runs setup list
scheduled setup given rounds fates world list old new is run made same =
    let all : list ≡ given ++ made.events = same ∙ made.follows.noted ∙ ap (λ (r : Recorded). r.events ++ made.events) is in
    let before : AdmittedRun (opening_state setup) given old.world = subst (AdmittedRun (opening_state setup) given) (sym (ap (λ (r : Recorded). r.world) is)) run in (
      record { middle = old.world; end = new.world; behind = made.events; begins = all; given_run = before; rounds_run = made.rounds_run },
      record { middle = old.world; end = new.world; behind = made.events; begins = all; given_run = before; rounds_run = made.have_fates },
      (new.world, subst (λ es. AdmittedRun (opening_state setup) es new.world) (sym all) (run_append (opening_state setup) old.world new.world given made.events before made.follows.run)),
    )

pub cut_behind : (setup : Setup) (given : List Event) (number : ℕ) (world : State) (cause : StepError) (old new : Recorded) → old ≡ record { world = world; events = given } → AdmittedRun (opening_state setup) given world
    → GoesOn old new → number ≡ length new.events → cause ≡ OutOfMemory → IsUnscheduled setup given (stopped.Event number new.world cause)
cut_behind setup given number world cause old new is run on long memory =
    let all : new.events ≡ given ++ on.0 = on.1.noted ∙ ap (λ (r : Recorded). r.events ++ on.0) is in
    let before : AdmittedRun (opening_state setup) given old.world = subst (AdmittedRun (opening_state setup) given) (sym (ap (λ (r : Recorded). r.world) is)) run in (
      new.events,
      sym long,
      subst (λ es. AdmittedRun (opening_state setup) es new.world) (sym all) (run_append (opening_state setup) old.world new.world given on.0 before on.1.run),
      inr (on.0, all, memory),
    )

-- ---- what is said of an error

pub refused_by : {X : Type 0} (r : Result X StepError) (error : StepError) (Q : StepError → Type 0) → IsErrAnd r (λ e. e ≡ error) → Q error → IfErr r Q
refused_by (Ok x) error Q h q = tt
refused_by (Err e) error Q h q = subst Q (sym h) q

pub on_err : {X : Type 0} (r : Result X StepError) (P Q : StepError → Type 0) → ((e : StepError) → P e → Q e) → IfErr r P → IfErr r Q
on_err (Ok x) P Q f h = h
on_err (Err e) P Q f h = f e h
