-- What the network did with datagrams, one event after another.
use Rattle.std.proofs.Common.{◌≡◌, ◌≢◌, ◌⊎◌, inl, inr, ℕ, zero, suc, ◌+◌, ◌-◌, ◌^◌, ◌<◌, ◌≤◌, ◌==◌, min, max, take, Bool, true, false, cond, length, replicate, slice_index_or, count_by, nat_lt, arith, List, [], ◌∷◌, ◌++◌, Option, Some, None, refl, sym, ap, subst, ◌∙◌, eq-eqb, ne_eqb, eqb-true, false-eqb}
use Rattle.std.proofs.lemmas.List.{length-replicate, get_or-replicate, get_or-set_same, get_or-set_other, length-set}
use Rattle.std.proofs.lemmas.List.Sums.{sum_by_push, count_by-le-length}
use Rattle.std.specs.List.{list_any}
use Rattle.fw_world.specs.Step.{Event, open_campaign, cancel_campaign, tick, deliver, stop, restart_meter, stop_restart, restart_head, turn}
use Rattle.fw_world.specs.declared.event.Event.{Event as Given}
use Rattle.fw_world.specs.Runs.{events_of}
use Rattle.fw_world.specs.View.{event_of}
use Rattle.fw_report.specs.declared.course.Coming.{Coming}
use Rattle.fw_report.specs.declared.course.Course.{Course}
use Rattle.fw_report.specs.Course.{AreCourses, brings, course_of, stops_in}
use Rattle.fw_report.specs.Private.{coming_in, highest_with, with_coming, with_event, with_one_more}
use Rattle.fw_report.proofs.Late.{IsHighest, highest_goes_on, highest_stays, late_comes, late_stays}

by_test : (a b : ℕ) (t : Bool) → a == b ≡ t → (a ≡ b) ⊎ (a ≢ b)
by_test a b true e = inl (eqb-true a b e)
by_test a b false e = inr (false-eqb a b (sym e))

-- two numbers are the same or not
cases_eq : (a b : ℕ) → (a ≡ b) ⊎ (a ≢ b)
cases_eq a b = by_test a b (a == b) refl

-- that a datagram comes
abbrev pub coming_of : ℕ → Bool → Coming
coming_of number stopped = record { number = number; stopped = stopped }

-- ---- one event

-- what an event says of a datagram: whether it brings it, and whether a meter stops in it
abbrev Says : Event → ℕ → Bool → Bool → Type 0
Says event number came stopped = (brings number event ≡ came) × (stops_in number event ≡ stopped)

brings_it : (event : Event) (coming : Coming) → coming_in event ≡ Some coming → Says event coming.number true coming.stopped
brings_it (deliver k) coming e =
    let is : coming_of k false ≡ coming = cc in
    subst (λ (c : Coming). Says (deliver k) c.number true c.stopped) is (eq-eqb k k refl, refl)
brings_it (stop k calls torn) coming e =
    let is : coming_of k true ≡ coming = cc in
    subst (λ (c : Coming). Says (stop k calls torn) c.number true c.stopped) is (eq-eqb k k refl, eq-eqb k k refl)
brings_it (open_campaign campaign release image meters) coming e = absurd cc
brings_it (cancel_campaign campaign) coming e = absurd cc
brings_it (tick head meter) coming e = absurd cc
brings_it (restart_meter number) coming e = absurd cc
brings_it (stop_restart number calls torn) coming e = absurd cc
brings_it (restart_head number) coming e = absurd cc
brings_it (turn number) coming e = absurd cc

brings_no_other : (event : Event) (coming : Coming) (number : ℕ) → coming_in event ≡ Some coming → number ≢ coming.number → Says event number false false
brings_no_other (deliver k) coming number e other =
    let is : k ≡ coming.number = cc in
    (ne_eqb k number (λ same. other (sym same ∙ is)), refl)
brings_no_other (stop k calls torn) coming number e other =
    let is : k ≡ coming.number = cc in
    let apart = ne_eqb k number (λ same. other (sym same ∙ is)) in (apart, apart)
brings_no_other (open_campaign campaign release image meters) coming number e other = (refl, refl)
brings_no_other (cancel_campaign campaign) coming number e other = (refl, refl)
brings_no_other (tick head meter) coming number e other = (refl, refl)
brings_no_other (restart_meter m) coming number e other = (refl, refl)
brings_no_other (stop_restart m calls torn) coming number e other = (refl, refl)
brings_no_other (restart_head h) coming number e other = (refl, refl)
brings_no_other (turn m) coming number e other = (refl, refl)

brings_none : (event : Event) (number : ℕ) → coming_in event ≡ None → Says event number false false
brings_none (deliver k) number e = absurd cc
brings_none (stop k calls torn) number e = absurd cc
brings_none (open_campaign campaign release image meters) number e = (refl, refl)
brings_none (cancel_campaign campaign) number e = (refl, refl)
brings_none (tick head meter) number e = (refl, refl)
brings_none (restart_meter m) number e = (refl, refl)
brings_none (stop_restart m calls torn) number e = (refl, refl)
brings_none (restart_head h) number e = (refl, refl)
brings_none (turn m) number e = (refl, refl)

-- ---- counts

-- how many pass a test, with one more
counted : (p : Event → Bool) (events : List Event) (event : Event) (b : Bool) → p event ≡ b → count_by p (events ++ event ∷ []) ≡ count_by p events + cond b 1 0
counted p events event b e = sum_by_push (λ x. cond (p x) 1 0) events event ∙ ap (λ (c : Bool). count_by p events + cond c 1 0) e

-- a course with other numbers that are the same
same_course : (a b : Course) → a.times ≡ b.times → a.late ≡ b.late → a.stops ≡ b.stops → a ≡ b
same_course a b e l f =
    ap (λ (n : ℕ). record { times = n; late = a.late; stops = a.stops }) e
    ∙ ap (λ (late : Bool). record { times = b.times; late = late; stops = a.stops }) l
    ∙ ap (λ (n : ℕ). record { times = b.times; late = b.late; stops = n }) f

-- another datagram has the course that it had
stays : (events : List Event) (event : Event) (number : ℕ) → Says event number false false → course_of number events ≡ course_of number (events ++ event ∷ [])
stays events event number (unbrought, none) =
    let times = counted (brings number) events event false unbrought in
    let stops = counted (stops_in number) events event false none in
    let as_often : count_by (brings number) events ≡ count_by (brings number) (events ++ event ∷ []) = omega (arith, times) in
    let as_stopped : count_by (stops_in number) events ≡ count_by (stops_in number) (events ++ event ∷ []) = omega (arith, stops) in
    same_course (course_of number events) (course_of number (events ++ event ∷ [])) as_often
    (late_stays number events event (list_any (brings number) events) refl unbrought) as_stopped

-- a number that is capped is itself where it is far below
capped : (n : ℕ) (b : Bool) → n < 2 ^ 64 - 1 → min (n + cond b 1 0) (2 ^ 64 - 1) ≡ n + cond b 1 0
capped n true h = omega arith
capped n false h = omega arith

-- a datagram that comes has one more
goes_on : (events : List Event) (event : Event) (coming : Coming) (highest : ℕ) → length events < 2 ^ 64 - 1 → Says event coming.number true coming.stopped
    → IsHighest events highest
    → with_one_more (course_of coming.number events) coming.stopped (nat_lt coming.number highest) ≡ course_of coming.number (events ++ event ∷ [])
goes_on events event coming highest few (brought, stopped) highest_is =
    let times = counted (brings coming.number) events event true brought in
    let stops = counted (stops_in coming.number) events event coming.stopped stopped in
    let low : count_by (brings coming.number) events < 2 ^ 64 - 1 = let n = count_by-le-length (brings coming.number) events in omega (arith, n) in
    let small : count_by (stops_in coming.number) events < 2 ^ 64 - 1 = let n = count_by-le-length (stops_in coming.number) events in omega (arith, n) in
    same_course (with_one_more (course_of coming.number events) coming.stopped (nat_lt coming.number highest)) (course_of coming.number (events ++ event ∷ []))
    (capped (count_by (brings coming.number) events) true low ∙ sym times)
    (late_comes coming.number events event (nat_lt coming.number highest) (list_any (brings coming.number) events) refl brought (highest_is coming.number))
    (capped (count_by (stops_in coming.number) events) coming.stopped small ∙ sym stops)

-- ---- tables

pub begins : (count : ℕ) (d : Course) → d ≡ record { times = 0; late = false; stops = 0 } → AreCourses [] count (replicate count d)
begins count d e = record {
  long = length-replicate count d;
  each = λ number other inside. get_or-replicate count number d other inside ∙ e;
}

pub none_comes : (events : List Event) (event : Event) (count : ℕ) (courses : List Course) → coming_in event ≡ None → AreCourses events count courses
    → AreCourses (events ++ event ∷ []) count courses
none_comes events event count courses none are = record {
  long = are.long;
  each = λ number d inside. are.each number d inside ∙ stays events event number (brings_none event number none);
}

comes_at : (events : List Event) (event : Event) (count : ℕ) (courses : List Course) (coming : Coming) (highest : ℕ) → length events < 2 ^ 64 - 1 → coming_in event ≡ Some coming
    → IsHighest events highest → AreCourses events count courses → (number : ℕ) (d : Course) → number < count → (number ≡ coming.number) ⊎ (number ≢ coming.number)
    → slice_index_or (with_coming courses coming highest) number d ≡ course_of number (events ++ event ∷ [])
comes_at events event count courses coming highest few is highest_is are number d inside (inl same) =
    let n : ℕ = coming.number in
    let none : Course = record { times = 0; late = false; stops = 0 } in
    let within : n < length courses = let long = are.long in omega (arith, same, long, inside) in
    let here : n < count = omega (arith, same, inside) in
    ap (λ (k : ℕ). slice_index_or (with_coming courses coming highest) k d) same
    ∙ get_or-set_same courses n (with_one_more (slice_index_or courses n none) coming.stopped (nat_lt n highest)) d within
    ∙ ap (λ (c : Course). with_one_more c coming.stopped (nat_lt n highest)) (are.each n none here)
    ∙ goes_on events event coming highest few (brings_it event coming is) highest_is
    ∙ ap (λ (k : ℕ). course_of k (events ++ event ∷ [])) (sym same)
comes_at events event count courses coming highest few is highest_is are number d inside (inr other) =
    let n : ℕ = coming.number in
    let none : Course = record { times = 0; late = false; stops = 0 } in
    get_or-set_other courses n number (with_one_more (slice_index_or courses n none) coming.stopped (nat_lt n highest)) d other
    ∙ are.each number d inside
    ∙ stays events event number (brings_no_other event coming number is other)

pub one_comes : (events : List Event) (event : Event) (count : ℕ) (courses new : List Course) (coming : Coming) (highest : ℕ) → length events < 2 ^ 64 - 1
    → coming_in event ≡ Some coming → new ≡ with_coming courses coming highest → IsHighest events highest → AreCourses events count courses → AreCourses (events ++ event ∷ []) count new
one_comes events event count courses new coming highest few is new_is highest_is are =
    let none : Course = record { times = 0; late = false; stops = 0 } in
    subst (λ (cs : List Course). AreCourses (events ++ event ∷ []) count cs) (sym new_is) (record {
      long = length-set courses coming.number (with_one_more (slice_index_or courses coming.number none) coming.stopped (nat_lt coming.number highest)) ∙ are.long;
      each = λ number d inside. comes_at events event count courses coming highest few is highest_is are number d inside (cases_eq number coming.number);
    })

-- ---- an event more

taken : (events : List Given) (at : ℕ) (other event : Given) → at < length events → event ≡ slice_index_or events at other
    → events_of (take (suc at) events) ≡ events_of (take at events) ++ event_of event ∷ []
taken [] at other event inside is = absurd (omega arith)
taken (first ∷ events) zero other event inside is = ap (λ (e : Given). event_of e ∷ []) (sym is)
taken (first ∷ events) (suc at) other event inside is = ap (λ (es : List Event). event_of first ∷ es) (taken events at other event (omega arith) is)

few : (events : List Given) (at : ℕ) → length (events_of (take at events)) ≤ at
few [] zero = omega arith
few [] (suc at) = omega arith
few (first ∷ events) zero = omega arith
few (first ∷ events) (suc at) = let n = few events at in omega (arith, n)

-- the courses by the events so far
abbrev pub SoFar : List Event → ℕ → List Course → ℕ → Type 0
SoFar events count courses highest = AreCourses events count courses × IsHighest events highest

by_coming : (events : List Event) (event : Event) (count : ℕ) (courses : List Course) (highest : ℕ) (o : Option Coming) → length events < 2 ^ 64 - 1 → coming_in event ≡ o
    → SoFar events count courses highest → SoFar (events ++ event ∷ []) count (with_event courses highest o) (highest_with highest o)
by_coming events event count courses highest None small is (are, high) = (none_comes events event count courses is are, highest_stays events event highest is high)
by_coming events event count courses highest (Some coming) small is (are, high) = (
  one_comes events event count courses (with_coming courses coming highest) coming highest small is refl high are,
  highest_goes_on events event coming highest (max highest coming.number) is refl high,
)

pub one_more : (events : List Given) (at count : ℕ) (other event : Given) (courses new : List Course) (highest next : ℕ) → at < length events → at < 2 ^ 64 - 1
    → event ≡ slice_index_or events at other → SoFar (events_of (take at events)) count courses highest → new ≡ with_event courses highest (coming_in (event_of event))
    → next ≡ highest_with highest (coming_in (event_of event)) → SoFar (events_of (take (at + 1) events)) count new next
one_more events at count other event courses new highest next inside low is so_far new_is next_is =
    let past : at + 1 ≡ suc at = omega arith in
    let whole : events_of (take (at + 1) events) ≡ events_of (take at events) ++ event_of event ∷ [] =
    ap (λ (k : ℕ). events_of (take k events)) past ∙ taken events at other event inside is in
    let n = few events at in
    let small : length (events_of (take at events)) < 2 ^ 64 - 1 = omega (arith, n, low) in
    let on = by_coming (events_of (take at events)) (event_of event) count courses highest (coming_in (event_of event)) small refl so_far in
    let P : List Event → Type 0 = λ es. SoFar es count new next in
    let Q : List Course → Type 0 = λ cs. SoFar (events_of (take at events) ++ event_of event ∷ []) count cs next in
    let R : ℕ → Type 0 = λ h. SoFar (events_of (take at events) ++ event_of event ∷ []) count (with_event courses highest (coming_in (event_of event))) h in
    subst P (sym whole) (subst Q (sym new_is) (subst R (sym next_is) on))
