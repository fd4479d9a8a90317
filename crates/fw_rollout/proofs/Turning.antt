-- What a schedule keeps while one of its links goes on, and no other.
use Rattle.std.proofs.Common.{◌≡◌, ◌≢◌, ◌↔◌, ◌⊎◌, ℕ, zero, suc, ◌+◌, ◌≤◌, ◌<◌, ◌^◌, true, cond, List, [], ◌∷◌, map, get_or, Contains, Option, Some, None, inl, inr, ⊎_elim, refl, sym, ap, subst, ◌∙◌, arith}
use Rattle.std.specs.Prelude.{MatchOption, slice_get, slice_set, sum_by, count_by}
use Rattle.std.specs.declared.net.socket_addr.SocketAddr.{SocketAddr}
use Rattle.std.proofs.lemmas.Bool.{cases_eq}
use Rattle.std.proofs.lemmas.List.Sums.{get_or-le-sum_by, sum_by-set}
use Rattle.std.proofs.lemmas.Option.{get_or_from_slice_get, none-some, same_Some, slice_get_within}
use Rattle.fw_rollout.specs.Link.{IsLiveLink, IsReady, until_of}
use Rattle.fw_rollout.specs.Timing.{most_out}
use Rattle.fw_rollout.specs.Schedule.{GoesOnAt, IsAwaited, IsDueAt, IsLiveAt, IsPlaceOf, IsSchedule, IsWaitingAt, Queues, SameMeters, Turns, Waits, WaitsNoMore, is_live, is_live_turn, links_of, times}
use Rattle.fw_rollout.specs.declared.link.Link.{Link}
use Rattle.fw_rollout.specs.declared.link.Turn.{Turn}
use Rattle.fw_rollout.specs.declared.link.Turn.TheVariants as turns
use Rattle.fw_rollout.specs.declared.schedule.Schedule.{Schedule}
use Rattle.fw_rollout.proofs.Queueing.{Requeues}

-- ---- an item of a list that another takes the place of

pub at_place : {X : Type 0} (xs : List X) (i : ℕ) (x y : X) → slice_get xs i ≡ Some x → slice_get (slice_set xs i y) i ≡ Some y
at_place [] i x y h = absurd (none-some x h)
at_place (z ∷ xs) zero x y h = refl
at_place (z ∷ xs) (suc i) x y h = at_place xs i x y h

pub elsewhere : {X : Type 0} (xs : List X) (i k : ℕ) (y : X) → k ≢ i → slice_get (slice_set xs i y) k ≡ slice_get xs k
elsewhere [] i k y n = refl
elsewhere (x ∷ xs) zero zero y n = absurd (n refl)
elsewhere (x ∷ xs) zero (suc k) y n = refl
elsewhere (x ∷ xs) (suc i) zero y n = refl
elsewhere (x ∷ xs) (suc i) (suc k) y n = elsewhere xs i k y (λ (e : k ≡ i). n (ap suc e))

pub map_kept : {X Y : Type 0} (f : X → Y) (xs : List X) (i : ℕ) (x y : X) → slice_get xs i ≡ Some x → f y ≡ f x → map f (slice_set xs i y) ≡ map f xs
map_kept f [] i x y h e = refl
map_kept f (z ∷ xs) zero x y h e = ap (λ v. v ∷ map f xs) (e ∙ ap f (sym (same_Some z x h)))
map_kept f (z ∷ xs) (suc i) x y h e = ap (λ l. f z ∷ l) (map_kept f xs i x y h e)

pub sum_moved : {X : Type 0} (f : X → ℕ) (xs : List X) (i : ℕ) (x y : X) → slice_get xs i ≡ Some x → sum_by f (slice_set xs i y) + f x ≡ sum_by f xs + f y
sum_moved f xs i x y h =
    subst (λ z. sum_by f (slice_set xs i y) + f z ≡ sum_by f xs + f y) (get_or_from_slice_get xs i x x h) (sum_by-set f xs i y x (slice_get_within xs i x h))

-- where a sum and its count change alike
same_count : (a b c d x y : ℕ) → a ≡ c → b + x ≡ a + y → d + x ≡ c + y → b ≡ d
same_count a b c d x y e f g = omega arith

-- ---- a link that goes on

-- how many live links a link is
abbrev pub one_if_live : Link → ℕ
one_if_live link = cond (is_live link) 1 0

-- the link at a place went on, and all but the times of those that wait fits that
pub record Moves (place : ℕ) (link next : Link) (old new : Schedule) : Type 0 where
  pub was : slice_get (links_of old) place ≡ Some link
  pub links : links_of new ≡ slice_set (links_of old) place next
  pub timing : new.timing ≡ old.timing
  pub places : new.places ≡ old.places
  pub same_at : next.at ≡ link.at
  pub out : new.out + link.out ≡ old.out + next.out
  pub within : new.out ≤ most_out new.timing.flight
  pub live : new.live + one_if_live link ≡ old.live + one_if_live next
  pub awaited : IsAwaited next.turn ⊎ (next.out ≡ 0)

-- and so do those
pub record Rewaits (place : ℕ) (next : Link) (old new : Schedule) : Type 0 where
  pub here : (until : ℕ) → Contains new.waiting.keys (until, place) ↔ (until_of next.turn ≡ Some until)
  pub others : (other until : ℕ) → other ≢ place → Contains new.waiting.keys (until, other) ↔ Contains old.waiting.keys (until, other)

is_next : (place : ℕ) (link next : Link) (old new : Schedule) → Moves place link next old new → slice_get (links_of new) place ≡ Some next
is_next place link next old new t =
    subst (λ (l : List Link). slice_get l place ≡ Some next) (sym t.links) (at_place (links_of old) place link next t.was)

is_other : (place : ℕ) (link next : Link) (old new : Schedule) → Moves place link next old new → (other : ℕ) → other ≢ place → slice_get (links_of new) other ≡ slice_get (links_of old) other
is_other place link next old new t other n =
    subst (λ (l : List Link). slice_get l other ≡ slice_get (links_of old) other) (sym t.links) (elsewhere (links_of old) place other next n)

counts_out : (place : ℕ) (link next : Link) (old new : Schedule) → IsSchedule old → Moves place link next old new → new.out ≡ sum_by (λ (l : Link). l.out) (links_of new)
counts_out place link next old new s t =
    same_count old.out new.out (sum_by (λ (l : Link). l.out) (links_of old)) (sum_by (λ (l : Link). l.out) (links_of new)) link.out next.out s.counts_out t.out
    (subst (λ (l : List Link). sum_by (λ (k : Link). k.out) l + link.out ≡ sum_by (λ (k : Link). k.out) (links_of old) + next.out) (sym t.links)
    (sum_moved (λ (k : Link). k.out) (links_of old) place link next t.was))

counts_live : (place : ℕ) (link next : Link) (old new : Schedule) → IsSchedule old → Moves place link next old new → new.live ≡ count_by is_live (links_of new)
counts_live place link next old new s t =
    same_count old.live new.live (count_by is_live (links_of old)) (count_by is_live (links_of new)) (one_if_live link) (one_if_live next) s.counts_live t.live
    (subst (λ (l : List Link). sum_by one_if_live l + one_if_live link ≡ sum_by one_if_live (links_of old) + one_if_live next) (sym t.links)
    (sum_moved one_if_live (links_of old) place link next t.was))

awaited : (place : ℕ) (link next : Link) (old new : Schedule) → IsSchedule old → Moves place link next old new
    → (other : ℕ) (l : Link) → slice_get (links_of new) other ≡ Some l → IsAwaited l.turn ⊎ (l.out ≡ 0)
awaited place link next old new s t other l is = ⊎_elim
    (λ (e : other ≡ place).
    let here : slice_get (links_of new) place ≡ Some l = subst (λ (n : ℕ). slice_get (links_of new) n ≡ Some l) e is in
    subst (λ (k : Link). IsAwaited k.turn ⊎ (k.out ≡ 0)) (same_Some next l (sym (is_next place link next old new t) ∙ here)) t.awaited)
    (λ (n : other ≢ place). s.awaited other l (sym (is_other place link next old new t other n) ∙ is))
    (cases_eq other place)

waits_at : (place : ℕ) (link next : Link) (old new : Schedule) → Moves place link next old new → Rewaits place next old new
    → (until : ℕ) → Contains new.waiting.keys (until, place) ↔ IsWaitingAt (links_of new) place until
waits_at place link next old new t w until = (
  λ (h : Contains new.waiting.keys (until, place)). (next, is_next place link next old new t, (w.here until).0 h),
  λ (i : IsWaitingAt (links_of new) place until).
      (w.here until).1 (subst (λ (k : Link). until_of k.turn ≡ Some until) (same_Some i.0 next (sym i.1 ∙ is_next place link next old new t)) i.2),
)

waits_elsewhere : (place : ℕ) (link next : Link) (old new : Schedule) → IsSchedule old → Moves place link next old new → Rewaits place next old new
    → (other until : ℕ) → other ≢ place → Contains new.waiting.keys (until, other) ↔ IsWaitingAt (links_of new) other until
waits_elsewhere place link next old new s t w other until n =
    let same = is_other place link next old new t other n in (
      λ (h : Contains new.waiting.keys (until, other)).
          let i = (s.waits other until).0 ((w.others other until n).0 h) in (i.0, same ∙ i.1, i.2),
      λ (i : IsWaitingAt (links_of new) other until).
          (w.others other until n).1 ((s.waits other until).1 (i.0, sym same ∙ i.1, i.2)),
    )

waits : (place : ℕ) (link next : Link) (old new : Schedule) → IsSchedule old → Moves place link next old new → Rewaits place next old new
    → (other until : ℕ) → Contains new.waiting.keys (until, other) ↔ IsWaitingAt (links_of new) other until
waits place link next old new s t w other until = ⊎_elim
    (λ (e : other ≡ place). subst (λ (n : ℕ). Contains new.waiting.keys (until, n) ↔ IsWaitingAt (links_of new) n until) (sym e)
    (waits_at place link next old new t w until))
    (λ (n : other ≢ place). waits_elsewhere place link next old new s t w other until n)
    (cases_eq other place)

-- a link that goes on keeps its address
address_kept : (xs : List Link) (place : ℕ) (link next : Link) → slice_get xs place ≡ Some link → next.at ≡ link.at → (address : SocketAddr) (other : ℕ)
    → IsPlaceOf (slice_set xs place next) address other ↔ IsPlaceOf xs address other
address_kept xs place link next is same address other = ⊎_elim
    (λ (e : other ≡ place). subst (λ (n : ℕ). IsPlaceOf (slice_set xs place next) address n ↔ IsPlaceOf xs address n) (sym e) (
      λ (p : IsPlaceOf (slice_set xs place next) address place).
          (link, is, ap (λ a. a.address) (sym same) ∙ (ap (λ (l : Link). l.at.address) (same_Some next p.0 (sym (at_place xs place link next is) ∙ p.1)) ∙ p.2)),
      λ (p : IsPlaceOf xs address place).
          (next, at_place xs place link next is, ap (λ a. a.address) same ∙ (ap (λ (l : Link). l.at.address) (same_Some link p.0 (sym is ∙ p.1)) ∙ p.2)),
    ))
    (λ (n : other ≢ place). (
      λ (p : IsPlaceOf (slice_set xs place next) address other). (p.0, sym (elsewhere xs place other next n) ∙ p.1, p.2),
      λ (p : IsPlaceOf xs address other). (p.0, elsewhere xs place other next n ∙ p.1, p.2),
    ))
    (cases_eq other place)

addressed : (place : ℕ) (link next : Link) (old new : Schedule) → IsSchedule old → Moves place link next old new
    → (address : SocketAddr) (other : ℕ) → Contains new.places.entries (address, other) ↔ IsPlaceOf (links_of new) address other
addressed place link next old new s t address other =
    let kept = address_kept (links_of old) place link next t.was t.same_at address other in
    let was = s.addressed address other in (
      λ (h : Contains new.places.entries (address, other)).
          subst (λ (l : List Link). IsPlaceOf l address other) (sym t.links) (kept.1 (was.0 (subst (λ m. Contains m.entries (address, other)) t.places h))),
      λ (p : IsPlaceOf (links_of new) address other).
          subst (λ m. Contains m.entries (address, other)) (sym t.places) (was.1 (kept.0 (subst (λ (l : List Link). IsPlaceOf l address other) t.links p))),
    )

queue : (place : ℕ) (link next : Link) (old new : Schedule) → IsSchedule old → Moves place link next old new → Requeues place next old new
    → (other : ℕ) → Queues (slice_get (links_of new) other) (times other new.ready.items)
queue place link next old new s t q other = ⊎_elim
    (λ (e : other ≡ place). subst (λ (n : ℕ). Queues (slice_get (links_of new) n) (times n new.ready.items)) (sym e)
    (subst (λ (o : Option Link). Queues o (times place new.ready.items)) (sym (is_next place link next old new t)) q.here))
    (λ (n : other ≢ place). subst (λ (k : ℕ). Queues (slice_get (links_of new) other) k) (sym (q.others other n))
    (subst (λ (o : Option Link). Queues o (times other old.ready.items)) (sym (is_other place link next old new t other n)) (s.queue other)))
    (cases_eq other place)

pub turned : (place : ℕ) (link next : Link) (old new : Schedule) → IsSchedule old → Moves place link next old new → Rewaits place next old new → Requeues place next old new → IsSchedule new
turned place link next old new s t w q = record {
  flight_fits = subst (λ m. m.flight < 2 ^ 64) (sym t.timing) s.flight_fits;
  counts_live = counts_live place link next old new s t;
  counts_out = counts_out place link next old new s t;
  within = t.within;
  awaited = awaited place link next old new s t;
  waits = waits place link next old new s t w;
  addressed = addressed place link next old new s t;
  queue = queue place link next old new s t q;
}

-- ---- how the times of those that wait change

is_of_link : (place until : ℕ) (link : Link) (old : Schedule) → slice_get (links_of old) place ≡ Some link → IsWaitingAt (links_of old) place until → until_of link.turn ≡ Some until
is_of_link place until link old was i = subst (λ (k : Link). until_of k.turn ≡ Some until) (same_Some i.0 link (sym i.1 ∙ was)) i.2

-- the link stays as it waits
pub as_before : (place : ℕ) (link next : Link) (old new : Schedule) → IsSchedule old → slice_get (links_of old) place ≡ Some link → until_of next.turn ≡ until_of link.turn
    → new.waiting ≡ old.waiting → Rewaits place next old new
as_before place link next old new s was same e = record {
  here = λ until. (
    λ (h : Contains new.waiting.keys (until, place)).
        same ∙ is_of_link place until link old was ((s.waits place until).0 (subst (λ m. Contains m.keys (until, place)) e h)),
    λ (h : until_of next.turn ≡ Some until).
        subst (λ m. Contains m.keys (until, place)) (sym e) ((s.waits place until).1 (link, was, sym same ∙ h)),
  );
  others = λ other until n. (
    λ (h : Contains new.waiting.keys (until, other)). subst (λ m. Contains m.keys (until, other)) e h,
    λ (h : Contains old.waiting.keys (until, other)). subst (λ m. Contains m.keys (until, other)) (sym e) h,
  );
}

-- its time is taken out, and another put in
pub by_calls : (place : ℕ) (link next : Link) (old first middle new : Schedule) → IsSchedule old → slice_get (links_of old) place ≡ Some link → first.waiting ≡ old.waiting
    → WaitsNoMore place (until_of link.turn) first middle → Waits place (until_of next.turn) middle new → Rewaits place next old new
by_calls place link next old first middle new s was e out put = record {
  here = λ until. (
    λ (h : Contains new.waiting.keys (until, place)). ⊎_elim
        (λ (i : (place ≡ place) × (until_of next.turn ≡ Some until)). i.1)
        (λ (i : Contains middle.waiting.keys (until, place)).
        let left = (out.waits place until).0 i in
        absurd (left.0 (refl, is_of_link place until link old was ((s.waits place until).0 (subst (λ m. Contains m.keys (until, place)) e left.1)))))
        ((put.waits place until).0 h),
    λ (h : until_of next.turn ≡ Some until). (put.waits place until).1 (inl (refl, h)),
  );
  others = λ other until n. (
    λ (h : Contains new.waiting.keys (until, other)). ⊎_elim
        (λ (i : (other ≡ place) × (until_of next.turn ≡ Some until)). absurd (n i.0))
        (λ (i : Contains middle.waiting.keys (until, other)). subst (λ m. Contains m.keys (until, other)) e ((out.waits other until).0 i).1)
        ((put.waits other until).0 h),
    λ (h : Contains old.waiting.keys (until, other)).
        (put.waits other until).1 (inr ((out.waits other until).1 (
          λ (i : (other ≡ place) × (until_of link.turn ≡ Some until)). n i.0,
          subst (λ m. Contains m.keys (until, other)) (sym e) h,
        ))),
  );
}

-- it didn't wait
pub no_time : (place : ℕ) (was : Option ℕ) (s : Schedule) → was ≡ None → WaitsNoMore place was s s
no_time place was s e = record {
  others = refl;
  waits = λ other time. (
    λ (h : Contains s.waiting.keys (time, other)). (λ (i : (other ≡ place) × (was ≡ Some time)). none-some time (sym e ∙ i.1), h),
    λ (h : (¬ ((other ≡ place) × (was ≡ Some time))) × Contains s.waiting.keys (time, other)). h.1,
  );
}

-- it doesn't wait
pub no_new_time : (place : ℕ) (until : Option ℕ) (s : Schedule) → until ≡ None → Waits place until s s
no_new_time place until s e = record {
  others = refl;
  waits = λ other time. (
    λ (h : Contains s.waiting.keys (time, other)). inr h,
    λ (h : ((other ≡ place) × (until ≡ Some time)) ⊎ Contains s.waiting.keys (time, other)). ⊎_elim
        (λ (i : (other ≡ place) × (until ≡ Some time)). absurd (none-some time (sym e ∙ i.1)))
        (λ (i : Contains s.waiting.keys (time, other)). i) h,
  );
}

-- the times are all that these calls change
pub rest_kept : (place : ℕ) (was until : Option ℕ) (first middle new : Schedule) → WaitsNoMore place was first middle → Waits place until middle new
    → new ≡ record first { waiting = new.waiting }
rest_kept place was until first middle new out put = put.others ∙ ap (λ (s : Schedule). record s { waiting = new.waiting }) out.others

pub moves_by : (place : ℕ) (link next : Link) (old first last new : Schedule) → new ≡ record first { waiting = last.waiting; ready = last.ready } → Moves place link next old first → Moves place link next old new
moves_by place link next old first last new e m = subst (λ (s : Schedule). Moves place link next old s) (sym e) (record {
  was = m.was;
  links = m.links;
  timing = m.timing;
  places = m.places;
  same_at = m.same_at;
  out = m.out;
  within = m.within;
  live = m.live;
  awaited = m.awaited;
})

pub waited : (place : ℕ) (was until : Option ℕ) (link next : Link) (old first middle new : Schedule) → IsSchedule old → Moves place link next old first → first.waiting ≡ old.waiting
    → was ≡ until_of link.turn → until ≡ until_of next.turn → WaitsNoMore place was first middle → Waits place until middle new → Requeues place next old new → IsSchedule new
waited place was until link next old first middle new s m same e f out put q =
    turned place link next old new s
    (moves_by place link next old first (record first { waiting = new.waiting }) new (rest_kept place was until first middle new out put) m)
    (by_calls place link next old first middle new s m.was same
    (subst (λ (u : Option ℕ). WaitsNoMore place u first middle) e out) (subst (λ (u : Option ℕ). Waits place u middle new) f put))
    q

-- the times and the queue are all that a turn changes
pub turn_kept : (place : ℕ) (was until : Option ℕ) (first new : Schedule) → Turns place was until first new → new ≡ record first { waiting = new.waiting; ready = new.ready }
turn_kept place was until first new t =
    let rest : t.last ≡ record first { waiting = t.last.waiting } = rest_kept place was until first t.middle t.last t.waits_no_more t.waits in
    let e : new ≡ record first { waiting = t.last.waiting; ready = new.ready } = t.others ∙ ap (λ (s : Schedule). record s { ready = new.ready }) rest in
    let w : t.last.waiting ≡ new.waiting = sym (ap (λ (s : Schedule). s.waiting) t.others) in
    e ∙ ap (λ x. record first { waiting = x; ready = new.ready }) w

pub turned_on : (place : ℕ) (was until : Option ℕ) (link next : Link) (old first new : Schedule) → IsSchedule old → Moves place link next old first → first.waiting ≡ old.waiting
    → was ≡ until_of link.turn → until ≡ until_of next.turn → Turns place was until first new → Requeues place next old new → IsSchedule new
turned_on place was until link next old first new s m same e f t q =
    let w = by_calls place link next old first t.middle t.last s m.was same
    (subst (λ (u : Option ℕ). WaitsNoMore place u first t.middle) e t.waits_no_more) (subst (λ (u : Option ℕ). Waits place u t.middle t.last) f t.waits) in
    let k : new.waiting ≡ t.last.waiting = ap (λ (x : Schedule). x.waiting) t.others in
    turned place link next old new s (moves_by place link next old first new new (turn_kept place was until first new t) m)
    (record {
      here = λ until. subst (λ m. Contains m.keys (until, place) ↔ (until_of next.turn ≡ Some until)) (sym k) (w.here until);
      others = λ other until n. subst (λ m. Contains m.keys (until, other) ↔ Contains old.waiting.keys (until, other)) (sym k) (w.others other until n);
    })
    q

-- ---- what is known of each link

pub out_of_link : (place : ℕ) (link : Link) (old : Schedule) → IsSchedule old → slice_get (links_of old) place ≡ Some link → link.out ≤ old.out
out_of_link place link old s was =
    let at : get_or (links_of old) place link ≡ link = get_or_from_slice_get (links_of old) place link link was in
    subst (λ n. link.out ≤ n) (sym s.counts_out) (subst (λ (l : Link). l.out ≤ sum_by (λ (k : Link). k.out) (links_of old)) at
    (get_or-le-sum_by (λ (k : Link). k.out) (links_of old) place link (slice_get_within (links_of old) place link was)))

pub live_of_link : (place : ℕ) (link : Link) (old : Schedule) → IsSchedule old → slice_get (links_of old) place ≡ Some link → one_if_live link ≤ old.live
live_of_link place link old s was =
    let at : get_or (links_of old) place link ≡ link = get_or_from_slice_get (links_of old) place link link was in
    subst (λ n. one_if_live link ≤ n) (sym s.counts_live) (subst (λ (l : Link). one_if_live l ≤ sum_by one_if_live (links_of old)) at
    (get_or-le-sum_by one_if_live (links_of old) place link (slice_get_within (links_of old) place link was)))

pub live_true : (turn : Turn) → turn ≢ turns.Over → is_live_turn turn ≡ true
live_true turns.Over h = absurd (h refl)
live_true turns.Ready h = refl
live_true (turns.Awaited until) h = refl
live_true (turns.Silent until) h = refl
live_true (turns.Paused until) h = refl

pub live_over : (turn : Turn) → is_live_turn turn ≡ true → turn ≢ turns.Over
live_over turns.Over h = absurd (cc h)
live_over turns.Ready h = λ e. cc
live_over (turns.Awaited until) h = λ e. cc
live_over (turns.Silent until) h = λ e. cc
live_over (turns.Paused until) h = λ e. cc

pub not_out : (turn : Turn) (out : ℕ) → IsAwaited turn ⊎ (out ≡ 0) → turn ≡ turns.Ready → out ≡ 0
not_out turn out either is = ⊎_elim (λ (a : IsAwaited turn). absurd (subst IsAwaited is a)) (λ (e : out ≡ 0). e) either

-- ---- what the meters are after a link went on

pub same_meters : (place : ℕ) (link next : Link) (old new : Schedule) → slice_get (links_of old) place ≡ Some link → links_of new ≡ slice_set (links_of old) place next
    → new.timing ≡ old.timing → next.at ≡ link.at → is_live next ≡ is_live link → SameMeters old new
same_meters place link next old new was links timing same_at same_live = record {
  timing = timing;
  listed = ap (λ (l : List Link). map (λ (k : Link). k.at) l) links ∙ map_kept (λ (k : Link). k.at) (links_of old) place link next was same_at;
  lives = ap (λ (l : List Link). map is_live l) links ∙ map_kept is_live (links_of old) place link next was same_live;
}

-- ---- a link that goes on, and no other

pub goes_on_at : (place : ℕ) (goes : Link → Link → Type 0) (link next : Link) (old new : Schedule) → slice_get (links_of old) place ≡ Some link → goes link next
    → links_of new ≡ slice_set (links_of old) place next → new.timing ≡ old.timing → GoesOnAt place goes old new
goes_on_at place goes link next old new was g links timing = record {
  timing = timing;
  there = subst (λ (o : Option Link). MatchOption o (links_of new ≡ links_of old) (λ (l : Link). (n : Link) × goes l n × (links_of new ≡ slice_set (links_of old) place n))) (sym was)
      (next, g, links);
}

-- the link at a place is what was found there
pub is_live_there : (place : ℕ) (link : Link) (old : Schedule) → slice_get (links_of old) place ≡ Some link → IsLiveAt old place → IsLiveLink link
is_live_there place link old was live = subst IsLiveLink (same_Some live.0 link (sym live.1 ∙ was)) live.2

pub is_due_there : (place : ℕ) (link : Link) (old : Schedule) → slice_get (links_of old) place ≡ Some link → IsDueAt old place → IsReady link
is_due_there place link old was due = subst IsReady (same_Some due.0 link (sym due.1 ∙ was)) due.2

-- ---- one call after another

pub same_then : (a b c : Schedule) → SameMeters a b → SameMeters b c → SameMeters a c
same_then a b c f g = record {
  timing = g.timing ∙ f.timing;
  listed = g.listed ∙ f.listed;
  lives = g.lives ∙ f.lives;
}

-- what waits until some time is live
pub waiting_lives : (place until : ℕ) (s : Schedule) → IsSchedule s → Contains s.waiting.keys (until, place) → IsLiveAt s place
waiting_lives place until s i has =
    let w = (i.waits place until).0 has in
    (w.0, w.1, λ (e : w.0.turn ≡ turns.Over). none-some until (ap until_of (sym e) ∙ w.2))
