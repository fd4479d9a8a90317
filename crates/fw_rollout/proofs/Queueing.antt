-- The queue of the links that may be ticked.
use Rattle.std.proofs.Common.{◌≡◌, ◌≢◌, ℕ, ◌+◌, ◌≤◌, ◌==◌, Bool, true, false, cond, List, [], ◌∷◌, ◌++◌, drop, Option, Some, None, ⊎_elim, refl, sym, ap, subst, ◌∙◌, append-nil, arith}
use Rattle.std.specs.Prelude.{is_some, not, slice_get}
use Rattle.std.proofs.lemmas.Bool.{cases_eq, false≢true, false_from_ne_true}
use Rattle.std.proofs.lemmas.Bool.Decides.{Decides-eqb}
use Rattle.std.proofs.lemmas.List.Sums.{sum_by-cons, sum_by_push}
use Rattle.std.proofs.lemmas.Option.{none-some, same_Some}
use Rattle.fw_rollout.specs.Link.{IsReady, until_of}
use Rattle.fw_rollout.specs.Schedule.{IsDueAt, IsFirst, IsSchedule, Queues, QueuesTurn, links_of, queued_of, times}
use Rattle.fw_rollout.specs.declared.link.Link.{Link}
use Rattle.fw_rollout.specs.declared.link.Turn.{Turn}
use Rattle.fw_rollout.specs.declared.link.Turn.TheVariants as turns
use Rattle.fw_rollout.specs.declared.schedule.Schedule.{Schedule}

-- ---- how often a place stands in a list

one_here : (place : ℕ) → ◌≡◌ {A = ℕ} (cond (place == place) 1 0) 1
one_here place = ap (λ b. cond b 1 0) ((Decides-eqb place place).1 refl)

one_apart : (other place : ℕ) → other ≢ place → ◌≡◌ {A = ℕ} (cond (other == place) 1 0) 0
one_apart other place n = ap (λ b. cond b 1 0) (false_from_ne_true (other == place) (λ e. n ((Decides-eqb other place).0 e)))

and_one : (a b x : ℕ) → a ≡ b + x → x ≡ 1 → a ≡ b + 1
and_one a b x e f = omega arith

and_none : (a b x : ℕ) → a ≡ b + x → x ≡ 0 → a ≡ b
and_none a b x e f = omega arith

before_one : (a b x : ℕ) → a ≡ x + b → x ≡ 1 → a ≡ b + 1
before_one a b x e f = omega arith

before_none : (a b x : ℕ) → a ≡ x + b → x ≡ 0 → a ≡ b
before_none a b x e f = omega arith

pub pushed_here : (place : ℕ) (xs : List ℕ) → times place (xs ++ place ∷ []) ≡ times place xs + 1
pushed_here place xs = and_one _ _ _ (sum_by_push (λ (p : ℕ). cond (place == p) 1 0) xs place) (one_here place)

pub pushed_apart : (other place : ℕ) (xs : List ℕ) → other ≢ place → times other (xs ++ place ∷ []) ≡ times other xs
pushed_apart other place xs n = and_none _ _ _ (sum_by_push (λ (p : ℕ). cond (other == p) 1 0) xs place) (one_apart other place n)

first_here : (place : ℕ) (xs : List ℕ) → times place (place ∷ xs) ≡ times place xs + 1
first_here place xs = before_one _ _ _ (sum_by-cons (λ (p : ℕ). cond (place == p) 1 0) place xs) (one_here place)

first_apart : (other place : ℕ) (xs : List ℕ) → other ≢ place → times other (place ∷ xs) ≡ times other xs
first_apart other place xs n = before_none _ _ _ (sum_by-cons (λ (p : ℕ). cond (other == p) 1 0) place xs) (one_apart other place n)

first_and_rest : (xs : List ℕ) (place : ℕ) → slice_get xs 0 ≡ Some place → xs ≡ place ∷ drop 1 xs
first_and_rest [] place h = absurd (none-some place h)
first_and_rest (x ∷ xs) place h = ap (λ (y : ℕ). y ∷ xs) (same_Some x place h)

taken_here : (place : ℕ) (xs ys : List ℕ) → slice_get xs 0 ≡ Some place → ys ≡ drop 1 xs → times place xs ≡ times place ys + 1
taken_here place xs ys first rest =
    ap (λ (l : List ℕ). times place l) (first_and_rest xs place first ∙ ap (λ (l : List ℕ). place ∷ l) (sym rest)) ∙ first_here place ys

taken_apart : (other place : ℕ) (xs ys : List ℕ) → other ≢ place → slice_get xs 0 ≡ Some place → ys ≡ drop 1 xs → times other ys ≡ times other xs
taken_apart other place xs ys n first rest =
    sym (ap (λ (l : List ℕ). times other l) (first_and_rest xs place first ∙ ap (λ (l : List ℕ). place ∷ l) (sym rest)) ∙ first_apart other place ys n)

queued_apart : (other place : ℕ) (xs : List ℕ) (until : Option ℕ) → other ≢ place → times other (xs ++ queued_of place until) ≡ times other xs
queued_apart other place xs None n = pushed_apart other place xs n
queued_apart other place xs (Some until) n = ap (λ (l : List ℕ). times other l) (append-nil xs)

-- ---- how often a live link does, by the time until which it waits

abbrev ByTime : Option ℕ → ℕ → Type 0
ByTime None n = n ≡ 1
ByTime (Some until) n = n ≡ 0

to_time : (turn : Turn) (n : ℕ) → turn ≢ turns.Over → QueuesTurn turn n → ByTime (until_of turn) n
to_time turns.Over n live h = absurd (live refl)
to_time turns.Ready n live h = h
to_time (turns.Awaited until) n live h = h
to_time (turns.Silent until) n live h = h
to_time (turns.Paused until) n live h = h

from_time : (turn : Turn) (n : ℕ) → turn ≢ turns.Over → ByTime (until_of turn) n → QueuesTurn turn n
from_time turns.Over n live h = absurd (live refl)
from_time turns.Ready n live h = h
from_time (turns.Awaited until) n live h = h
from_time (turns.Silent until) n live h = h
from_time (turns.Paused until) n live h = h

pub waits_live : (turn : Turn) (until : ℕ) → until_of turn ≡ Some until → turn ≢ turns.Over
waits_live turns.Over until e = absurd (none-some until e)
waits_live turns.Ready until e = absurd (none-some until e)
waits_live (turns.Awaited time) until e = λ is. cc
waits_live (turns.Silent time) until e = λ is. cc
waits_live (turns.Paused time) until e = λ is. cc

at_most_one : (turn : Turn) (n : ℕ) → QueuesTurn turn n → n ≤ 1
at_most_one turns.Over n h = h
at_most_one turns.Ready n h = omega arith
at_most_one (turns.Awaited until) n h = omega arith
at_most_one (turns.Silent until) n h = omega arith
at_most_one (turns.Paused until) n h = omega arith

queued_here : (place : ℕ) (xs : List ℕ) (until : Option ℕ) → times place xs ≡ 0 → ByTime until (times place (xs ++ queued_of place until))
queued_here place xs None none = pushed_here place xs ∙ ap (λ n. n + 1) none
queued_here place xs (Some until) none = ap (λ (l : List ℕ). times place l) (append-nil xs) ∙ none

-- ---- a link that goes on

-- the queue has the link as it has to be, and the others as before
pub record Requeues (place : ℕ) (next : Link) (old new : Schedule) : Type 0 where
  pub here : QueuesTurn next.turn (times place new.ready.items)
  pub others : (other : ℕ) → other ≢ place → times other new.ready.items ≡ times other old.ready.items

queue_at : (s : Schedule) (place : ℕ) (link : Link) → IsSchedule s → slice_get (links_of s) place ≡ Some link → QueuesTurn link.turn (times place s.ready.items)
queue_at s place link i was = subst (λ (o : Option Link). Queues o (times place s.ready.items)) was (i.queue place)

-- it waits as before, or may be ticked as before
pub queue_same : (place : ℕ) (link next : Link) (old new : Schedule) → IsSchedule old → slice_get (links_of old) place ≡ Some link → link.turn ≢ turns.Over → next.turn ≢ turns.Over
    → until_of next.turn ≡ until_of link.turn → new.ready.items ≡ old.ready.items → Requeues place next old new
queue_same place link next old new s was live goes same kept = record {
  here = subst (λ (l : List ℕ). QueuesTurn next.turn (times place l)) (sym kept)
      (from_time next.turn (times place old.ready.items) goes
      (subst (λ (o : Option ℕ). ByTime o (times place old.ready.items)) (sym same) (to_time link.turn (times place old.ready.items) live (queue_at old place link s was))));
  others = λ other n. ap (λ (l : List ℕ). times other l) kept;
}

-- it ends
pub queue_over : (place : ℕ) (link next : Link) (old new : Schedule) → IsSchedule old → slice_get (links_of old) place ≡ Some link → next.turn ≡ turns.Over
    → new.ready.items ≡ old.ready.items → Requeues place next old new
queue_over place link next old new s was over kept = record {
  here = subst (λ (t : Turn). QueuesTurn t (times place new.ready.items)) (sym over)
      (subst (λ (l : List ℕ). times place l ≤ 1) (sym kept) (at_most_one link.turn (times place old.ready.items) (queue_at old place link s was)));
  others = λ other n. ap (λ (l : List ℕ). times other l) kept;
}

-- it waited, and waits until another time or stands at the end
pub queue_turned : (place time : ℕ) (until : Option ℕ) (link next : Link) (old new : Schedule) → IsSchedule old → slice_get (links_of old) place ≡ Some link → until_of link.turn ≡ Some time
    → next.turn ≢ turns.Over → until ≡ until_of next.turn → new.ready.items ≡ old.ready.items ++ queued_of place until → Requeues place next old new
queue_turned place time until link next old new s was waited goes is queued =
    let none : times place old.ready.items ≡ 0 =
    subst (λ (o : Option ℕ). ByTime o (times place old.ready.items)) waited
    (to_time link.turn (times place old.ready.items) (waits_live link.turn time waited) (queue_at old place link s was)) in record {
      here = subst (λ (l : List ℕ). QueuesTurn next.turn (times place l)) (sym queued)
          (from_time next.turn _ goes
          (subst (λ (o : Option ℕ). ByTime o (times place (old.ready.items ++ queued_of place until))) is (queued_here place old.ready.items until none)));
      others = λ other n. ap (λ (l : List ℕ). times other l) queued ∙ queued_apart other place old.ready.items until n;
    }

none_left : (a b : ℕ) → a ≡ b + 1 → a ≡ 1 → b ≡ 0
none_left a b e f = omega arith

-- it was the next, and is sent
pub queue_sent : (place time : ℕ) (link next : Link) (old new : Schedule) → IsSchedule old → slice_get (links_of old) place ≡ Some link → IsReady link → next.turn ≡ turns.Awaited time
    → IsFirst old place → new.ready.items ≡ drop 1 old.ready.items → Requeues place next old new
queue_sent place time link next old new s was ready goes first rest = record {
  here = subst (λ (t : Turn). QueuesTurn t (times place new.ready.items)) (sym goes)
      (none_left (times place old.ready.items) (times place new.ready.items) (taken_here place old.ready.items new.ready.items first rest)
      (subst (λ (t : Turn). QueuesTurn t (times place old.ready.items)) ready (queue_at old place link s was)));
  others = λ other n. taken_apart other place old.ready.items new.ready.items n first rest;
}

-- it was the next, and is held
pub queue_held : (place time : ℕ) (link next : Link) (old new : Schedule) → IsSchedule old → slice_get (links_of old) place ≡ Some link → IsReady link → next.turn ≡ turns.Paused time
    → IsFirst old place → new.ready.items ≡ drop 1 old.ready.items → Requeues place next old new
queue_held place time link next old new s was ready goes first rest = record {
  here = subst (λ (t : Turn). QueuesTurn t (times place new.ready.items)) (sym goes)
      (none_left (times place old.ready.items) (times place new.ready.items) (taken_here place old.ready.items new.ready.items first rest)
      (subst (λ (t : Turn). QueuesTurn t (times place old.ready.items)) ready (queue_at old place link s was)));
  others = λ other n. taken_apart other place old.ready.items new.ready.items n first rest;
}

-- ---- the first in the queue has ended

less_turn : (turn : Turn) (n m : ℕ) → turn ≢ turns.Ready → n ≡ m + 1 → QueuesTurn turn n → QueuesTurn turn m
less_turn turns.Over n m off e h = omega arith
less_turn turns.Ready n m off e h = absurd (off refl)
less_turn (turns.Awaited until) n m off e h = omega arith
less_turn (turns.Silent until) n m off e h = omega arith
less_turn (turns.Paused until) n m off e h = omega arith

less_queued : (o : Option Link) (n m : ℕ) → ((link : Link) → o ≡ Some link → ¬ IsReady link) → n ≡ m + 1 → Queues o n → Queues o m
less_queued None n m off e h = omega arith
less_queued (Some link) n m off e h = less_turn link.turn n m (off link refl) e h

queue_left : (place : ℕ) (old new : Schedule) → IsSchedule old → IsFirst old place → ¬ IsDueAt old place → new.ready.items ≡ drop 1 old.ready.items
    → (other : ℕ) → Queues (slice_get (links_of old) other) (times other new.ready.items)
queue_left place old new s first off rest other = ⊎_elim
    (λ (e : other ≡ place). subst (λ (n : ℕ). Queues (slice_get (links_of old) n) (times n new.ready.items)) (sym e)
    (less_queued (slice_get (links_of old) place) (times place old.ready.items) (times place new.ready.items) (λ link is ready. off (link, is, ready))
    (taken_here place old.ready.items new.ready.items first rest) (s.queue place)))
    (λ (n : other ≢ place). subst (λ (k : ℕ). Queues (slice_get (links_of old) other) k) (sym (taken_apart other place old.ready.items new.ready.items n first rest)) (s.queue other))
    (cases_eq other place)

pub popped : (place : ℕ) (old new : Schedule) → IsSchedule old → IsFirst old place → ¬ IsDueAt old place → new ≡ record old { ready = new.ready } → new.ready.items ≡ drop 1 old.ready.items → IsSchedule new
popped place old new s first off same rest =
    let left = queue_left place old new s first off rest in
    subst IsSchedule (sym same) (record {
      flight_fits = s.flight_fits;
      counts_live = s.counts_live;
      counts_out = s.counts_out;
      within = s.within;
      awaited = s.awaited;
      waits = s.waits;
      addressed = s.addressed;
      queue = left;
    })

-- if the queue is empty, no link may be ticked
none_there : (o : Option Link) (link : Link) → Queues o 0 → o ≡ Some link → ¬ IsReady link
none_there None link h is ready = none-some link is
none_there (Some it) link h is ready =
    let e : ◌≡◌ {A = ℕ} 0 1 = subst (λ (t : Turn). QueuesTurn t 0) (ap (λ (l : Link). l.turn) (same_Some it link is) ∙ ready) h in omega arith

pub none_due : (s : Schedule) → IsSchedule s → s.ready.items ≡ [] → (place : ℕ) → ¬ IsDueAt s place
none_due s i empty place due = none_there (slice_get (links_of s) place) due.0 (subst (λ (l : List ℕ). Queues (slice_get (links_of s) place) (times place l)) empty (i.queue place)) due.1 due.2

pub queued_once : (s : Schedule) (place : ℕ) → IsSchedule s → IsDueAt s place → times place s.ready.items ≡ 1
queued_once s place i due = subst (λ (t : Turn). QueuesTurn t (times place s.ready.items)) due.2 (queue_at s place due.0 i due.1)

-- ---- a test of whether there is a time

pub queued_none : (place : ℕ) (until : Option ℕ) (b : Bool) → is_some until ≡ not b → b ≡ true → place ∷ [] ≡ queued_of place until
queued_none place None b e f = refl
queued_none place (Some until) b e f = absurd (false≢true (sym (e ∙ ap not f)))

pub queued_some : (place : ℕ) (until : Option ℕ) (b : Bool) → is_some until ≡ not b → b ≡ false → [] ≡ queued_of place until
queued_some place None b e f = absurd (false≢true (e ∙ ap not f))
queued_some place (Some until) b e f = refl

pub queue_put : (place : ℕ) (until : Option ℕ) (old mid new : List ℕ) → new ≡ mid ++ place ∷ [] → mid ≡ old → place ∷ [] ≡ queued_of place until → new ≡ old ++ queued_of place until
queue_put place until old mid new e kept q = e ∙ ap (λ (l : List ℕ). l ++ place ∷ []) kept ∙ ap (λ (l : List ℕ). old ++ l) q

pub queue_let : (place : ℕ) (until : Option ℕ) (old new : List ℕ) → new ≡ old → [] ≡ queued_of place until → new ≡ old ++ queued_of place until
queue_let place until old new kept q = kept ∙ sym (append-nil old) ∙ ap (λ (l : List ℕ). old ++ l) q
