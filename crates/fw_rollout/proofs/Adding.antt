-- What a schedule keeps where a link is added.
use Rattle.std.proofs.Common.{◌≡◌, ◌≢◌, ◌↔◌, ◌⊎◌, ℕ, zero, suc, ◌+◌, ◌-◌, ◌^◌, ◌≤◌, ◌<◌, Bool, true, false, cond, List, [], ◌∷◌, ◌++◌, length, Contains, Option, Some, None, inl, inr, ⊎_elim, refl, sym, ap, subst, ◌∙◌, arith}
use Rattle.std.specs.Prelude.{if◌then◌else◌, min, slice_get, sum_by, count_by}
use Rattle.std.proofs.lemmas.Bool.{cases_eq, false≢true}
use Rattle.std.specs.declared.net.socket_addr.SocketAddr.{SocketAddr}
use Rattle.std.proofs.lemmas.List.Sums.{sum_by_push}
use Rattle.std.proofs.lemmas.Option.{none-some, same_Some}
use Rattle.fw_rollout.specs.Link.{until_of}
use Rattle.fw_rollout.specs.Timing.{most_out}
use Rattle.fw_rollout.specs.Schedule.{HasAddress, IsAwaited, IsPlaceOf, IsSchedule, IsWaitingAt, Queues, QueuesTurn, is_live, is_live_turn, links_of, times}
use Rattle.fw_rollout.specs.declared.link.Link.{Link}
use Rattle.fw_rollout.specs.declared.link.Listed.{Listed}
use Rattle.fw_rollout.specs.declared.link.Turn.{Turn}
use Rattle.fw_rollout.specs.declared.link.Turn.TheVariants as turns
use Rattle.fw_rollout.specs.declared.schedule.Schedule.{Schedule}
use Rattle.std.specs.List.Sorted.{IsPermutation}
use Rattle.fw_rollout.proofs.Placing.{Entries, PutsPlace, puts_place}
use Rattle.fw_rollout.proofs.Queueing.{pushed_apart, pushed_here}
use Rattle.fw_rollout.proofs.Turning.{one_if_live}

-- ---- one more item

at_front : {X : Type 0} (xs : List X) (y : X) (k : ℕ) (z : X) → slice_get xs k ≡ Some z → slice_get (xs ++ y ∷ []) k ≡ Some z
at_front [] y k z h = absurd (none-some z h)
at_front (x ∷ xs) y zero z h = h
at_front (x ∷ xs) y (suc k) z h = at_front xs y k z h

at_end : {X : Type 0} (xs : List X) (y : X) → slice_get (xs ++ y ∷ []) (length xs) ≡ Some y
at_end [] y = refl
at_end (x ∷ xs) y = at_end xs y

front_or_end : {X : Type 0} (xs : List X) (y : X) (k : ℕ) (z : X) → slice_get (xs ++ y ∷ []) k ≡ Some z → (slice_get xs k ≡ Some z) ⊎ ((k ≡ length xs) × (y ≡ z))
front_or_end [] y zero z h = inr (refl, same_Some y z h)
front_or_end [] y (suc k) z h = absurd (none-some z h)
front_or_end (x ∷ xs) y zero z h = inl h
front_or_end (x ∷ xs) y (suc k) z h = ⊎_elim (λ f. inl f) (λ e. inr (ap suc e.0, e.1)) (front_or_end xs y k z h)

-- ---- one more link

-- the link is new, and the numbers and the places are as they have to be
pub record IsAdded (link : Link) (old new : Schedule) : Type 0 where
  pub links : links_of new ≡ links_of old ++ link ∷ []
  pub timing : new.timing ≡ old.timing
  pub waiting : new.waiting ≡ old.waiting
  pub none_out : link.out ≡ 0
  pub no_time : until_of link.turn ≡ None
  pub out : new.out ≡ old.out
  pub live : new.live ≡ old.live + one_if_live link
  pub places : PutsPlace old.places.entries link.at.address (length (links_of old)) new.places.entries
  pub queue_here : QueuesTurn link.turn (times (length (links_of old)) new.ready.items)
  pub queue_apart : (other : ℕ) → other ≢ length (links_of old) → times other new.ready.items ≡ times other old.ready.items

same_sum : (a b c d x : ℕ) → a ≡ c → b ≡ a + x → d ≡ c + x → b ≡ d
same_sum a b c d x e f g = omega arith

same_out : (a b c d x : ℕ) → a ≡ c → b ≡ a → d ≡ c + x → x ≡ 0 → b ≡ d
same_out a b c d x e f g h = omega arith

counts_live : (link : Link) (old new : Schedule) → IsSchedule old → IsAdded link old new → new.live ≡ count_by is_live (links_of new)
counts_live link old new s a =
    same_sum old.live new.live (count_by is_live (links_of old)) (count_by is_live (links_of new)) (one_if_live link) s.counts_live a.live
    (ap (λ (l : List Link). sum_by one_if_live l) a.links ∙ sum_by_push one_if_live (links_of old) link)

counts_out : (link : Link) (old new : Schedule) → IsSchedule old → IsAdded link old new → new.out ≡ sum_by (λ (l : Link). l.out) (links_of new)
counts_out link old new s a =
    same_out old.out new.out (sum_by (λ (l : Link). l.out) (links_of old)) (sum_by (λ (l : Link). l.out) (links_of new)) link.out s.counts_out a.out
    (ap (λ (l : List Link). sum_by (λ (k : Link). k.out) l) a.links ∙ sum_by_push (λ (k : Link). k.out) (links_of old) link) a.none_out

within : (link : Link) (old new : Schedule) → IsSchedule old → IsAdded link old new → new.out ≤ most_out new.timing.flight
within link old new s a = subst (λ n. n ≤ most_out new.timing.flight) (sym a.out) (subst (λ t. old.out ≤ most_out t.flight) (sym a.timing) s.within)

found : (link : Link) (old new : Schedule) → IsAdded link old new → (place : ℕ) (l : Link) → slice_get (links_of new) place ≡ Some l
    → (slice_get (links_of old) place ≡ Some l) ⊎ ((place ≡ length (links_of old)) × (link ≡ l))
found link old new a place l is = front_or_end (links_of old) link place l (subst (λ (k : List Link). slice_get k place ≡ Some l) a.links is)

kept : (link : Link) (old new : Schedule) → IsAdded link old new → (place : ℕ) (l : Link) → slice_get (links_of old) place ≡ Some l → slice_get (links_of new) place ≡ Some l
kept link old new a place l is = subst (λ (k : List Link). slice_get k place ≡ Some l) (sym a.links) (at_front (links_of old) link place l is)

last : (link : Link) (old new : Schedule) → IsAdded link old new → slice_get (links_of new) (length (links_of old)) ≡ Some link
last link old new a = subst (λ (k : List Link). slice_get k (length (links_of old)) ≡ Some link) (sym a.links) (at_end (links_of old) link)

awaited : (link : Link) (old new : Schedule) → IsSchedule old → IsAdded link old new → (place : ℕ) (l : Link) → slice_get (links_of new) place ≡ Some l → IsAwaited l.turn ⊎ (l.out ≡ 0)
awaited link old new s a place l is = ⊎_elim
    (λ (h : slice_get (links_of old) place ≡ Some l). s.awaited place l h)
    (λ (e : (place ≡ length (links_of old)) × (link ≡ l)). inr (subst (λ (k : Link). k.out ≡ 0) e.1 a.none_out))
    (found link old new a place l is)

waits : (link : Link) (old new : Schedule) → IsSchedule old → IsAdded link old new → (place until : ℕ) → Contains new.waiting.keys (until, place) ↔ IsWaitingAt (links_of new) place until
waits link old new s a place until = (
  λ (h : Contains new.waiting.keys (until, place)).
      let w = (s.waits place until).0 (subst (λ m. Contains m.keys (until, place)) a.waiting h) in (w.0, kept link old new a place w.0 w.1, w.2),
  λ (w : IsWaitingAt (links_of new) place until). ⊎_elim
      (λ (h : slice_get (links_of old) place ≡ Some w.0). subst (λ m. Contains m.keys (until, place)) (sym a.waiting) ((s.waits place until).1 (w.0, h, w.2)))
      (λ (e : (place ≡ length (links_of old)) × (link ≡ w.0)).
      absurd (none-some until (sym a.no_time ∙ subst (λ (k : Link). until_of k.turn ≡ Some until) (sym e.1) w.2)))
      (found link old new a place w.0 w.1),
)

addressed : (link : Link) (old new : Schedule) → IsSchedule old → IsAdded link old new
    → (address : SocketAddr) (place : ℕ) → Contains new.places.entries (address, place) ↔ IsPlaceOf (links_of new) address place
addressed link old new s a address place = (
  λ (h : Contains new.places.entries (address, place)). ⊎_elim
      (λ (e : (address ≡ link.at.address) × (place ≡ length (links_of old))).
      (link, subst (λ (n : ℕ). slice_get (links_of new) n ≡ Some link) (sym e.1) (last link old new a), sym e.0))
      (λ (g : Contains old.places.entries (address, place)).
      let p = (s.addressed address place).0 g in (p.0, kept link old new a place p.0 p.1, p.2))
      ((a.places address place).0 h),
  λ (p : IsPlaceOf (links_of new) address place). (a.places address place).1 (⊎_elim
      (λ (h : slice_get (links_of old) place ≡ Some p.0). inr ((s.addressed address place).1 (p.0, h, p.2)))
      (λ (e : (place ≡ length (links_of old)) × (link ≡ p.0)). inl (subst (λ (k : Link). address ≡ k.at.address) (sym e.1) (sym p.2), e.0))
      (found link old new a place p.0 p.1)),
)

no_more : {X : Type 0} (xs : List X) (y : X) (k : ℕ) → k ≢ length xs → slice_get (xs ++ y ∷ []) k ≡ slice_get xs k
no_more [] y zero n = absurd (n refl)
no_more [] y (suc k) n = refl
no_more (x ∷ xs) y zero n = refl
no_more (x ∷ xs) y (suc k) n = no_more xs y k (λ e. n (ap suc e))

past_end : {X : Type 0} (xs : List X) → slice_get xs (length xs) ≡ None
past_end [] = refl
past_end (x ∷ xs) = past_end xs

queue : (link : Link) (old new : Schedule) → IsSchedule old → IsAdded link old new → (place : ℕ) → Queues (slice_get (links_of new) place) (times place new.ready.items)
queue link old new s a place = ⊎_elim
    (λ (e : place ≡ length (links_of old)). subst (λ (n : ℕ). Queues (slice_get (links_of new) n) (times n new.ready.items)) (sym e)
    (subst (λ (o : Option Link). Queues o (times (length (links_of old)) new.ready.items)) (sym (last link old new a)) a.queue_here))
    (λ (n : place ≢ length (links_of old)). subst (λ (k : ℕ). Queues (slice_get (links_of new) place) k) (sym (a.queue_apart place n))
    (subst (λ (o : Option Link). Queues o (times place old.ready.items))
    (sym (ap (λ (l : List Link). slice_get l place) a.links ∙ no_more (links_of old) link place n)) (s.queue place)))
    (cases_eq place (length (links_of old)))

-- no place stands in the queue that no link has
pub none_queued : (s : Schedule) → IsSchedule s → times (length (links_of s)) s.ready.items ≡ 0
none_queued s i = subst (λ (o : Option Link). Queues o (times (length (links_of s)) s.ready.items)) (past_end (links_of s)) (i.queue (length (links_of s)))

pub queue_off : (n : ℕ) (link : Link) (lives : Bool) → link.turn ≡ (if lives then turns.Ready else turns.Over) → lives ≡ false → n ≡ 0 → QueuesTurn link.turn n
queue_off n link true e f none = absurd (false≢true (sym f))
queue_off n link false e f none = subst (λ (t : Turn). QueuesTurn t n) (sym e) (omega arith)

pub queue_on : (n : ℕ) (link : Link) (lives : Bool) → link.turn ≡ (if lives then turns.Ready else turns.Over) → lives ≡ true → n ≡ 1 → QueuesTurn link.turn n
queue_on n link true e f one = subst (λ (t : Turn). QueuesTurn t n) (sym e) one
queue_on n link false e f one = absurd (false≢true f)

-- a new link at the end of the queue
pub at_queue_end : (s : Schedule) (place : ℕ) (items : List ℕ) → IsSchedule s → place ≡ length (links_of s) → items ≡ s.ready.items ++ place ∷ [] → times (length (links_of s)) items ≡ 1
at_queue_end s place items i e f =
    ap (λ (l : List ℕ). times (length (links_of s)) l) (f ∙ ap (λ (n : ℕ). s.ready.items ++ n ∷ []) e)
    ∙ pushed_here (length (links_of s)) s.ready.items ∙ ap (λ n. n + 1) (none_queued s i)

pub before_queue_end : (s : Schedule) (place : ℕ) (items : List ℕ) → place ≡ length (links_of s) → items ≡ s.ready.items ++ place ∷ []
    → (other : ℕ) → other ≢ length (links_of s) → times other items ≡ times other s.ready.items
before_queue_end s place items e f other n =
    ap (λ (l : List ℕ). times other l) (f ∙ ap (λ (k : ℕ). s.ready.items ++ k ∷ []) e) ∙ pushed_apart other (length (links_of s)) s.ready.items n

pub added : (link : Link) (old new : Schedule) → IsSchedule old → IsAdded link old new → IsSchedule new
added link old new s a = record {
  flight_fits = subst (λ m. m.flight < 2 ^ 64) (sym a.timing) s.flight_fits;
  counts_live = counts_live link old new s a;
  counts_out = counts_out link old new s a;
  within = within link old new s a;
  awaited = awaited link old new s a;
  waits = waits link old new s a;
  addressed = addressed link old new s a;
  queue = queue link old new s a;
}

-- an address that no link has is in no entry
pub no_entry : (address : SocketAddr) (old : Schedule) → IsSchedule old → ¬ HasAddress (links_of old) address → (place : ℕ) → ¬ Contains old.places.entries (address, place)
no_entry address old s new place h = new (place, (s.addressed address place).0 h)

-- where the link of a meter is put at the end
pub new_link_places : (link : Link) (at : Listed) (es fs : Entries) (place many : ℕ) → link.at ≡ at → place ≡ many → IsPermutation ((at.address, place) ∷ es) fs
    → PutsPlace es link.at.address many fs
new_link_places link at es fs place many same is perm =
    subst (λ (a : Listed). PutsPlace es a.address many fs) (sym same) (subst (λ (n : ℕ). PutsPlace es at.address n fs) is (puts_place es fs at.address place perm))

pub new_no_time : (link : Link) (lives : Bool) → link.turn ≡ (if lives then turns.Ready else turns.Over) → until_of link.turn ≡ None
new_no_time link true e = ap until_of e
new_no_time link false e = ap until_of e

same_number : (a x : ℕ) → x ≡ 0 → a ≡ a + x
same_number a x e = omega arith

pub none_more : (a : ℕ) (link : Link) (lives : Bool) → link.turn ≡ (if lives then turns.Ready else turns.Over) → lives ≡ false → a ≡ a + one_if_live link
none_more a link true e f = absurd (false≢true (sym f))
none_more a link false e f = same_number a (one_if_live link) (ap (λ (t : Turn). cond (is_live_turn t) 1 0) e)

one_number : (a b n x : ℕ) → x ≡ 1 → b ≡ min (a + 1) (2 ^ 64 - 1) → a ≤ n → n < 2 ^ 63 → b ≡ a + x
one_number a b n x e f h g = omega arith

pub one_more : (a b n : ℕ) (link : Link) (lives : Bool) → link.turn ≡ (if lives then turns.Ready else turns.Over) → lives ≡ true → b ≡ min (a + 1) (2 ^ 64 - 1) → a ≤ n → n < 2 ^ 63
    → b ≡ a + one_if_live link
one_more a b n link true e f sum few small = one_number a b n (one_if_live link) (ap (λ (t : Turn). cond (is_live_turn t) 1 0) e) sum few small
one_more a b n link false e f sum few small = absurd (false≢true f)
