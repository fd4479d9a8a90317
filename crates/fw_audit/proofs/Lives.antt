-- A life: from a start on, item after item, and what it leaves.
use Rattle.std.proofs.Common.{◌≡◌, ◌++◌, ◌+◌, ◌-◌, ◌≤◌, ◌<◌, ◌⊎◌, ℕ, zero, suc, List, [], ◌∷◌, Option, Some, None, Err, length, take, drop, slice_get, slice_index_or, inl, inr, refl, sym, ap, subst, ◌∙◌, arith, append-nil}
use Rattle.std.specs.Prelude.{All}
use Rattle.std.proofs.lemmas.List.{take_at, take-append-drop, take-append-le}
use Rattle.std.specs.declared.net.socket_addr.SocketAddr.{SocketAddr}
use Rattle.fw_image.specs.Meter.{Image, Meter, Phase, idle, receiving, verifying, verified, spoilt, switched, migrated, reopened, reopened_phase}
use Rattle.fw_stored.specs.Stored.{IsSound}
use Rattle.fw_audit.specs.Log.{Item, started, item_of, log_of}
use Rattle.fw_audit.specs.Stands.{Stand, ended, waits, owes, left_by, Leads, Makes}
use Rattle.fw_audit.specs.Departures.{IsDeparture}
use Rattle.fw_audit.specs.Private.{Alive, AreLeft, EndsOpen, IsDied, IsLeft, IsLived, IsMisstep, IsNext, IsOpen, IsOutlived, IsPast, IsRan, meter_in, stand_in, stand_of}
use Rattle.fw_audit.specs.declared.error.Departure.{Departure}
use Rattle.fw_audit.specs.declared.error.Rule.{Rule}
use Rattle.fw_audit.specs.declared.going.Going.{Going}
use Rattle.fw_audit.specs.declared.going.Misstep.{Misstep}
use Rattle.fw_audit.specs.declared.going.Misstep.TheVariants as missteps
use Rattle.fw_audit.specs.declared.going.Owed.{Owed}
use Rattle.fw_audit.specs.declared.item.LogItem.{LogItem}
use Rattle.fw_audit.specs.declared.life.Left.{Left}
use Rattle.fw_audit.specs.declared.life.Stop.{Stop}
use Rattle.fw_audit.specs.declared.life.Stop.TheVariants as stops
use Rattle.fw_audit.proofs.Leading.{after_one, append, images_on, one_made, split, start_off, start_on}
use Rattle.fw_audit.proofs.Steps.{alive_before, killed_left, made_open, may_die}
use Rattle.fw_audit.proofs.Items.{AreGoing, Goes, all_last, length_last, log_front, log_size, logged_at, one_more, read_at, same_last}

meter_stands : (meter : Meter) (owed : Option Owed) → meter_in (stand_in meter owed) ≡ meter
meter_stands meter None = refl
meter_stands meter (Some owed) = refl

pub left_alive : (meter : Meter) (owed : Option Owed) → left_by (stand_in meter owed) ≡ reopened meter
left_alive meter None = refl
left_alive meter (Some owed) = refl

-- ---- item after item

pub past_none : (heads : List SocketAddr) (start : Going) → IsSound start.meter → IsPast heads start.switched.items (stand_of start) [] start
past_none heads start sound = record {
  images = [];
  leads = (refl, refl);
  so_far = sym (append-nil start.switched.items);
  alone = λ others new h alive. h.1;
  sound = sound;
  size = sym (ap (λ (m : Meter). m.capacity) (meter_stands start.meter.meter start.owed));
}

-- where an item more leads that leads from here
from_here : (heads : List SocketAddr) (had : List Image) (old new : Stand) (log : List Item) (item : Item) (going : Going) (others : List Image) → IsPast heads had old log going → (item ≡ started → ⊥)
    → Leads heads old (log ++ item ∷ []) others new → (first : List Image) × Makes heads (stand_of going) item first new
from_here heads had old new log item going others past goes h =
    let s = split heads old new log (item ∷ []) others h in
    let made = one_made heads s.mid new item s.rest s.behind in
    let here : s.mid ≡ stand_of going = past.alone s.first s.mid s.before (alive_before heads s.mid new item made.0 made.1 goes) in
    (made.0, subst (λ (t : Stand). Makes heads t item made.0 new) here made.1)

pub past_more : (heads : List SocketAddr) (had : List Image) (old : Stand) (log : List Item) (item : Item) (going next : Going) → IsPast heads had old log going
    → IsNext heads going.switched.items (stand_of going) item next → (item ≡ started → ⊥) → IsPast heads had old (log ++ item ∷ []) next
past_more heads had old log item going next past step goes = record {
  images = past.images ++ step.images;
  leads = append heads old (stand_of going) (stand_of next) log (item ∷ []) past.images step.images past.leads
      (after_one heads (stand_of going) (stand_of next) item step.images step.makes);
  so_far = images_on had going.switched.items next.switched.items past.images step.images past.so_far step.so_far;
  alone = λ others new h alive.
      let made = from_here heads had old new log item going others past goes h in
      step.alone made.0 new made.1 alive;
  sound = step.sound;
  size = step.size ∙ ap (λ (m : Meter). m.capacity) (meter_stands going.meter.meter going.owed) ∙ past.size;
}

-- an item that leads nowhere
pub departs : (heads : List SocketAddr) (had : List Image) (old : Stand) (log whole : List Item) (at : ℕ) (item : Item) (rule : Rule) (going : Going) → IsPast heads had old log going
    → IsMisstep heads (stand_of going) item (missteps.Departs rule) → (item ≡ started → ⊥)
    → take at whole ≡ log → take (at + 1) whole ≡ log ++ item ∷ [] → slice_get whole at ≡ Some item → IsDeparture heads old whole (record { at = at; rule = rule })
departs heads had old log whole at item rule going past step goes front more there = record {
  images = past.images;
  stand = stand_of going;
  leads = subst (λ (l : List Item). Leads heads old l past.images (stand_of going)) (sym front) past.leads;
  item = item;
  there = there;
  rule = step.0;
  departs = λ others new h.
      let made = from_here heads had old new log item going others past goes (subst (λ (l : List Item). Leads heads old l others new) more h) in
      step.1 made.0 new made.1;
}

-- the same of the item that is read at a place
pub past_at : (heads : List SocketAddr) (had : List Image) (old : Stand) (items : List LogItem) (at : ℕ) (d : LogItem) (going next : Going) → at < length items → All Goes items
    → IsPast heads had old (log_of (take at items)) going → IsNext heads going.switched.items (stand_of going) (item_of (slice_index_or items at d)) next
    → IsPast heads had old (log_of (take (at + 1) items)) next
past_at heads had old items at d going next inside goes past step =
    let item : LogItem = slice_index_or items at d in
    let more : log_of (take (at + 1) items) ≡ log_of (take at items) ++ item_of item ∷ [] =
    log_front items (at + 1) ∙ one_more items at item (read_at items at d inside) ∙ ap (λ (l : List Item). l ++ item_of item ∷ []) (sym (log_front items at)) in
    subst (λ (l : List Item). IsPast heads had old l next) (sym more) (past_more heads had old (log_of (take at items)) (item_of item) going next past step (goes at d inside))

pub departs_at : (heads : List SocketAddr) (had : List Image) (old : Stand) (items : List LogItem) (at : ℕ) (d : LogItem) (rule : Rule) (misstep : Misstep) (going : Going) → at < length items → All Goes items
    → IsPast heads had old (log_of (take at items)) going → misstep ≡ missteps.Departs rule → IsMisstep heads (stand_of going) (item_of (slice_index_or items at d)) misstep
    → IsDeparture heads old (log_of items) (record { at = at; rule = rule })
departs_at heads had old items at d rule misstep going inside goes past is step =
    let item : LogItem = slice_index_or items at d in
    let there : slice_get items at ≡ Some item = read_at items at d inside in
    let front = sym (log_front items at) in
    departs heads had old (log_of (take at items)) (log_of items) at (item_of item) rule going past
    (subst (λ (m : Misstep). IsMisstep heads (stand_of going) (item_of item) m) is step) (goes at d inside)
    front (one_more items at item there ∙ ap (λ (l : List Item). l ++ item_of item ∷ []) front) (logged_at items at item there)

-- what departs in a front departs
pub inside : (log : List Item) (at : ℕ) (item : Item) → slice_get log at ≡ Some item → at < length log
inside [] at item e = absurd cc
inside (first ∷ log) zero item e = omega arith
inside (first ∷ log) (suc at) item e = let rest = inside log at item e in omega arith

get_front : (front back : List Item) (at : ℕ) (item : Item) → slice_get front at ≡ Some item → slice_get (front ++ back) at ≡ Some item
get_front [] back at item e = absurd cc
get_front (first ∷ front) back zero item e = e
get_front (first ∷ front) back (suc at) item e = get_front front back at item e

pub departs_longer : (heads : List SocketAddr) (old : Stand) (front back : List Item) (d : Departure) → IsDeparture heads old front d → IsDeparture heads old (front ++ back) d
departs_longer heads old front back d is =
    let within : d.at < length front = inside front d.at is.item is.there in
    record {
      images = is.images;
      stand = is.stand;
      leads = subst (λ (l : List Item). Leads heads old l is.images is.stand) (sym (take-append-le d.at front back (omega arith))) is.leads;
      item = is.item;
      there = get_front front back d.at is.item is.there;
      rule = is.rule;
      departs = λ others new h.
          is.departs others new (subst (λ (l : List Item). Leads heads old l others new) (take-append-le (d.at + 1) front back (omega arith)) h);
    }

-- ---- what is left

is_left : (heads : List SocketAddr) (had : List Image) (begin : Meter) (body : List Item) (going : Going) (left : Left) → IsPast heads had (waits (migrated begin)) body going
    → left.meter.meter ≡ left_by (stand_of going) → left.switched.items ≡ going.switched.items → reopened left.meter.meter ≡ left.meter.meter
    → left.meter.meter.capacity ≡ going.meter.meter.capacity → IsLeft heads had begin (started ∷ body) left
is_left heads had begin body going left past is so_far rests size = record {
  images = past.images;
  stand = stand_of going;
  leads = start_on heads begin (stand_of going) body past.images past.leads;
  left = is;
  so_far = so_far ∙ past.so_far;
  rests = rests;
  size = size ∙ past.size;
}

-- only a kill in the last item ends a process
ends_open : (heads : List SocketAddr) (old : Stand) (meter : Meter) (log : List Item) (images : List Image) → Leads heads old log images (ended meter) → Alive old → AreGoing log → EndsOpen log
ends_open heads old meter [] images (none, is) alive going = absurd (subst Alive (sym is) alive)
ends_open heads old meter (item ∷ []) images h alive going =
    let made = one_made heads old (ended meter) item images h in
    ([], item, refl, made_open heads old meter item made.0 made.1)
ends_open heads old meter (item ∷ other ∷ log) images (next, first, rest, makes, leads, all) alive going =
    let then = alive_before heads next leads.0 other leads.1 leads.3 going.1.0 in
    let last = ends_open heads next meter (other ∷ log) rest leads then going.1 in
    (item ∷ last.0, last.1, ap (λ (l : List Item). item ∷ l) last.2, last.3)

-- one meter
module _ (heads : List SocketAddr) (had : List Image) (begin : Meter) (body : List Item) (going : Going) (left : Left) (past : IsPast heads had (waits (migrated begin)) body going) (is : left.meter.meter ≡ left_by (stand_of going)) where
  alive_left : (images : List Image) (stand : Stand) → Alive stand → Leads heads (waits (migrated begin)) body images stand → left.meter.meter ≡ left_by stand
  alive_left images stand alive h = is ∙ ap left_by (sym (past.alone images stand h alive))

  one_left : AreGoing body → (EndsOpen body → ⊥) → (images : List Image) (stand : Stand) → Leads heads (waits (migrated begin)) body images stand → left.meter.meter ≡ left_by stand
  one_left goes closed images (ended meter) h = absurd (closed (ends_open heads (waits (migrated begin)) meter body images h tt goes))
  one_left goes closed images (waits meter) h = alive_left images (waits meter) tt h
  one_left goes closed images (owes to reply meter) h = alive_left images (owes to reply meter) tt h

pub lived : (heads : List SocketAddr) (had : List Image) (begin : Meter) (body : List Item) (going : Going) (left : Left) → IsPast heads had (waits (migrated begin)) body going
    → AreGoing body → (EndsOpen body → ⊥)
    → left.meter.meter ≡ left_by (stand_of going) → left.switched.items ≡ going.switched.items → reopened left.meter.meter ≡ left.meter.meter
    → left.meter.meter.capacity ≡ going.meter.meter.capacity → AreLeft heads had begin (started ∷ body) left None
lived heads had begin body going left past goes closed is so_far rests size = record {
  one = is_left heads had begin body going left past is so_far rests size;
  two = tt;
  all = λ images stand h. inl (one_left heads had begin body going left past is goes closed images stand (start_off heads (ended begin) stand body images h));
}

-- two meters: after the last item, and before it
module _ (heads : List SocketAddr) (had : List Image) (begin : Meter) (front : List Item) (item : Item) (open_item : IsOpen item) (goes : item ≡ started → ⊥) (after before : Going) (first second : Left)
    (past : IsPast heads had (waits (migrated begin)) (front ++ item ∷ []) after) (cut : IsPast heads had (waits (migrated begin)) front before)
    (is : first.meter.meter ≡ left_by (stand_of after)) (was : second.meter.meter ≡ left_by (stand_of before)) where
  dead : Leads heads (waits (migrated begin)) (front ++ item ∷ []) (cut.images ++ []) (ended (left_by (stand_of before)))
  dead =
      let made = from_here heads had (waits (migrated begin)) (stand_of after) front item before past.images cut goes past.leads in
      append heads (waits (migrated begin)) (stand_of before) (ended (left_by (stand_of before))) front (item ∷ []) cut.images [] cut.leads
      (after_one heads (stand_of before) (ended (left_by (stand_of before))) item [] (may_die heads (stand_of before) (stand_of after) item made.0 made.1 open_item))

  second_left : second.switched.items ≡ before.switched.items → reopened second.meter.meter ≡ second.meter.meter → second.meter.meter.capacity ≡ before.meter.meter.capacity
      → IsLeft heads had begin (started ∷ (front ++ item ∷ [])) second
  second_left so_far rests size = record {
    images = cut.images ++ [];
    stand = ended (left_by (stand_of before));
    leads = start_on heads begin (ended (left_by (stand_of before))) (front ++ item ∷ []) (cut.images ++ []) dead;
    left = was;
    so_far = so_far ∙ cut.so_far ∙ ap (λ (l : List Image). had ++ l) (sym (append-nil cut.images));
    rests = rests;
    size = size ∙ cut.size;
  }

  two_left : (images : List Image) (stand : Stand) → Leads heads (waits (migrated begin)) (front ++ item ∷ []) images stand
      → (first.meter.meter ≡ left_by stand) ⊎ (second.meter.meter ≡ left_by stand)
  two_left images (ended meter) h =
      let made = from_here heads had (waits (migrated begin)) (ended meter) front item before images cut goes h in
      inr (was ∙ sym (killed_left heads (stand_of before) meter item made.0 made.1))
  two_left images (waits meter) h = inl (is ∙ ap left_by (sym (past.alone images (waits meter) h tt)))
  two_left images (owes to reply meter) h = inl (is ∙ ap left_by (sym (past.alone images (owes to reply meter) h tt)))

pub died : (heads : List SocketAddr) (had : List Image) (begin : Meter) (front : List Item) (item : Item) (after before : Going) (first second : Left) → IsOpen item → (item ≡ started → ⊥)
    → IsPast heads had (waits (migrated begin)) (front ++ item ∷ []) after → IsPast heads had (waits (migrated begin)) front before
    → first.meter.meter ≡ left_by (stand_of after) → first.switched.items ≡ after.switched.items → reopened first.meter.meter ≡ first.meter.meter
    → first.meter.meter.capacity ≡ after.meter.meter.capacity
    → second.meter.meter ≡ left_by (stand_of before) → second.switched.items ≡ before.switched.items → reopened second.meter.meter ≡ second.meter.meter
    → second.meter.meter.capacity ≡ before.meter.meter.capacity
    → AreLeft heads had begin (started ∷ (front ++ item ∷ [])) first (Some second)
died heads had begin front item after before first second open_item goes past cut is so_far rests size was other_so_far other_rests other_size = record {
  one = is_left heads had begin (front ++ item ∷ []) after first past is so_far rests size;
  two = second_left heads had begin front item open_item goes after before first second past cut is was other_so_far other_rests other_size;
  all = λ images stand h.
      two_left heads had begin front item open_item goes after before first second past cut is was images stand
      (start_off heads (ended begin) stand (front ++ item ∷ []) images h);
}

-- the items before the last one
pub front_is : (front log : List Item) (item : Item) (last : ℕ) → log ≡ front ++ item ∷ [] → last + 1 ≡ length log → front ≡ take last log
front_is front log item last is size =
    let count : length front ≡ last = omega (arith, ap length is, length_last front item) in
    sym (take_at front (item ∷ []) last count) ∙ ap (take last) (sym is)

-- an open item is no start
pub open_goes : (item : Item) → IsOpen item → item ≡ started → ⊥
open_goes item open_item e = subst IsOpen e open_item

-- once it is stopped, no verification goes on
rests_in : (phase : Phase) → reopened_phase (reopened_phase phase) ≡ reopened_phase phase
rests_in idle = refl
rests_in (receiving goal) = refl
rests_in (verifying goal taken) = refl
rests_in (verified goal) = refl
rests_in (spoilt goal) = refl
rests_in switched = refl

pub rests : (meter : Meter) → reopened (reopened meter) ≡ reopened meter
rests meter = ap (λ (p : Phase). let m : Meter = record meter { phase = p } in m) (rests_in meter.phase)

-- ---- with what was given to the calls

pub past_as : (heads : List SocketAddr) (had all : List Image) (old new : Stand) (log : List Item) (going : Going) → had ≡ all → old ≡ new → IsPast heads had old log going
    → IsPast heads all new log going
past_as heads had all old new log going same stands past =
    subst (λ (s : Stand). IsPast heads all s log going) stands (subst (λ (l : List Image). IsPast heads l old log going) same past)

pub stopped_lived : (heads : List SocketAddr) (had all : List Image) (old : Stand) (begin : Meter) (body : List Item) (stop : Stop) → old ≡ waits (migrated begin)
    → IsRan heads had old body (Err stop) → IsLived heads all begin body (Err stop)
stopped_lived heads had all old begin body (stops.Departs d) same h = subst (λ (s : Stand). IsDeparture heads s body d) same h
stopped_lived heads had all old begin body stops.OutOfMemory same h = tt

pub stopped_died : (heads : List SocketAddr) (had all : List Image) (old : Stand) (begin : Meter) (body : List Item) (stop : Stop) → old ≡ waits (migrated begin)
    → IsRan heads had old body (Err stop) → IsDied heads all begin body (Err stop)
stopped_died heads had all old begin body (stops.Departs d) same h = subst (λ (s : Stand). IsDeparture heads s body d) same h
stopped_died heads had all old begin body stops.OutOfMemory same h = tt

pub stopped_cut : (heads : List SocketAddr) (had all : List Image) (old : Stand) (begin : Meter) (items : List LogItem) (last : ℕ) (stop : Stop) → old ≡ waits (migrated begin)
    → IsRan heads had old (log_of (take last items)) (Err stop) → IsDied heads all begin (log_of items) (Err stop)
stopped_cut heads had all old begin items last (stops.Departs d) same h =
    subst (λ (l : List Item). IsDeparture heads (waits (migrated begin)) l d) (take-append-drop last (log_of items))
    (departs_longer heads (waits (migrated begin)) (take last (log_of items)) (drop last (log_of items)) d
    (subst (λ (l : List Item). IsDeparture heads (waits (migrated begin)) l d) (log_front items last) (subst (λ (s : Stand). IsDeparture heads s (log_of (take last items)) d) same h)))
stopped_cut heads had all old begin items last stops.OutOfMemory same h = tt

pub died_stopped : (heads : List SocketAddr) (had : List Image) (begin : Meter) (body : List Item) (stop : Stop) → IsDied heads had begin body (Err stop) → IsOutlived heads had begin body (Err stop)
died_stopped heads had begin body (stops.Departs d) h = h
died_stopped heads had begin body stops.OutOfMemory h = tt

pub lived_stopped : (heads : List SocketAddr) (had : List Image) (begin : Meter) (body : List Item) (stop : Stop) → IsLived heads had begin body (Err stop) → IsOutlived heads had begin body (Err stop)
lived_stopped heads had begin body (stops.Departs d) h = h
lived_stopped heads had begin body stops.OutOfMemory h = tt

-- what the last of two lives was cut short by is the last item
pub died_of : (heads : List SocketAddr) (had : List Image) (begin : Meter) (items : List LogItem) (last : ℕ) (after before : Going) (first second : Left) → EndsOpen (log_of items) → last + 1 ≡ length items
    → IsPast heads had (waits (migrated begin)) (log_of items) after → IsPast heads had (waits (migrated begin)) (log_of (take last items)) before
    → first.meter.meter ≡ left_by (stand_of after) → first.switched.items ≡ after.switched.items → reopened first.meter.meter ≡ first.meter.meter
    → first.meter.meter.capacity ≡ after.meter.meter.capacity
    → second.meter.meter ≡ left_by (stand_of before) → second.switched.items ≡ before.switched.items → reopened second.meter.meter ≡ second.meter.meter
    → second.meter.meter.capacity ≡ before.meter.meter.capacity
    → AreLeft heads had begin (started ∷ log_of items) first (Some second)
died_of heads had begin items last after before first second (front, item, whole, open_item) size past cut is so_far rests_so sized was other_so_far other_rests other_size =
    let short : log_of (take last items) ≡ front = log_front items last ∙ sym (front_is front (log_of items) item last whole (size ∙ sym (log_size items))) in
    subst (λ (l : List Item). AreLeft heads had begin (started ∷ l) first (Some second)) (sym whole)
    (died heads had begin front item after before first second open_item (open_goes item open_item)
    (subst (λ (l : List Item). IsPast heads had (waits (migrated begin)) l after) whole past)
    (subst (λ (l : List Item). IsPast heads had (waits (migrated begin)) l before) short cut)
    is so_far rests_so sized was other_so_far other_rests other_size)

-- the last item is one in which a kill leaves two meters
pub last_open : (items : List LogItem) (d : LogItem) → 1 ≤ length items → IsOpen (item_of (slice_index_or items (length items - 1) d)) → EndsOpen (log_of items)
last_open items d some is =
    let last : ℕ = length items - 1 in
    let item : LogItem = slice_index_or items last d in
    (take last (log_of items), item_of item, all_last items last item (omega arith) (read_at items last d (omega arith)), is)

pub last_is_open : (items : List LogItem) (d : LogItem) → 1 ≤ length items → EndsOpen (log_of items) → IsOpen (item_of (slice_index_or items (length items - 1) d))
last_is_open items d some ends =
    let last : ℕ = length items - 1 in
    let item : LogItem = slice_index_or items last d in
    let whole = all_last items last item (omega arith) (read_at items last d (omega arith)) in
    subst IsOpen (sym (same_last (take last (log_of items)) ends.0 (log_of items) (item_of item) ends.1 whole ends.2)) ends.3

-- there is a last item
pub some_last : (items : List LogItem) → EndsOpen (log_of items) → 1 ≤ length items
some_last items (front, item, whole, open_item) = omega (arith, log_size items, ap length whole, length_last front item)
