-- Where no end can go on, no order goes further.
use Rattle.std.proofs.Common.{Bor, ◌≡◌, ◌↔◌, ◌++◌, ◌+◌, ◌<◌, ◌≤◌, ◌⊎◌, ℕ, Bool, true, false, eqb, List, [], ◌∷◌, Option, Some, None, length, slice_get, slice_index_or, inl, inr, refl, sym, ap, subst, ◌∙◌, arith, ⊎_elim, append_assoc, append-nil, length-append}
use Rattle.std.specs.Prelude.{Contains, IfNone}
use Rattle.std.specs.Option.{option_map}
use Rattle.std.specs.declared.net.socket_addr.SocketAddr.{SocketAddr}
use Rattle.std.proofs.lemmas.Bool.{cases_Bool, cases_lt, eqb-true}
use Rattle.std.proofs.lemmas.List.{length-map, length_push}
use Rattle.fw_audit.specs.Log.{Item, started, came, sent, turned, item_of, log_of}
use Rattle.fw_audit.specs.declared.item.LogItem.{LogItem}
use Rattle.fw_audit.specs.declared.item.LogItem.TheVariants as kinds
use Rattle.fw_order.specs.Order.{End, HasOrder, HasSent, IsCausal, IsEnd, IsExplained, Step, address_of, end_of, ends_of, items_of, log_at}
use Rattle.fw_order.specs.Departures.{Breaks, IsDeparture, IsFrontOrder, SendsEver}
use Rattle.fw_order.specs.Private.{Going, Has, IsGone, IsReady, IsStuck, IsWaiting, Waits, end_with, lefts}
use Rattle.fw_order.specs.declared.error.OrderRule.{OrderRule}
use Rattle.fw_order.specs.declared.log.EndLog.{EndLog}
use Rattle.fw_order.proofs.Lists.{got_behind, got_in, got_is, got_mapped, heads, in_longer, in_map, no_cons, no_rest, read_at, same_behind, same_some}
use Rattle.fw_order.proofs.Orders.{address_of_got, items_append, items_cons_own, items_push_other, items_push_own, log_of_got}
use Rattle.fw_order.proofs.Steps.{address_is, end_there, left_is, no_address, no_items, no_log}

module _ (ends : List End) (going : Going) (gone : IsGone ends going) (stuck : (number : ℕ) → IsStuck going number) where
  -- no end has more items in it than where no end can go on
  abbrev Within : List Step → Type 0
  Within order = (number : ℕ) → length (items_of order number) ≤ length (items_of gone.order number)

  -- what was sent in an order that comes no further was sent
  sent_within : (before rest : List Step) (from to : SocketAddr) (bytes : List ℕ) → Within before → IsFrontOrder ends (before ++ rest) → HasSent ends before from to bytes
      → HasSent ends gone.order from to bytes
  sent_within before rest from to bytes within fronts (number, own, c) =
      let front = fronts number in
      let whole : items_of before number ++ (items_of rest number ++ front.0) ≡ items_of gone.order number ++ log_at (lefts going) number =
      sym (append_assoc (items_of before number) (items_of rest number) front.0) ∙ ap (λ (l : List Item). l ++ front.0) (sym (items_append before rest number)) ∙ sym front.1
      ∙ gone.cuts number in (
        number,
        own,
        in_longer (items_of before number) (items_of rest number ++ front.0) (items_of gone.order number) (log_at (lefts going) number) (sent to bytes) whole (within number) c,
      )

  -- the item that waits isn't explained
  no_step : (at : SocketAddr) (item : Item) (before rest : List Step) (step : Step) → Waits (lefts going) going.sent at item → address_of ends step.end ≡ Some at → step.item ≡ item
      → Within before → IsFrontOrder ends (before ++ rest) → IsExplained ends before step → ⊥
  no_step at started before rest step waits own is within fronts explained = waits
  no_step at (sent to bytes) before rest step waits own is within fronts explained = waits
  no_step at turned before rest step waits own is within fronts explained = waits
  no_step at (came from bytes) before rest step waits own is within fronts explained =
      waits.1
      ((gone.knows from at bytes).1
      (sent_within before rest from at bytes within fronts (explained from at bytes is own (end_there ends going from gone waits.0))))

  -- an order that comes no further comes no further by a step
  own_within : (before after : List Step) (step : Step) → Within before → IsFrontOrder ends (before ++ step ∷ after) → IsExplained ends before step
      → length (items_of before step.end) + 1 ≤ length (items_of gone.order step.end)
  own_within before after step within fronts explained =
      ⊎_elim (λ (less : length (items_of before step.end) < length (items_of gone.order step.end)). omega (arith, less))
      (λ (more : length (items_of gone.order step.end) ≤ length (items_of before step.end)).
      let number : ℕ = step.end in
      let front = fronts number in
      let level : length (items_of before number) ≡ length (items_of gone.order number) = omega (arith, more, within number) in
      let whole : items_of before number ++ (step.item ∷ items_of after number ++ front.0) ≡ items_of gone.order number ++ log_at (lefts going) number =
      sym (append_assoc (items_of before number) (step.item ∷ items_of after number) front.0)
      ∙ ap (λ (l : List Item). (items_of before number ++ l) ++ front.0) (sym (items_cons_own step after number refl))
      ∙ ap (λ (l : List Item). l ++ front.0) (sym (items_append before (step ∷ after) number)) ∙ sym front.1 ∙ gone.cuts number in
      let next : step.item ∷ items_of after number ++ front.0 ≡ log_at (lefts going) number =
      same_behind (items_of before number) (step.item ∷ items_of after number ++ front.0) (items_of gone.order number) (log_at (lefts going) number) whole level in
      ⊎_elim (λ (none : log_at (lefts going) number ≡ []). absurd (no_cons step.item (items_of after number ++ front.0) (next ∙ none)))
      (λ (w : IsWaiting going number).
      let end : End = end_with w.at (w.item ∷ w.rest) in
      let same : step.item ≡ w.item = heads step.item w.item (items_of after number ++ front.0) w.rest (next ∙ log_of_got (lefts going) number end w.there) in
      let there : address_of ends number ≡ Some w.at = sym (gone.same number) ∙ address_of_got (lefts going) number end w.there in
      absurd (no_step w.at w.item before (step ∷ after) step w.waits there same within fronts explained))
      (stuck number))
      (cases_lt (length (items_of before step.end)) (length (items_of gone.order step.end)))

  one_within : (before after : List Step) (step : Step) → Within before → IsFrontOrder ends (before ++ step ∷ after) → IsExplained ends before step → Within (before ++ step ∷ [])
  one_within before after step within fronts explained number =
      ⊎_elim
      (λ (own : eqb step.end number ≡ true).
      subst (λ (n : ℕ). length (items_of (before ++ step ∷ []) n) ≤ length (items_of gone.order n)) (eqb-true step.end number own)
      (let size : length (items_of (before ++ step ∷ []) step.end) ≡ length (items_of before step.end) + 1 =
      ap length (items_push_own before step step.end refl) ∙ length_push (items_of before step.end) step.item in
      omega (arith, size, own_within before after step within fronts explained)))
      (λ (other : eqb step.end number ≡ false).
      let size : length (items_of (before ++ step ∷ []) number) ≡ length (items_of before number) = ap length (items_push_other before step number other) in
      omega (arith, size, within number))
      (cases_Bool (eqb step.end number))

  all_within : (before after : List Step) → Within before → IsFrontOrder ends (before ++ after) → IsCausal ends (before ++ after) → Within (before ++ after)
  all_within before [] within fronts causal = subst Within (sym (append-nil before)) within
  all_within before (step ∷ after) within fronts causal =
      let moved : before ++ step ∷ after ≡ (before ++ step ∷ []) ++ after = sym (append_assoc before (step ∷ []) after) in
      subst Within (sym moved)
      (all_within (before ++ step ∷ []) after (one_within before after step within fronts (causal before after step refl)) (subst (IsFrontOrder ends) moved fronts)
      (subst (IsCausal ends) moved causal))

  pub no_further : (other : List Step) → IsFrontOrder ends other → IsCausal ends other → Within other
  no_further other fronts causal = all_within [] other (λ number. omega arith) fronts causal

  -- ---- what is told

  stuck_end : (number : ℕ) (at : SocketAddr) (item : Item) (rest : List Item) → slice_get (lefts going) number ≡ Some (end_with at (item ∷ rest))
      → Waits (lefts going) going.sent at item
  stuck_end number at item rest there =
      ⊎_elim
      (λ (none : log_at (lefts going) number ≡ []).
      absurd (no_cons item rest (sym (log_of_got (lefts going) number (end_with at (item ∷ rest)) there) ∙ none)))
      (λ (w : IsWaiting going number).
      let same : end_with w.at (w.item ∷ w.rest) ≡ end_with at (item ∷ rest) =
      same_some (end_with w.at (w.item ∷ w.rest)) (end_with at (item ∷ rest)) (sym w.there ∙ there) in
      subst (λ (i : Item). Waits (lefts going) going.sent at i) (heads w.item item w.rest rest (ap (λ (e : End). e.log) same))
      (subst (λ (a : SocketAddr). Waits (lefts going) going.sent a w.item) (ap (λ (e : End). e.at) same) w.waits))
      (stuck number)

  pub departs_at : (number : ℕ) (at from : SocketAddr) (bytes : List ℕ) (rest : List Item) (place : ℕ) (rule : OrderRule)
      → slice_get (lefts going) number ≡ Some (end_with at (came from bytes ∷ rest)) → length (log_at ends number) ≡ place + (length rest + 1)
      → Breaks ends from at bytes rule → IsDeparture ends (record { end = number; at = place; rule = rule })
  departs_at number at from bytes rest place rule there size breaks =
      let end : End = end_with at (came from bytes ∷ rest) in
      let waits = stuck_end number at (came from bytes) rest there in
      let left : log_at (lefts going) number ≡ came from bytes ∷ rest = log_of_got (lefts going) number end there in
      let whole : log_at ends number ≡ items_of gone.order number ++ came from bytes ∷ rest = gone.cuts number ∙ ap (λ (l : List Item). items_of gone.order number ++ l) left in
      let sizes : length (log_at ends number) ≡ length (items_of gone.order number) + length (came from bytes ∷ rest) =
      ap length whole ∙ length-append (items_of gone.order number) (came from bytes ∷ rest) in
      let comes : length (items_of gone.order number) ≡ place = omega (arith, size, sizes) in
      record {
        order = gone.order;
        fronts = λ n. (log_at (lefts going) n, gone.cuts n);
        causal = gone.causal;
        comes = comes;
        from = from;
        to = at;
        bytes = bytes;
        own = sym (gone.same number) ∙ address_of_got (lefts going) number end there;
        there = ap (λ (l : List Item). slice_get l place) whole
            ∙ subst (λ (n : ℕ). slice_get (items_of gone.order number ++ came from bytes ∷ rest) n ≡ Some (came from bytes)) comes
            (got_behind (items_of gone.order number) (came from bytes) rest);
        of_end = end_there ends going from gone waits.0;
        breaks = breaks;
        departs = λ other fronts causal. omega (arith, comes, no_further other fronts causal number);
      }

  pub never_other : (number : ℕ) (at : SocketAddr) (item : Item) (rest : List Item) → slice_get (lefts going) number ≡ Some (end_with at (item ∷ rest))
      → ((from : SocketAddr) (bytes : List ℕ) → item ≡ came from bytes → ⊥) → ⊥
  never_other number at started rest there other = stuck_end number at started rest there
  never_other number at (sent to bytes) rest there other = stuck_end number at (sent to bytes) rest there
  never_other number at turned rest there other = stuck_end number at turned rest there
  never_other number at (came from bytes) rest there other = other from bytes refl

-- if nothing is left, there is an order
pub all_gone : (ends : List End) (going : Going) → IsGone ends going → ((number : ℕ) → log_at (lefts going) number ≡ []) → HasOrder ends
all_gone ends going gone none = (
  gone.order,
  λ number. sym (gone.cuts number ∙ ap (λ (l : List Item). items_of gone.order number ++ l) (none number) ∙ append-nil (items_of gone.order number)),
  gone.causal,
)

-- ---- what the code tells

-- the end of this number can't go on at a datagram that came
pub tells_at : (logs : List EndLog) (going : Going) (number place : ℕ) (log : EndLog) (item : LogItem) (rest : List LogItem) (from : SocketAddr) (bytes : List ℕ) (rule : OrderRule)
    → IsGone (ends_of logs) going → ((k : ℕ) → IsStuck going k) → number < length going.left → log ≡ slice_index_or going.left number log → log.items.now ≡ item ∷ rest
    → item_of item ≡ came from bytes → length (log_at (ends_of logs) number) ≡ place + length log.items.now → Breaks (ends_of logs) from log.at bytes rule
    → IsDeparture (ends_of logs) (record { end = number; at = place; rule = rule })
tells_at logs going number place log item rest from bytes rule gone stuck inside is items came_is size breaks =
    let there : slice_get (lefts going) number ≡ Some (end_with log.at (came from bytes ∷ log_of rest)) =
    left_is going.left number log inside is ∙ ap (λ (l : List LogItem). Some (end_with log.at (log_of l))) items
    ∙ ap (λ (i : Item). Some (end_with log.at (i ∷ log_of rest))) came_is in
    let sizes : length log.items.now ≡ length (item ∷ rest) = ap length items in
    departs_at (ends_of logs) going gone stuck number log.at from bytes (log_of rest) place rule there (omega (arith, size, sizes, length-map rest item_of)) breaks

-- it can't be at another item
pub tells_none : (logs : List EndLog) (going : Going) (number : ℕ) (log : EndLog) (item : LogItem) (rest : List LogItem) → IsGone (ends_of logs) going → ((k : ℕ) → IsStuck going k)
    → number < length going.left → log ≡ slice_index_or going.left number log → log.items.now ≡ item ∷ rest
    → ((from : SocketAddr) (bytes : List ℕ) → item_of item ≡ came from bytes → ⊥) → ⊥
tells_none logs going number log item rest gone stuck inside is items other =
    never_other (ends_of logs) going gone stuck number log.at (item_of item) (log_of rest)
    (left_is going.left number log inside is ∙ ap (λ (l : List LogItem). Some (end_with log.at (log_of l))) items) other

-- how long a log is, and what is left of it
pub longer : (logs : List EndLog) (going : Going) (number : ℕ) (log left : EndLog) → IsGone (ends_of logs) going → number < length logs → log ≡ slice_index_or logs number log
    → number < length going.left → left ≡ slice_index_or going.left number left → length left.items.now ≤ length log.items.now
longer logs going number log left gone inside is within read =
    let whole : length (log_of log.items.now) ≡ length (items_of gone.order number) + length (log_of left.items.now) =
    ap length (sym (log_of_got (ends_of logs) number (end_of log) (left_is logs number log inside is)) ∙ gone.cuts number
    ∙ ap (λ (l : List Item). items_of gone.order number ++ l) (log_of_got (lefts going) number (end_of left) (left_is going.left number left within read)))
    ∙ length-append (items_of gone.order number) (log_of left.items.now) in
    omega (arith, whole, length-map log.items.now item_of, length-map left.items.now item_of)

-- behind the last end nothing is left
pub none_behind : (logs : List EndLog) (going : Going) (number : ℕ) → IsGone (ends_of logs) going → length logs ≤ number → log_at (lefts going) number ≡ []
none_behind logs going number gone past =
    no_rest (items_of gone.order number) (log_at (lefts going) number) (sym (gone.cuts number) ∙ no_log logs number past)

-- an end of which something is left is one of the logs
pub as_many : (logs : List EndLog) (going : Going) (number : ℕ) (left : EndLog) → IsGone (ends_of logs) going → number < length going.left
    → left ≡ slice_index_or going.left number left → number < length logs
as_many logs going number left gone inside is =
    ⊎_elim (λ (less : number < length logs). less)
    (λ (past : length logs ≤ number). absurd (no_address logs number left.at past (sym (gone.same number) ∙ address_is going.left number left inside is)))
    (cases_lt number (length logs))

pub all_empty : (logs : List EndLog) (going : Going) (number : ℕ) → IsGone (ends_of logs) going → length logs ≤ number → ((k : ℕ) → k < number → log_at (lefts going) k ≡ [])
    → HasOrder (ends_of logs)
all_empty logs going number gone all before =
    all_gone (ends_of logs) going gone (λ k.
    ⊎_elim (λ (less : k < number). before k less) (λ (more : number ≤ k). none_behind logs going k gone (omega (arith, all, more))) (cases_lt k number))

pub empty_more : (going : Going) (number : ℕ) → ((k : ℕ) → k < number → log_at (lefts going) k ≡ []) → log_at (lefts going) number ≡ [] → (k : ℕ) → k < number + 1
    → log_at (lefts going) k ≡ []
empty_more going number before here k within =
    ⊎_elim (λ (less : k < number). before k less)
    (λ (more : number ≤ k). (let same : number ≡ k = omega (arith, within, more) in subst (λ (n : ℕ). log_at (lefts going) n ≡ []) same here)) (cases_lt k number)

pub left_empty : (going : Going) (number : ℕ) (log : EndLog) → number < length going.left → log ≡ slice_index_or going.left number log → length log.items.now ≡ 0
    → log_at (lefts going) number ≡ []
left_empty going number log inside is none =
    log_of_got (lefts going) number (end_of log) (left_is going.left number log inside is) ∙ ap log_of (no_items log.items.now none)

pub left_past : (going : Going) (number : ℕ) → length going.left ≤ number → log_at (lefts going) number ≡ []
left_past going number past = no_log going.left number past

-- ---- what is sent at some time

-- none of the first items is this
abbrev pub NoneOf : List LogItem → SocketAddr → List ℕ → ℕ → Type 0
NoneOf items to bytes at = (k : ℕ) (d : LogItem) → k < at → item_of (slice_index_or items k d) ≡ sent to bytes → ⊥

pub none_of_more : (items : List LogItem) (to : SocketAddr) (bytes : List ℕ) (at : ℕ) (item : LogItem) → at < length items → item ≡ slice_index_or items at item
    → NoneOf items to bytes at → (item_of item ≡ sent to bytes → ⊥) → NoneOf items to bytes (at + 1)
none_of_more items to bytes at item inside is before other k d within here =
    ⊎_elim (λ (less : k < at). before k d less here)
    (λ (more : at ≤ k).
    let same : k ≡ at = omega (arith, within, more) in
    let own : slice_index_or items k d ≡ item =
    ap (λ (n : ℕ). slice_index_or items n d) same ∙ got_is items at item d (read_at items at item inside ∙ ap (λ (i : LogItem). Some i) (sym is)) in
    other (sym (ap item_of own) ∙ here))
    (cases_lt k at)

pub none_of_all : (items : List LogItem) (to : SocketAddr) (bytes : List ℕ) (at : ℕ) → length items ≤ at → NoneOf items to bytes at → Contains (log_of items) (sent to bytes) → ⊥
none_of_all items to bytes at all before c =
    let found = in_map item_of items (sent to bytes) c in
    let place = found.1 in before place.0 found.0 (omega (arith, all, place.1)) (ap item_of place.2 ∙ found.2)

pub one_of : (items : List LogItem) (to : SocketAddr) (bytes : List ℕ) (at : ℕ) (item : LogItem) → at < length items → item ≡ slice_index_or items at item → item_of item ≡ sent to bytes
    → Contains (log_of items) (sent to bytes)
one_of items to bytes at item inside is here =
    got_in (log_of items) at (sent to bytes)
    (got_mapped item_of items at ∙ ap (option_map item_of) (read_at items at item inside ∙ ap (λ (i : LogItem). Some i) (sym is)) ∙ ap (λ (i : Item). Some i) here)

-- none of the first ends sends it
abbrev pub NoneSends : List EndLog → SocketAddr → SocketAddr → List ℕ → ℕ → Type 0
NoneSends logs from to bytes number = (k : ℕ) → k < number → address_of (ends_of logs) k ≡ Some from → Contains (log_at (ends_of logs) k) (sent to bytes) → ⊥

pub none_sends_more : (logs : List EndLog) (from to : SocketAddr) (bytes : List ℕ) (number : ℕ) (log : EndLog) → number < length logs → log ≡ slice_index_or logs number log
    → NoneSends logs from to bytes number → (log.at ≡ from → Contains (log_of log.items.now) (sent to bytes) → ⊥) → NoneSends logs from to bytes (number + 1)
none_sends_more logs from to bytes number log inside is before other k within here c =
    ⊎_elim (λ (less : k < number). before k less here c)
    (λ (more : number ≤ k).
    let same : k ≡ number = omega (arith, within, more) in
    other (same_some log.at from (sym (address_is logs number log inside is) ∙ sym (ap (address_of (ends_of logs)) same) ∙ here))
    (subst (λ (l : List Item). Contains l (sent to bytes)) (ap (log_at (ends_of logs)) same ∙ log_of_got (ends_of logs) number (end_of log) (left_is logs number log inside is)) c))
    (cases_lt k number)

pub none_sends_all : (logs : List EndLog) (from to : SocketAddr) (bytes : List ℕ) (number : ℕ) → length logs ≤ number → NoneSends logs from to bytes number
    → SendsEver (ends_of logs) from to bytes → ⊥
none_sends_all logs from to bytes number all before (k, here, c) =
    ⊎_elim (λ (less : k < number). before k less here c) (λ (more : number ≤ k). no_address logs k from (omega (arith, all, more)) here) (cases_lt k number)

pub one_sends : (logs : List EndLog) (from to : SocketAddr) (bytes : List ℕ) (number : ℕ) (log : EndLog) → number < length logs → log ≡ slice_index_or logs number log → log.at ≡ from
    → Contains (log_of log.items.now) (sent to bytes) → SendsEver (ends_of logs) from to bytes
one_sends logs from to bytes number log inside is own c = (
  number,
  address_is logs number log inside is ∙ ap (λ (a : SocketAddr). Some a) own,
  subst (λ (l : List Item). Contains l (sent to bytes)) (sym (log_of_got (ends_of logs) number (end_of log) (left_is logs number log inside is))) c,
)

-- where an end can go on, there is one
pub some_end : (logs : List EndLog) (going : Going) (number : ℕ) → IsGone (ends_of logs) going → IsReady going number → 1 ≤ length logs
some_end logs going number gone ready =
    ⊎_elim (λ (less : number < length logs). omega (arith, less))
    (λ (past : length logs ≤ number).
    absurd (no_address logs number ready.at past (sym (gone.same number) ∙ address_of_got (lefts going) number (end_with ready.at (ready.item ∷ ready.rest)) ready.there)))
    (cases_lt number (length logs))

pub log_size : (logs : List EndLog) (number : ℕ) (log : EndLog) → number < length logs → log ≡ slice_index_or logs number log → length (log_at (ends_of logs) number) ≡ length log.items.now
log_size logs number log inside is =
    ap length (log_of_got (ends_of logs) number (end_of log) (left_is logs number log inside is)) ∙ length-map log.items.now item_of

-- only a datagram that came is one
pub came_only : (item : LogItem) → ((from : SocketAddr) (bytes : Bor (List ℕ)) → item ≡ kinds.Came from bytes → ⊥) → (from : SocketAddr) (bytes : List ℕ) → item_of item ≡ came from bytes → ⊥
came_only (kinds.Came f b) never from bytes e = never f b refl
came_only kinds.Started never from bytes e = absurd cc
came_only (kinds.Sent t b) never from bytes e = absurd cc
came_only kinds.Turned never from bytes e = absurd cc

pub if_none : {X : Type 0} {P : Type 0} (o : Option X) → (o ≡ None → P) → IfNone o P
if_none None is = is refl
if_none (Some x) is = tt

pub some_ends : (logs : List EndLog) → 1 ≤ length logs → 1 ≤ length (ends_of logs)
some_ends logs some = omega (arith, some, length-map logs end_of)
