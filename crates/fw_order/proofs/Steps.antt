-- How far an order has come, step after step.
use Rattle.std.proofs.Common.{◌≡◌, ◌≢◌, ◌↔◌, ◌++◌, ◌+◌, ◌<◌, ◌≤◌, ◌⊎◌, ℕ, Bool, true, false, eqb, List, [], ◌∷◌, map, Option, Some, None, length, slice_get, slice_index_or, inl, inr, refl, sym, ap, subst, ◌∙◌, arith, ⊎_elim, append_assoc, append-nil}
use Rattle.std.specs.Prelude.{Contains, slice_set}
use Rattle.std.specs.List.{sum_by}
use Rattle.std.specs.Option.{option_map, option_map_or}
use Rattle.std.specs.declared.net.socket_addr.SocketAddr.{SocketAddr}
use Rattle.std.specs.declared.net.socket_addr.SocketAddr.TheVariants as socket
use Rattle.std.proofs.lemmas.Bool.{cases_Bool, cases_lt, eqb-true, eqb-false}
use Rattle.std.proofs.lemmas.List.{get_or_default, length-map, map-set}
use Rattle.std.proofs.lemmas.List.Sums.{sum_by-set}
use Rattle.fw_audit.specs.Log.{Item, started, came, sent, turned, item_of, log_of}
use Rattle.fw_audit.specs.declared.item.LogItem.{LogItem}
use Rattle.fw_order.specs.Order.{End, HasSent, IsCausal, IsEnd, IsExplained, Step, address_of, end_of, ends_of, items_of, log_at}
use Rattle.fw_order.specs.Private.{Going, Has, IsGone, IsReady, IsStuck, MayCome, Notes, Waits, end_with, far, items_left, lefts, step_of}
use Rattle.fw_order.specs.declared.log.EndLog.{EndLog}
use Rattle.fw_order.specs.declared.sent.Sent.{Sent}
use Rattle.fw_order.proofs.Lists.{got_inside, heads, never_some, no_cons, got_is, got_mapped, got_past, none_in, read_at, put_other, put_own, same_some, tails}
use Rattle.fw_order.proofs.Orders.{address_of_got, causal_none, causal_push, items_push_other, items_push_own, log_of_got, sent_cases, sent_last, sent_more}

-- ---- the beginning

pub gone_none : (ends : List End) (going : Going) → lefts going ≡ ends → ((from to : SocketAddr) (bytes : List ℕ) → Has going.sent from to bytes → ⊥) → IsGone ends going
gone_none ends going all none = record {
  order = [];
  causal = causal_none ends;
  same = λ number. ap (λ (l : List End). address_of l number) all;
  cuts = λ number. ap (λ (l : List End). log_at l number) (sym all);
  knows = λ from to bytes. (
    λ (h : Has going.sent from to bytes). absurd (none from to bytes h),
    λ (h : HasSent ends [] from to bytes). absurd (none_in (sent to bytes) h.2),
  );
}

-- ---- a step

-- an address of what is left is one of the ends
pub end_there : (ends : List End) (going : Going) (address : SocketAddr) → IsGone ends going → IsEnd (lefts going) address → IsEnd ends address
end_there ends going address gone (number, is) = (number, sym (gone.same number) ∙ is)

end_here : (ends : List End) (going : Going) (address : SocketAddr) → IsGone ends going → IsEnd ends address → IsEnd (lefts going) address
end_here ends going address gone (number, is) = (number, gone.same number ∙ is)

no_sending : (old new : Sent) (ends : List End) (order : List Step) (number : ℕ) (item : Item) (from to : SocketAddr) (bytes : List ℕ)
    → (item ≡ sent to bytes → ⊥) → new ≡ old → (Has old from to bytes ↔ HasSent ends order from to bytes)
    → Has new from to bytes ↔ HasSent ends (order ++ step_of number item ∷ []) from to bytes
no_sending old new ends order number item from to bytes never same knows = (
  λ (h : Has new from to bytes). sent_more ends order (step_of number item) from to bytes (knows.0 (subst (λ (s : Sent). Has s from to bytes) same h)),
  λ (h : HasSent ends (order ++ step_of number item ∷ []) from to bytes). ⊎_elim
      (λ (early : HasSent ends order from to bytes). subst (λ (s : Sent). Has s from to bytes) (sym same) (knows.1 early))
      (λ (late : (address_of ends number ≡ Some from) × (item ≡ sent to bytes)). absurd (never late.1))
      (sent_cases ends order (step_of number item) from to bytes h),
)

same_to : (t to : SocketAddr) (b bytes : List ℕ) → sent t b ≡ sent to bytes → t ≡ to
same_to t to b bytes e = cc

same_bytes : (t to : SocketAddr) (b bytes : List ℕ) → sent t b ≡ sent to bytes → b ≡ bytes
same_bytes t to b bytes e = cc

as_sent : (t to : SocketAddr) (b bytes : List ℕ) → t ≡ to → b ≡ bytes → sent t b ≡ sent to bytes
as_sent t to b bytes e f = cc

pub knows_more : (ends : List End) (order : List Step) (old new : Sent) (at : SocketAddr) (number : ℕ) (item : Item) → Notes old at item new → address_of ends number ≡ Some at
    → ((from to : SocketAddr) (bytes : List ℕ) → Has old from to bytes ↔ HasSent ends order from to bytes) → (from to : SocketAddr) (bytes : List ℕ)
    → Has new from to bytes ↔ HasSent ends (order ++ step_of number item ∷ []) from to bytes
knows_more ends order old new at number started notes own knows from to bytes =
    no_sending old new ends order number started from to bytes (λ (e : started ≡ sent to bytes). absurd cc) notes (knows from to bytes)
knows_more ends order old new at number (came f b) notes own knows from to bytes =
    no_sending old new ends order number (came f b) from to bytes (λ (e : came f b ≡ sent to bytes). absurd cc) notes (knows from to bytes)
knows_more ends order old new at number turned notes own knows from to bytes =
    no_sending old new ends order number turned from to bytes (λ (e : turned ≡ sent to bytes). absurd cc) notes (knows from to bytes)
knows_more ends order old new at number (sent t b) notes own knows from to bytes =
    let last : Step = step_of number (sent t b) in (
      λ (h : Has new from to bytes). ⊎_elim (λ (early : Has old from to bytes). sent_more ends order last from to bytes ((knows from to bytes).0 early))
          (λ (late : (from ≡ at) × ((to ≡ t) × (bytes ≡ b))).
          sent_last ends order last from to bytes (own ∙ ap (λ (a : SocketAddr). Some a) (sym late.0)) (as_sent t to b bytes (sym late.1.0) (sym late.1.1)))
          ((notes from to bytes).0 h),
      λ (h : HasSent ends (order ++ last ∷ []) from to bytes). (notes from to bytes).1 (⊎_elim
          (λ (early : HasSent ends order from to bytes). inl ((knows from to bytes).1 early))
          (λ (late : (address_of ends number ≡ Some from) × (sent t b ≡ sent to bytes)).
          inr (same_some from at (sym late.0 ∙ own), (sym (same_to t to b bytes late.1), sym (same_bytes t to b bytes late.1))))
          (sent_cases ends order last from to bytes h)),
    )

module _ (ends : List End) (old new : Going) (number : ℕ) (gone : IsGone ends old) (ready : IsReady old number)
    (left : lefts new ≡ slice_set (lefts old) number (end_with ready.at ready.rest)) (notes : Notes old.sent ready.at ready.item new.sent) where
  own : address_of ends number ≡ Some ready.at
  own = sym (gone.same number) ∙ address_of_got (lefts old) number (end_with ready.at (ready.item ∷ ready.rest)) ready.there

  abbrev last : Step
  last = step_of number ready.item

  got_own : slice_get (lefts new) number ≡ Some (end_with ready.at ready.rest)
  got_own =
      ap (λ (l : List End). slice_get l number) left
      ∙ put_own (lefts old) number (end_with ready.at (ready.item ∷ ready.rest)) (end_with ready.at ready.rest) ready.there

  got_other : (other : ℕ) → number ≢ other → slice_get (lefts new) other ≡ slice_get (lefts old) other
  got_other other apart = ap (λ (l : List End). slice_get l other) left ∙ put_other (lefts old) number other (end_with ready.at ready.rest) apart

  explained_by : (item : Item) → MayCome (lefts old) old.sent ready.at item → (from to : SocketAddr) (bytes : List ℕ) → item ≡ came from bytes → address_of ends number ≡ Some to
      → IsEnd ends from → HasSent ends gone.order from to bytes
  explained_by item may from to bytes is there of_end =
      let here : ready.at ≡ to = same_some ready.at to (sym own ∙ there) in
      subst (λ (a : SocketAddr). HasSent ends gone.order from a bytes) here
      (⊎_elim (λ (h : Has old.sent from ready.at bytes). (gone.knows from ready.at bytes).0 h)
      (λ (never : IsEnd (lefts old) from → ⊥). absurd (never (end_here ends old from gone of_end)))
      (subst (MayCome (lefts old) old.sent ready.at) is may))

  same_addresses : (other : ℕ) → address_of (lefts new) other ≡ address_of ends other
  same_addresses other =
      ⊎_elim
      (λ (is : eqb number other ≡ true).
      subst (λ (n : ℕ). address_of (lefts new) n ≡ address_of ends n) (eqb-true number other is)
      (address_of_got (lefts new) number (end_with ready.at ready.rest) got_own ∙ sym own))
      (λ (apart : eqb number other ≡ false). ap (option_map (λ (e : End). e.at)) (got_other other (eqb-false number other apart)) ∙ gone.same other)
      (cases_Bool (eqb number other))

  all_cuts : (other : ℕ) → log_at ends other ≡ items_of (gone.order ++ last ∷ []) other ++ log_at (lefts new) other
  all_cuts other =
      ⊎_elim
      (λ (is : eqb number other ≡ true).
      subst (λ (n : ℕ). log_at ends n ≡ items_of (gone.order ++ last ∷ []) n ++ log_at (lefts new) n) (eqb-true number other is)
      (gone.cuts number
      ∙ ap (λ (l : List Item). items_of gone.order number ++ l) (log_of_got (lefts old) number (end_with ready.at (ready.item ∷ ready.rest)) ready.there)
      ∙ sym (append_assoc (items_of gone.order number) (ready.item ∷ []) ready.rest)
      ∙ ap (λ (l : List Item). l ++ ready.rest) (sym (items_push_own gone.order last number refl))
      ∙ ap (λ (l : List Item). items_of (gone.order ++ last ∷ []) number ++ l)
      (sym (log_of_got (lefts new) number (end_with ready.at ready.rest) got_own))))
      (λ (apart : eqb number other ≡ false).
      gone.cuts other ∙ ap (λ (l : List Item). l ++ log_at (lefts old) other) (sym (items_push_other gone.order last other apart))
      ∙ ap (λ (o : Option End). items_of (gone.order ++ last ∷ []) other ++ option_map_or (λ (e : End). e.log) o []) (sym (got_other other (eqb-false number other apart))))
      (cases_Bool (eqb number other))

  pub gone_on : IsGone ends new
  gone_on = record {
    order = gone.order ++ last ∷ [];
    causal = causal_push ends gone.order last gone.causal (λ from to bytes is there of_end. explained_by ready.item ready.may from to bytes is there of_end);
    same = same_addresses;
    cuts = all_cuts;
    knows = knows_more ends gone.order old.sent new.sent ready.at number ready.item notes own gone.knows;
  }

-- ---- what the code has of an end

pub no_items : (items : List LogItem) → length items ≡ 0 → items ≡ []
no_items [] none = refl
no_items (item ∷ items) none = absurd (omega (arith, none))

-- behind the last end there is no log
pub no_log : (logs : List EndLog) (number : ℕ) → length logs ≤ number → log_at (ends_of logs) number ≡ []
no_log logs number past =
    ap (λ (o : Option End). option_map_or (λ (e : End). e.log) o []) (got_mapped end_of logs number ∙ ap (option_map end_of) (got_past logs number past))

-- what is left of the end that is read
pub left_is : (logs : List EndLog) (number : ℕ) (log : EndLog) → number < length logs → log ≡ slice_index_or logs number log → slice_get (ends_of logs) number ≡ Some (end_of log)
left_is logs number log inside is = got_mapped end_of logs number ∙ ap (option_map end_of) (read_at logs number log inside ∙ ap (λ (l : EndLog). Some l) (sym is))

pub ready_is : (going : Going) (number : ℕ) (log : EndLog) (item : LogItem) (rest : List LogItem) → number < length going.left → log ≡ slice_index_or going.left number log
    → log.items.now ≡ item ∷ rest → MayCome (lefts going) going.sent log.at (item_of item) → IsReady going number
ready_is going number log item rest inside is items may = record {
  at = log.at;
  item = item_of item;
  rest = log_of rest;
  there = left_is going.left number log inside is ∙ ap (λ (l : List LogItem). Some (end_with log.at (log_of l))) items;
  may = may;
}

pub waiting_is : (going : Going) (number : ℕ) (log : EndLog) (item : LogItem) (rest : List LogItem) → number < length going.left → log ≡ slice_index_or going.left number log
    → log.items.now ≡ item ∷ rest → Waits (lefts going) going.sent log.at (item_of item) → IsStuck going number
waiting_is going number log item rest inside is items waits = inr (record {
  at = log.at;
  item = item_of item;
  rest = log_of rest;
  there = left_is going.left number log inside is ∙ ap (λ (l : List LogItem). Some (end_with log.at (log_of l))) items;
  waits = waits;
})

pub ended_is : (going : Going) (number : ℕ) (log : EndLog) → number < length going.left → log ≡ slice_index_or going.left number log → length log.items.now ≡ 0 → IsStuck going number
ended_is going number log inside is none =
    inl (log_of_got (lefts going) number (end_of log) (left_is going.left number log inside is) ∙ ap log_of (no_items log.items.now none))

pub past_is : (going : Going) (number : ℕ) → length going.left ≤ number → IsStuck going number
past_is going number past = inl (no_log going.left number past)

-- ---- a step of the code

pub ready_inside : (going : Going) (number : ℕ) → IsReady going number → number < length going.left
ready_inside going number ready =
    let inside = got_inside (lefts going) number (end_with ready.at (ready.item ∷ ready.rest)) ready.there in
    omega (arith, inside, length-map going.left end_of)

same_end : (going : Going) (number : ℕ) (log : EndLog) (ready : IsReady going number) → log ≡ slice_index_or going.left number log
    → end_of log ≡ end_with ready.at (ready.item ∷ ready.rest)
same_end going number log ready is =
    same_some (end_of log) (end_with ready.at (ready.item ∷ ready.rest)) (sym (left_is going.left number log (ready_inside going number ready) is) ∙ ready.there)

pub has_next : (going : Going) (number : ℕ) (log : EndLog) → IsReady going number → log ≡ slice_index_or going.left number log → length log.items.now ≡ 0 → ⊥
has_next going number log ready is none =
    let items : log_of log.items.now ≡ ready.item ∷ ready.rest = ap (λ (e : End). e.log) (same_end going number log ready is) in
    no_cons ready.item ready.rest (sym items ∙ ap log_of (no_items log.items.now none))

may_next : (going : Going) (number : ℕ) (log : EndLog) (item : LogItem) (rest : List LogItem) → IsReady going number → log ≡ slice_index_or going.left number log
    → log.items.now ≡ item ∷ rest → MayCome (lefts going) going.sent log.at (item_of item)
may_next going number log item rest ready is items =
    let same = same_end going number log ready is in
    let next : item_of item ≡ ready.item = heads (item_of item) ready.item (log_of rest) ready.rest (sym (ap log_of items) ∙ ap (λ (e : End). e.log) same) in
    subst (λ (a : SocketAddr). MayCome (lefts going) going.sent a (item_of item)) (sym (ap (λ (e : End). e.at) same))
    (subst (MayCome (lefts going) going.sent ready.at) (sym next) ready.may)

-- what a step of the code writes
pub record Writes (old new : Going) (number : ℕ) (log next : EndLog) (item : LogItem) (rest : List LogItem) : Type 0 where
  pub read : log ≡ slice_index_or old.left number log
  pub items : log.items.now ≡ item ∷ rest
  pub left : new.left ≡ slice_set old.left number next
  pub at : next.at ≡ log.at
  pub rest_is : next.items.now ≡ rest
  pub notes : Notes old.sent log.at (item_of item) new.sent

module _ (old new : Going) (number : ℕ) (log next : EndLog) (item : LogItem) (rest : List LogItem) (ready : IsReady old number)
    (writes : Writes old new number log next item rest) where
  pub went_on : (ends : List End) → IsGone ends old → IsGone ends new
  unfolding ready_is
  went_on ends gone =
      let inside = ready_inside old number ready in
      let here : IsReady old number = ready_is old number log item rest inside writes.read writes.items (may_next old number log item rest ready writes.read writes.items) in
      let end : end_of next ≡ end_with log.at (log_of rest) = ap (λ (a : SocketAddr). end_with a (log_of next.items.now)) writes.at ∙ ap (λ (l : List LogItem). end_with log.at (log_of l)) writes.rest_is in
      let left : lefts new ≡ slice_set (lefts old) number (end_with log.at (log_of rest)) =
      ap ends_of writes.left ∙ map-set end_of old.left number next ∙ ap (slice_set (lefts old) number) end in
      gone_on ends old new number gone here left writes.notes

  pub one_less : items_left new.left + 1 ≡ items_left old.left
  one_less =
      let f : EndLog → ℕ = λ (l : EndLog). length l.items.now in
      let sum = sum_by-set f old.left number next log (ready_inside old number ready) in
      let all : items_left new.left ≡ sum_by f (slice_set old.left number next) = ap (sum_by f) writes.left in
      let had : length (slice_index_or old.left number log).items.now ≡ length (item ∷ rest) = ap f (sym writes.read) ∙ ap length writes.items in
      let has : length next.items.now ≡ length rest = ap length writes.rest_is in
      omega (arith, sum, all, had, has)

-- ---- all ends

pub stuck_more : (going : Going) (number : ℕ) → ((k : ℕ) → k < number → IsStuck going k) → IsStuck going number → (k : ℕ) → k < number + 1 → IsStuck going k
stuck_more going number before here k within =
    ⊎_elim (λ (less : k < number). before k less) (λ (more : number ≤ k). (let same : number ≡ k = omega (arith, within, more) in subst (IsStuck going) same here)) (cases_lt k number)

pub stuck_all : (going : Going) (number : ℕ) → length going.left ≤ number → ((k : ℕ) → k < number → IsStuck going k) → (k : ℕ) → IsStuck going k
stuck_all going number all before k =
    ⊎_elim (λ (less : k < number). before k less) (λ (more : number ≤ k). past_is going k (omega (arith, all, more))) (cases_lt k number)

-- ---- the end at an address

-- none of the first ends has this address
abbrev pub NoneAt : List EndLog → SocketAddr → ℕ → Type 0
NoneAt logs address number = (k : ℕ) → k < number → address_of (ends_of logs) k ≡ Some address → ⊥

pub address_is : (logs : List EndLog) (number : ℕ) (log : EndLog) → number < length logs → log ≡ slice_index_or logs number log → address_of (ends_of logs) number ≡ Some log.at
address_is logs number log inside is = address_of_got (ends_of logs) number (end_of log) (left_is logs number log inside is)

pub none_at_more : (logs : List EndLog) (address : SocketAddr) (number : ℕ) (log : EndLog) → number < length logs → log ≡ slice_index_or logs number log → NoneAt logs address number
    → (log.at ≡ address → ⊥) → NoneAt logs address (number + 1)
none_at_more logs address number log inside is before other k within here =
    ⊎_elim (λ (less : k < number). before k less here)
    (λ (more : number ≤ k).
    let same : k ≡ number = omega (arith, within, more) in
    other (same_some log.at address (sym (address_is logs number log inside is) ∙ sym (ap (address_of (ends_of logs)) same) ∙ here)))
    (cases_lt k number)

pub no_address : (logs : List EndLog) (number : ℕ) (address : SocketAddr) → length logs ≤ number → address_of (ends_of logs) number ≡ Some address → ⊥
no_address logs number address past here =
    let none : address_of (ends_of logs) number ≡ None =
    ap (option_map (λ (e : End). e.at)) (got_mapped end_of logs number ∙ ap (option_map end_of) (got_past logs number past)) in
    never_some address (sym none ∙ here)

pub none_at_all : (logs : List EndLog) (address : SocketAddr) (number : ℕ) → length logs ≤ number → NoneAt logs address number → IsEnd (ends_of logs) address → ⊥
none_at_all logs address number all before (k, here) =
    ⊎_elim (λ (less : k < number). before k less here) (λ (more : number ≤ k). no_address logs k address (omega (arith, all, more)) here) (cases_lt k number)

-- ---- what is read of a list of logs

-- what stands where nothing is read
abbrev pub unread : EndLog
unread = record { at = socket.V4 (record { ip = record { octets = [] }; port = 0 }); items = record { ref_ptr = (0, 0); now = [] } }

pub read_as : (logs : List EndLog) (number : ℕ) (d : EndLog) → number < length logs → slice_index_or logs number d ≡ slice_index_or logs number (slice_index_or logs number d)
read_as logs number d inside = get_or_default logs number d (slice_index_or logs number d) inside

-- ---- with what the calls returned

pub moved : (P : Going → Type 0) (left other : List EndLog) (set same : Sent) → left ≡ other → set ≡ same → P (far left set) → P (far other same)
moved P left other set same e f has = subst (λ (s : Sent). P (far other s)) f (subst (λ (l : List EndLog). P (far l set)) e has)
