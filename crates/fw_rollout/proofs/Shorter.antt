-- A head end sends to its list alone, and one that asks some of the meters of a list does what one may do that asks all.
use Rattle.std.proofs.Common.{◌≡◌, ℕ, inl, inr, ◌⊎◌, true, false, List, [], ◌∷◌, ◌++◌, map, append-nil, Option, Some, None, All, Contains, refl, sym, ap, subst, ◌∙◌, ⊎_elim, arith}
use Rattle.std.specs.Prelude.{is_some}
use Rattle.std.proofs.lemmas.Bool.{cases_Bool, false≢true}
use Rattle.std.proofs.lemmas.List.Elements.{All-nil, All-cons, All-head, All-tail, Contains-append_left, Contains-append_right, Contains-append_cases, Contains-push, Contains-push_cases}
use Rattle.std.specs.declared.net.socket_addr.SocketAddr.{SocketAddr}
use Rattle.std.specs.contracts.net.socket_addr.SocketAddrPartialEq.TheImpl as socket_eq
use Rattle.fw_head.specs.Head.{Head, row_of, sends_to}
use Rattle.fw_head.specs.Row.{Row}
use Rattle.fw_head.specs.declared.news.News.TheVariants as news
use Rattle.fw_rollout.specs.Laws.{AsksListed, IsWithin, ShorterListsLead}
use Rattle.fw_rollout.specs.Leading.{HearsMeter, HearsNot, HearsStranger, IsListed, Leader, Leading, Step, Steps, hears, idles, saves, sends, tells, ticks}
use Rattle.fw_rollout.specs.Plans.{with_meters}
use Rattle.fw_rollout.specs.declared.ended.Ended.{Ended}
use Rattle.fw_rollout.specs.declared.link.Listed.{Listed}
use Rattle.fw_rollout.proofs.Placing.{equal_sockets, exact_socket}

-- ---- elements

first_is : {X : Type 0} (x : X) (xs : List X) → Contains (x ∷ xs) x
first_is x xs = Contains-append_left (x ∷ []) xs x (Contains-push [] x)

later : {X : Type 0} (first x : X) (xs : List X) → Contains xs x → Contains (first ∷ xs) x
later first x xs has = Contains-append_right (first ∷ []) xs x has

none_there : {X : Type 0} (x : X) → Contains [] x → ⊥
none_there x (k, within, same) = absurd (omega arith)

one_there : {X : Type 0} (y x : X) → Contains (y ∷ []) x → y ≡ x
one_there {X} y x has = elim (Contains-push_cases (let none : List X = [] in none) y x has) [
  | inl none ↦ absurd (none_there x none)
  | inr same ↦ same
]

first_or_later : {X : Type 0} (x : X) (xs : List X) (y : X) → Contains (x ∷ xs) y → (x ≡ y) ⊎ Contains xs y
first_or_later x xs y within = elim (Contains-append_cases (x ∷ []) xs y within) [
  | inl first ↦ inl (one_there x y first)
  | inr others ↦ inr others
]

-- ---- the list stays

pub list_stays : (old new : Leader) (made : Step) → Steps old made new → new.meters ≡ old.meters
list_stays old new (hears from datagram) (inl h) = ap (λ (l : Leader). l.meters) h.others
list_stays old new (hears from datagram) (inr (inl h)) = ap (λ (l : Leader). l.meters) h.same
list_stays old new (hears from datagram) (inr (inr h)) = ap (λ (l : Leader). l.meters) h.same
list_stays old new idles e = ap (λ (l : Leader). l.meters) e
list_stays old new (ticks meter) t = ap (λ (l : Leader). l.meters) t.others
list_stays old new (sends to bytes) t = ap (λ (l : Leader). l.meters) t.others
list_stays old new saves e = ap (λ (l : Leader). l.meters) e
list_stays old new (tells ended) t = ap (λ (l : Leader). l.meters) t.others

pub lists_stay : (start now : Leader) (steps : List Step) → Leading start steps now → now.meters ≡ start.meters
lists_stay start now [] e = ap (λ (l : Leader). l.meters) e
lists_stay start now (made ∷ steps) (before, leading, step) = list_stays before now made step ∙ lists_stay start before steps leading

-- ---- what is sent goes to the list

abbrev GoesTo : List Listed → SocketAddr × List ℕ → Type 0
GoesTo meters going = (meter : ℕ) × Contains meters (record { meter = meter; address = going.0 })

all_go : (meters : List Listed) (meter : ℕ) (to : SocketAddr) → Contains meters (record { meter = meter; address = to }) → (xs : List (List ℕ))
    → All (GoesTo meters) (map (λ (bytes : List ℕ). (to, bytes)) xs)
all_go meters meter to listed [] = All-nil (GoesTo meters)
all_go meters meter to listed (x ∷ xs) = All-cons (GoesTo meters) (to, x) (map (λ (bytes : List ℕ). (to, bytes)) xs) (meter, listed) (all_go meters meter to listed xs)

goes_same : (meters : List Listed) (old new : Leader) → new.going ≡ old.going → All (GoesTo meters) old.going → All (GoesTo meters) new.going
goes_same meters old new e all = subst (λ (xs : List (SocketAddr × List ℕ)). All (GoesTo meters) xs) (sym e) all

going_on : (old new : Leader) (made : Step) → Steps old made new → All (GoesTo old.meters) old.going → All (GoesTo old.meters) new.going
going_on old new (hears from datagram) (inl h) all = goes_same old.meters old new (ap (λ (l : Leader). l.going) h.others) all
going_on old new (hears from datagram) (inr (inl h)) all = goes_same old.meters old new (ap (λ (l : Leader). l.going) h.same) all
going_on old new (hears from datagram) (inr (inr h)) all = goes_same old.meters old new (ap (λ (l : Leader). l.going) h.same) all
going_on old new idles e all = goes_same old.meters old new (ap (λ (l : Leader). l.going) e) all
going_on old new (ticks meter) t all =
    subst (λ (xs : List (SocketAddr × List ℕ)). All (GoesTo old.meters) xs) (sym (ap (λ (l : Leader). l.going) t.others))
    (all_go old.meters meter t.to t.listed (sends_to old.head meter))
going_on old new (sends to bytes) t all =
    All-tail (GoesTo old.meters) (to, bytes) new.going (subst (λ (xs : List (SocketAddr × List ℕ)). All (GoesTo old.meters) xs) t.next all)
going_on old new saves e all = goes_same old.meters old new (ap (λ (l : Leader). l.going) e) all
going_on old new (tells ended) t all = goes_same old.meters old new (ap (λ (l : Leader). l.going) t.others) all

sent_goes : (old new : Leader) (to : SocketAddr) (bytes : List ℕ) (made : Step) → made ≡ sends to bytes → Steps old made new → All (GoesTo old.meters) old.going
    → (meter : ℕ) × Contains old.meters (record { meter = meter; address = to })
sent_goes old new to bytes made same step all =
    let sending = subst (λ (m : Step). Steps old m new) same step in
    All-head (GoesTo old.meters) (to, bytes) new.going (subst (λ (xs : List (SocketAddr × List ℕ)). All (GoesTo old.meters) xs) sending.next all)

all_going : (start now : Leader) (steps : List Step) → All (GoesTo start.meters) start.going → Leading start steps now → All (GoesTo start.meters) now.going
all_going start now [] all e = goes_same start.meters start now (ap (λ (l : Leader). l.going) e) all
all_going start now (made ∷ steps) all (before, leading, step) =
    let same = lists_stay start before steps leading in
    subst (λ (meters : List Listed). All (GoesTo meters) now.going) same
    (going_on before now made step (subst (λ (meters : List Listed). All (GoesTo meters) before.going) (sym same) (all_going start before steps all leading)))

all_sent : (start now : Leader) (steps : List Step) (to : SocketAddr) (bytes : List ℕ) → All (GoesTo start.meters) start.going → Leading start steps now → Contains steps (sends to bytes)
    → (meter : ℕ) × IsListed start meter to
all_sent start now [] to bytes all leading has = absurd (none_there (sends to bytes) has)
all_sent start now (made ∷ steps) to bytes all (before, leading, step) has = elim (first_or_later made steps (sends to bytes) has) [
  | inl here ↦ (let same = lists_stay start before steps leading in
      subst (λ (meters : List Listed). (meter : ℕ) × Contains meters (record { meter = meter; address = to })) same
      (sent_goes before now to bytes made here step
      (subst (λ (meters : List Listed). All (GoesTo meters) before.going) (sym same) (all_going start before steps all leading))))
  | inr earlier ↦ all_sent start before steps to bytes all leading earlier
]

pub asks_listed : AsksListed
asks_listed start now steps to bytes none leading has =
    all_sent start now steps to bytes (subst (λ (xs : List (SocketAddr × List ℕ)). All (GoesTo start.meters) xs) (sym none) (All-nil (GoesTo start.meters))) leading has

-- ---- a longer list

-- some meter of a list has this address, or none has
abbrev Has : List Listed → SocketAddr → Type 0
Has meters address = (meter : ℕ) × Contains meters (record { meter = meter; address = address })

abbrev HasNone : List Listed → SocketAddr → Type 0
HasNone meters address = (meter : ℕ) → ¬ Contains meters (record { meter = meter; address = address })

same_listed : (at : Listed) (meter : ℕ) (address : SocketAddr) → at.meter ≡ meter → at.address ≡ address → at ≡ record { meter = meter; address = address }
same_listed at meter address m a =
    ap (λ (n : ℕ). record at { meter = n }) m ∙ ap (λ (s : SocketAddr). record at { meter = meter; address = s }) a

has_or_none : (meters : List Listed) (address : SocketAddr) → Has meters address ⊎ HasNone meters address
has_or_none [] address = inr (λ meter has. none_there _ has)
has_or_none (at ∷ meters) address = ⊎_elim
    (λ (here : socket_eq.ghosts.eq at.address address ≡ true).
    inl (at.meter, subst (λ (x : Listed). Contains (at ∷ meters) x) (same_listed at at.meter address refl (exact_socket at.address address here)) (first_is at meters)))
    (λ (away : socket_eq.ghosts.eq at.address address ≡ false). ⊎_elim
    (λ (there : Has meters address). inl (there.0, later at _ meters there.1))
    (λ (none : HasNone meters address). inr (λ meter has. ⊎_elim
    (λ (e : at ≡ record { meter = meter; address = address }).
    false≢true (sym away ∙ ap (λ (x : SocketAddr). socket_eq.ghosts.eq x address) (ap (λ (x : Listed). x.address) e) ∙ equal_sockets.refl address))
    (λ (more : Contains meters (record { meter = meter; address = address })). none meter more)
    (first_or_later at meters _ has)))
    (has_or_none meters address))
    (cases_Bool (socket_eq.ghosts.eq at.address address))

-- what a head end passes over that has not the meter in its list, one with the longer list may pass over
passed_over : (all : List Listed) (old new : Leader) (from : SocketAddr) (datagram : List ℕ) (meter : ℕ) (row : Option Row) → row_of old.head.rows meter ≡ row → new ≡ old
    → Contains all (record { meter = meter; address = from })
    → HearsMeter (with_meters all old) from datagram (with_meters all new) ⊎ (HearsNot (with_meters all old) from datagram (with_meters all new)
    ⊎ HearsStranger (with_meters all old) from (with_meters all new))
passed_over all old new from datagram meter None none same listed = inl (record {
  meter = meter;
  listed = listed;
  heard = news.Nothing;
  end = record { at = 0; reason = None };
  takes = inr (none, refl, ap (λ (l : Leader). l.head) same);
  tells = refl;
  others = ap (with_meters all) (same ∙ sym (ap (λ (xs : List Ended). record old { unsaved = xs }) (append-nil old.unsaved))) ∙ ap (λ (h : Head). with_meters all (record old { head = h; unsaved = old.unsaved ++ [] })) (sym (ap (λ (l : Leader). l.head) same));
})
passed_over all old new from datagram meter (Some row) is same listed = inr (inl (record {
  meter = meter;
  listed = listed;
  live = ap is_some is;
  same = ap (with_meters all) same;
}))

longer_step : (all : List Listed) (old new : Leader) (made : Step) → IsWithin old.meters all → Steps old made new → Steps (with_meters all old) made (with_meters all new)
longer_step all old new (hears from datagram) within (inl h) = inl (record {
  meter = h.meter;
  listed = within _ h.listed;
  heard = h.heard;
  end = h.end;
  takes = h.takes;
  tells = h.tells;
  others = ap (with_meters all) h.others;
})
longer_step all old new (hears from datagram) within (inr (inl h)) =
    inr (inl (record { meter = h.meter; listed = within _ h.listed; live = h.live; same = ap (with_meters all) h.same }))
longer_step all old new (hears from datagram) within (inr (inr h)) = elim (has_or_none all from) [
  | inl has ↦ passed_over all old new from datagram has.0 (row_of old.head.rows has.0) refl h.same has.1
  | inr none ↦ inr (inr (record { strange = none; same = ap (with_meters all) h.same }))
]
longer_step all old new idles within e = ap (with_meters all) e
longer_step all old new (ticks meter) within t =
    record { sent_all = t.sent_all; to = t.to; listed = within _ t.listed; others = ap (with_meters all) t.others }
longer_step all old new (sends to bytes) within t = record { next = t.next; offered = t.offered; others = ap (with_meters all) t.others }
longer_step all old new saves within e = ap (with_meters all) e
longer_step all old new (tells ended) within t = record { next = t.next; on_device = t.on_device; others = ap (with_meters all) t.others }

pub shorter_lists_lead : ShorterListsLead
shorter_lists_lead start now [] all within e = ap (with_meters all) e
shorter_lists_lead start now (made ∷ steps) all within (before, leading, step) = (
  with_meters all before,
  shorter_lists_lead start before steps all within leading,
  longer_step all before now made (subst (λ (meters : List Listed). IsWithin meters all) (sym (lists_stay start before steps leading)) within) step,
)
