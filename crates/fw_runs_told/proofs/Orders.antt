-- Orders, step after step.
use Rattle.std.proofs.Common.{◌≡◌, ◌++◌, ◌⊎◌, ℕ, Bool, true, false, cond, eqb, List, [], ◌∷◌, map, Option, Some, slice_get, inl, inr, refl, sym, ap, subst, ◌∙◌, ⊎_elim}
use Rattle.std.specs.Prelude.{Contains, filter}
use Rattle.std.specs.Option.{option_map, option_map_or}
use Rattle.std.specs.declared.net.socket_addr.SocketAddr.{SocketAddr}
use Rattle.std.proofs.lemmas.Bool.{cases_Bool, eqb-true}
use Rattle.std.proofs.lemmas.Bool.Decides.{Decides-eqb}
use Rattle.std.proofs.lemmas.List.{map-append}
use Rattle.std.proofs.lemmas.List.Elements.{Contains-append_cases, Contains-append_left, Contains-append_right, filter-append}
use Rattle.fw_audit.specs.Log.{Item, sent}
use Rattle.fw_order.specs.Order.{End, HasSent, Step, address_of, items_of, log_at}
use Rattle.fw_runs_told.proofs.Lists.{first_in, in_cases, none_in, one_in}

-- ---- the items of an end

pub items_append : (order more : List Step) (number : ℕ) → items_of (order ++ more) number ≡ items_of order number ++ items_of more number
items_append order more number =
    ap (map (λ (step : Step). step.item)) (filter-append (λ (step : Step). eqb step.end number) order more)
    ∙ map-append (λ (step : Step). step.item) (filter (λ (step : Step). eqb step.end number) order) (filter (λ (step : Step). eqb step.end number) more)

pub items_own : (step : Step) (order : List Step) (number : ℕ) → step.end ≡ number → items_of (step ∷ order) number ≡ step.item ∷ items_of order number
items_own step order number own =
    ap
    (λ (b : Bool). map (λ (s : Step). s.item) (cond b (step ∷ filter (λ (s : Step). eqb s.end number) order) (filter (λ (s : Step). eqb s.end number) order)))
    ((Decides-eqb step.end number).1 own)

pub items_other : (step : Step) (order : List Step) (number : ℕ) → eqb step.end number ≡ false → items_of (step ∷ order) number ≡ items_of order number
items_other step order number other =
    ap
    (λ (b : Bool). map (λ (s : Step). s.item) (cond b (step ∷ filter (λ (s : Step). eqb s.end number) order) (filter (λ (s : Step). eqb s.end number) order)))
    other

-- an item of an end, after which others come
pub item_there : (before after : List Step) (step : Step) → Contains (items_of (before ++ step ∷ after) step.end) step.item
item_there before after step =
    subst (λ (l : List Item). Contains l step.item) (sym (items_append before (step ∷ after) step.end))
    (Contains-append_right (items_of before step.end) (items_of (step ∷ after) step.end) step.item
    (subst (λ (l : List Item). Contains l step.item) (sym (items_own step after step.end refl)) (first_in step.item (items_of after step.end))))

-- a step whose item it is
pub record IsFound (order : List Step) (number : ℕ) (item : Item) : Type 0 where
  pub before : List Step
  pub after : List Step
  pub step : Step
  pub split : order ≡ before ++ step ∷ after
  pub own : step.end ≡ number
  pub is : step.item ≡ item

found_later : (first : Step) (order : List Step) (number : ℕ) (item : Item) → IsFound order number item → IsFound (first ∷ order) number item
found_later first order number item found = record {
  before = first ∷ found.before;
  after = found.after;
  step = found.step;
  split = ap (λ (l : List Step). first ∷ l) found.split;
  own = found.own;
  is = found.is;
}

pub find_step : (order : List Step) (number : ℕ) (item : Item) → Contains (items_of order number) item → IsFound order number item
find_step [] number item c = absurd (none_in item c)
find_step (first ∷ order) number item c =
    ⊎_elim
    (λ (own : eqb first.end number ≡ true).
    let same : first.end ≡ number = eqb-true first.end number own in
    ⊎_elim
    (λ (one : first.item ≡ item). record { before = []; after = order; step = first; split = refl; own = same; is = one })
    (λ (later : Contains (items_of order number) item). found_later first order number item (find_step order number item later))
    (in_cases first.item item (items_of order number) (subst (λ (l : List Item). Contains l item) (items_own first order number same) c)))
    (λ (other : eqb first.end number ≡ false).
    found_later first order number item (find_step order number item (subst (λ (l : List Item). Contains l item) (items_other first order number other) c)))
    (cases_Bool (eqb first.end number))

-- ---- what was sent

module _ (ends : List End) (from to : SocketAddr) (bytes : List ℕ) where
  pub none_sent : HasSent ends [] from to bytes → ⊥
  none_sent (number, own, c) = none_in (sent to bytes) c

  pub sent_more : (order more : List Step) → HasSent ends order from to bytes → HasSent ends (order ++ more) from to bytes
  sent_more order more (number, own, c) = (
    number,
    own,
    subst (λ (l : List Item). Contains l (sent to bytes)) (sym (items_append order more number))
        (Contains-append_left (items_of order number) (items_of more number) (sent to bytes) c),
  )

  sent_last : (last : Step) (number : ℕ) → address_of ends number ≡ Some from → Contains (items_of (last ∷ []) number) (sent to bytes)
      → (address_of ends last.end ≡ Some from) × (last.item ≡ sent to bytes)
  sent_last last number own c =
      ⊎_elim
      (λ (is : eqb last.end number ≡ true).
      let same : last.end ≡ number = eqb-true last.end number is in
      let one : Contains (last.item ∷ []) (sent to bytes) = subst (λ (l : List Item). Contains l (sent to bytes)) (items_own last [] number same) c in
      (ap (address_of ends) same ∙ own, one_in last.item (sent to bytes) one))
      (λ (other : eqb last.end number ≡ false). absurd (none_in (sent to bytes) (subst (λ (l : List Item). Contains l (sent to bytes)) (items_other last [] number other) c)))
      (cases_Bool (eqb last.end number))

  pub sent_cases : (order : List Step) (last : Step) → HasSent ends (order ++ last ∷ []) from to bytes
      → HasSent ends order from to bytes ⊎ ((address_of ends last.end ≡ Some from) × (last.item ≡ sent to bytes))
  sent_cases order last (number, own, c) =
      ⊎_elim (λ (early : Contains (items_of order number) (sent to bytes)). inl (number, own, early))
      (λ (late : Contains (items_of (last ∷ []) number) (sent to bytes)). inr (sent_last last number own late))
      (Contains-append_cases (items_of order number) (items_of (last ∷ []) number) (sent to bytes)
      (subst (λ (l : List Item). Contains l (sent to bytes)) (items_append order (last ∷ []) number) c))

-- ---- logs and addresses

pub log_of_got : (ends : List End) (number : ℕ) (end : End) → slice_get ends number ≡ Some end → log_at ends number ≡ end.log
log_of_got ends number end e = ap (λ (o : Option End). option_map_or (λ (x : End). x.log) o []) e

pub address_of_got : (ends : List End) (number : ℕ) (end : End) → slice_get ends number ≡ Some end → address_of ends number ≡ Some end.at
address_of_got ends number end e = ap (option_map (λ (x : End). x.at)) e
