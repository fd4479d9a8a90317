-- Orders, step after step.
use Rattle.std.proofs.Common.{◌≡◌, ◌≢◌, ◌++◌, ◌+◌, ◌<◌, ◌≤◌, ◌⊎◌, ℕ, Bool, true, false, cond, eqb, List, [], ◌∷◌, map, Option, Some, None, length, slice_get, inl, inr, refl, sym, ap, subst, ◌∙◌, arith, ⊎_elim, append_assoc, append-nil, length-append}
use Rattle.std.specs.Prelude.{Contains, filter}
use Rattle.std.specs.Option.{option_map, option_map_or}
use Rattle.std.specs.declared.net.socket_addr.SocketAddr.{SocketAddr}
use Rattle.std.proofs.lemmas.Bool.{cases_Bool, eqb-true, eqb-false}
use Rattle.std.proofs.lemmas.Bool.Decides.{Decides-eqb}
use Rattle.std.proofs.lemmas.List.{map-append}
use Rattle.std.proofs.lemmas.List.Elements.{Contains-append_left, Contains-append_right, Contains-append_cases, filter-append}
use Rattle.fw_audit.specs.Log.{Item, came, sent}
use Rattle.fw_order.specs.Order.{End, HasSent, IsCausal, IsEnd, IsExplained, Step, address_of, items_of, log_at}
use Rattle.fw_order.proofs.Lists.{heads, no_cons, none_in, one_in, first_in, in_rest, tails}

-- ---- the items of an end

pub items_append : (order more : List Step) (number : ℕ) → items_of (order ++ more) number ≡ items_of order number ++ items_of more number
items_append order more number =
    ap (map (λ (step : Step). step.item)) (filter-append (λ (step : Step). eqb step.end number) order more)
    ∙ map-append (λ (step : Step). step.item) (filter (λ (step : Step). eqb step.end number) order) (filter (λ (step : Step). eqb step.end number) more)

pub items_cons_own : (step : Step) (order : List Step) (number : ℕ) → step.end ≡ number → items_of (step ∷ order) number ≡ step.item ∷ items_of order number
items_cons_own step order number own =
    ap
    (λ (b : Bool). map (λ (s : Step). s.item) (cond b (step ∷ filter (λ (s : Step). eqb s.end number) order) (filter (λ (s : Step). eqb s.end number) order)))
    ((Decides-eqb step.end number).1 own)

pub items_cons_other : (step : Step) (order : List Step) (number : ℕ) → eqb step.end number ≡ false → items_of (step ∷ order) number ≡ items_of order number
items_cons_other step order number other =
    ap
    (λ (b : Bool). map (λ (s : Step). s.item) (cond b (step ∷ filter (λ (s : Step). eqb s.end number) order) (filter (λ (s : Step). eqb s.end number) order)))
    other

pub items_push_own : (order : List Step) (step : Step) (number : ℕ) → step.end ≡ number → items_of (order ++ step ∷ []) number ≡ items_of order number ++ step.item ∷ []
items_push_own order step number own =
    items_append order (step ∷ []) number ∙ ap (λ (l : List Item). items_of order number ++ l) (items_cons_own step [] number own)

pub items_push_other : (order : List Step) (step : Step) (number : ℕ) → eqb step.end number ≡ false → items_of (order ++ step ∷ []) number ≡ items_of order number
items_push_other order step number other =
    items_append order (step ∷ []) number ∙ ap (λ (l : List Item). items_of order number ++ l) (items_cons_other step [] number other)
    ∙ append-nil (items_of order number)

-- a step whose item it is
pub record IsFound (order : List Step) (number : ℕ) (item : Item) : Type 0 where
  pub before : List Step
  pub after : List Step
  pub step : Step
  pub split : order ≡ before ++ step ∷ after
  pub own : step.end ≡ number
  pub is : step.item ≡ item

found_later : (first : Step) (order : List Step) (number : ℕ) (item : Item) → IsFound order number item → IsFound (first ∷ order) number item
found_later first order number item found = record {
  before = first ∷ found.before;
  after = found.after;
  step = found.step;
  split = ap (λ (l : List Step). first ∷ l) found.split;
  own = found.own;
  is = found.is;
}

pub find_step : (order : List Step) (number : ℕ) (item : Item) → Contains (items_of order number) item → IsFound order number item
find_step [] number item c = absurd (none_in item c)
find_step (first ∷ order) number item c =
    ⊎_elim
    (λ (own : eqb first.end number ≡ true).
    let same : first.end ≡ number = eqb-true first.end number own in
    let here : Contains (first.item ∷ items_of order number) item = subst (λ (l : List Item). Contains l item) (items_cons_own first order number same) c in
    ⊎_elim
    (λ (one : Contains (first.item ∷ []) item). record { before = []; after = order; step = first; split = refl; own = same; is = one_in first.item item one })
    (λ (later : Contains (items_of order number) item). found_later first order number item (find_step order number item later))
    (Contains-append_cases (first.item ∷ []) (items_of order number) item here))
    (λ (other : eqb first.end number ≡ false). found_later first order number item (find_step order number item (subst (λ (l : List Item). Contains l item) (items_cons_other first order number other) c)))
    (cases_Bool (eqb first.end number))

-- ---- causes

pub causal_none : (ends : List End) → IsCausal ends []
causal_none ends before after step e =
    let sizes : length (before ++ step ∷ after) ≡ 0 = sym (ap length e) in absurd (omega (arith, length-append before (step ∷ after)))

split_push : (order : List Step) (last : Step) (before after : List Step) (step : Step) → order ++ last ∷ [] ≡ before ++ step ∷ after
    → ((before ≡ order) × (step ≡ last)) ⊎ ((rest : List Step) × (order ≡ before ++ step ∷ rest))
split_push [] last [] after step e = inl (refl, sym (heads last step [] after e))
split_push [] last (b ∷ before) after step e =
    let sizes : length (before ++ step ∷ after) ≡ 0 = sym (ap length (tails last b [] (before ++ step ∷ after) e)) in
    absurd (omega (arith, length-append before (step ∷ after)))
split_push (o ∷ order) last [] after step e = inr (order, ap (λ (s : Step). s ∷ order) (heads o step (order ++ last ∷ []) after e))
split_push (o ∷ order) last (b ∷ before) after step e =
    let first : o ≡ b = heads o b (order ++ last ∷ []) (before ++ step ∷ after) e in
    ⊎_elim
    (λ (h : (before ≡ order) × (step ≡ last)). inl (ap (λ (l : List Step). b ∷ l) h.0 ∙ ap (λ (s : Step). s ∷ order) (sym first), h.1))
    (λ (h : (rest : List Step) × (order ≡ before ++ step ∷ rest)). inr (h.0, ap (λ (s : Step). s ∷ order) first ∙ ap (λ (l : List Step). b ∷ l) h.1))
    (split_push order last before after step (tails o b (order ++ last ∷ []) (before ++ step ∷ after) e))

pub causal_push : (ends : List End) (order : List Step) (last : Step) → IsCausal ends order → IsExplained ends order last → IsCausal ends (order ++ last ∷ [])
causal_push ends order last causal own before after step e =
    ⊎_elim
    (λ (h : (before ≡ order) × (step ≡ last)). subst (λ (l : List Step). IsExplained ends l step) (sym h.0) (subst (IsExplained ends order) (sym h.1) own))
    (λ (h : (rest : List Step) × (order ≡ before ++ step ∷ rest)). causal before h.0 step h.1)
    (split_push order last before after step e)

-- ---- what was sent

module _ (ends : List End) (order : List Step) (last : Step) (from to : SocketAddr) (bytes : List ℕ) where
  pub sent_more : HasSent ends order from to bytes → HasSent ends (order ++ last ∷ []) from to bytes
  sent_more (number, own, c) = (
    number,
    own,
    subst (λ (l : List Item). Contains l (sent to bytes)) (sym (items_append order (last ∷ []) number))
        (Contains-append_left (items_of order number) (items_of (last ∷ []) number) (sent to bytes) c),
  )

  pub sent_last : address_of ends last.end ≡ Some from → last.item ≡ sent to bytes → HasSent ends (order ++ last ∷ []) from to bytes
  sent_last own is = (
    last.end,
    own,
    subst (λ (l : List Item). Contains l (sent to bytes)) (sym (items_push_own order last last.end refl))
        (Contains-append_right (items_of order last.end) (last.item ∷ []) (sent to bytes) (subst (λ (i : Item). Contains (last.item ∷ []) i) is (first_in last.item []))),
  )

  pub sent_cases : HasSent ends (order ++ last ∷ []) from to bytes → HasSent ends order from to bytes ⊎ ((address_of ends last.end ≡ Some from) × (last.item ≡ sent to bytes))
  sent_cases (number, own, c) =
      ⊎_elim
      (λ (is : eqb last.end number ≡ true).
      let same : last.end ≡ number = eqb-true last.end number is in
      ⊎_elim (λ (early : Contains (items_of order number) (sent to bytes)). inl (number, own, early))
      (λ (late : Contains (last.item ∷ []) (sent to bytes)). inr (ap (address_of ends) same ∙ own, one_in last.item (sent to bytes) late))
      (Contains-append_cases (items_of order number) (last.item ∷ []) (sent to bytes) (subst (λ (l : List Item). Contains l (sent to bytes)) (items_push_own order last number same) c)))
      (λ (other : eqb last.end number ≡ false). inl (number, own, subst (λ (l : List Item). Contains l (sent to bytes)) (items_push_other order last number other) c))
      (cases_Bool (eqb last.end number))

-- ---- logs and addresses

log_address : (end : Option End) (item : Item) (rest : List Item) → option_map_or (λ (e : End). e.log) end [] ≡ item ∷ rest → (at : SocketAddr) × (option_map (λ (e : End). e.at) end ≡ Some at)
log_address None item rest e = absurd (no_cons item rest (sym e))
log_address (Some end) item rest e = (end.at, refl)

-- an end with a log has an address
pub has_address : (ends : List End) (number : ℕ) (item : Item) (rest : List Item) → log_at ends number ≡ item ∷ rest → (at : SocketAddr) × (address_of ends number ≡ Some at)
has_address ends number item rest e = log_address (slice_get ends number) item rest e

pub log_of_got : (ends : List End) (number : ℕ) (end : End) → slice_get ends number ≡ Some end → log_at ends number ≡ end.log
log_of_got ends number end e = ap (λ (o : Option End). option_map_or (λ (x : End). x.log) o []) e

pub address_of_got : (ends : List End) (number : ℕ) (end : End) → slice_get ends number ≡ Some end → address_of ends number ≡ Some end.at
address_of_got ends number end e = ap (option_map (λ (x : End). x.at)) e
