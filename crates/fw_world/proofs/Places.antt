-- What an event leaves of a world: its head end or its meter is written back, and all others are as they were.
use Rattle.std.proofs.Common.{◌≡◌, ℕ, nat_eq, List, [], ◌∷◌, ◌++◌, Option, Some, None, Result, Ok, Err, refl, sym, ap, subst, ◌∙◌, inl, inr}
use Rattle.std.specs.Prelude.{IfOk, IfErr}
use Rattle.std.specs.Map.{lookup, set_value}
use Rattle.std.proofs.lemmas.Map.Steps.{set_value_same}
use Rattle.fw_image.specs.Meter.{Image, Meter, restarted}
use Rattle.fw_head.specs.Head.{Head}
use Rattle.fw_world.specs.World.{Datagram, Activation}
use Rattle.fw_head.specs.declared.news.RowNews.{RowNews}
use Rattle.fw_head.specs.declared.news.RowNews.TheVariants.{Nothing, Moved, Done, Failed}
use Rattle.fw_head.specs.declared.news.News.{News}
use Rattle.fw_head.specs.Row.{Row}
use Rattle.fw_head.specs.Head.{went_on, HeadHears}
use Rattle.fw_world.specs.State.{State, IsState, head_at, meter_at, set_head, set_meter}
use Rattle.fw_world.specs.Step.{replies, activated}
use Rattle.fw_world.specs.Private.{replied, noted, switched_name, IsRunning}
use Rattle.fw_world.proofs.Refinement.{head_cases}

pub on_ok : {X E : Type 0} (r : Result X E) (P Q : X → Type 0) → ((x : X) → P x → Q x) → IfOk r P → IfOk r Q
on_ok (Ok x) P Q f h = f x h
on_ok (Err e) P Q f h = h

pub on_err : {X E : Type 0} (r : Result X E) (P Q : E → Type 0) → ((e : E) → P e → Q e) → IfErr r P → IfErr r Q
on_err (Ok x) P Q f h = h
on_err (Err e) P Q f h = f e h

pub told_err : {X E : Type 0} (r : Result X E) (P : Type 0) → P → IfErr r (λ _. P)
told_err (Ok x) P p = tt
told_err (Err e) P p = p

-- what was found is written back as it was
pub written_back : {X : Type 0} (key : ℕ) (old new : List (ℕ × X)) (found written : X) → lookup (nat_eq key) old ≡ Some found → new ≡ set_value (nat_eq key) old written → written ≡ found → new ≡ old
written_back key old new found written there set same = set ∙ set_value_same (nat_eq key) old written (there ∙ ap Some (sym same))

module _ (s old : State) (is : s ≡ old) (key number : ℕ) (same : key ≡ number) where
  pub head_found : (head : Head) → lookup (nat_eq key) s.heads ≡ Some head → head_at old number ≡ Some head
  head_found head there = sym (λ i. head_at (is i) (same i)) ∙ there

  pub meter_found : (meter : Meter) → lookup (nat_eq key) s.meters ≡ Some meter → meter_at old number ≡ Some meter
  meter_found meter there = sym (λ i. meter_at (is i) (same i)) ∙ there

  pub head_absent : lookup (nat_eq key) s.heads ≡ None → head_at old number ≡ None
  head_absent none = sym (λ i. head_at (is i) (same i)) ∙ none

  pub meter_absent : lookup (nat_eq key) s.meters ≡ None → meter_at old number ≡ None
  meter_absent none = sym (λ i. meter_at (is i) (same i)) ∙ none

  -- another head end, or another meter, stands under the number
  pub head_set : (new : List (ℕ × Head)) (written head : Head) → new ≡ set_value (nat_eq key) s.heads written → written ≡ head → (let w : State = record s { heads = new } in w) ≡ set_head old number head
  head_set new written head set e =
      ap (λ (hs : List (ℕ × Head)). let w : State = record s { heads = hs } in w) (set ∙ ap (set_value (nat_eq key) s.heads) e) ∙ (λ i. set_head (is i) (same i) head)

  pub meter_set : (new : List (ℕ × Meter)) (written meter : Meter) → new ≡ set_value (nat_eq key) s.meters written → written ≡ meter → (let w : State = record s { meters = new } in w) ≡ set_meter old number meter
  meter_set new written meter set e =
      ap (λ (ms : List (ℕ × Meter)). let w : State = record s { meters = ms } in w) (set ∙ ap (set_value (nat_eq key) s.meters) e) ∙ (λ i. set_meter (is i) (same i) meter)

  -- and more was sent, or switched to
  pub head_sends : (new : List (ℕ × Head)) (written head : Head) (sent more : List Datagram) → new ≡ set_value (nat_eq key) s.heads written → written ≡ head → sent ≡ s.sent ++ more
      → (let w : State = record s { heads = new; sent = sent } in w) ≡ record (set_head old number head) { sent = old.sent ++ more }
  head_sends new written head sent more set e grown i =
      record (head_set new written head set e i) { sent = (grown ∙ ap (λ (x : State). x.sent ++ more) is) i }

  pub meter_serves : (new : List (ℕ × Meter)) (written meter : Meter) (sent more : List Datagram) (activations notes : List Activation) → new ≡ set_value (nat_eq key) s.meters written → written ≡ meter
      → sent ≡ s.sent ++ more → activations ≡ s.activations ++ notes
      → (let w : State = record s { meters = new; sent = sent; activations = activations } in w) ≡ record (set_meter old number meter) { sent = old.sent ++ more; activations = old.activations ++ notes }
  meter_serves new written meter sent more activations notes set e grown noted i =
      record (meter_set new written meter set e i) { sent = (grown ∙ ap (λ (x : State). x.sent ++ more) is) i; activations = (noted ∙ ap (λ (x : State). x.activations ++ notes) is) i }

  pub meter_notes : (new : List (ℕ × Meter)) (written meter : Meter) (activations notes : List Activation) → new ≡ set_value (nat_eq key) s.meters written → written ≡ meter
      → activations ≡ s.activations ++ notes → (let w : State = record s { meters = new; activations = activations } in w) ≡ record (set_meter old number meter) { activations = old.activations ++ notes }
  meter_notes new written meter activations notes set e noted i =
      record (meter_set new written meter set e i) { activations = (noted ∙ ap (λ (x : State). x.activations ++ notes) is) i }

module _ (s old : State) (is : s ≡ old) (key : ℕ) where
  -- where it is written back as it was, the world is as it was; lists may have more room
  pub head_same : (new : List (ℕ × Head)) (found written : Head) (sent : List Datagram) → lookup (nat_eq key) s.heads ≡ Some found → new ≡ set_value (nat_eq key) s.heads written → written ≡ found → sent ≡ s.sent
      → (let w : State = record s { heads = new; sent = sent } in w) ≡ old
  head_same new found written sent there set e room = (λ i. record s { heads = written_back key s.heads new found written there set e i; sent = room i }) ∙ is

  pub meter_same : (new : List (ℕ × Meter)) (found written : Meter) (sent : List Datagram) (activations : List Activation) → lookup (nat_eq key) s.meters ≡ Some found → new ≡ set_value (nat_eq key) s.meters written
      → written ≡ found → sent ≡ s.sent → activations ≡ s.activations → (let w : State = record s { meters = new; sent = sent; activations = activations } in w) ≡ old
  meter_same new found written sent activations there set e room places =
      (λ i. record s { meters = written_back key s.meters new found written there set e i; sent = room i; activations = places i }) ∙ is

-- ---- each head end stays under its own number

some_head : (a b : Head) → Some a ≡ Some b → a ≡ b
some_head a b e = cc

-- so it does if its book stays with its head end
pub moved_own : (s : State) → IsState s → (key : ℕ) (new : List (ℕ × Head)) (found written : Head) → lookup (nat_eq key) s.heads ≡ Some found → new ≡ set_value (nat_eq key) s.heads written
    → written.book.head ≡ found.book.head → IsState (record s { heads = new })
moved_own s is key new found written there set keeps = subst (λ (hs : List (ℕ × Head)). IsState (record s { heads = hs })) (sym set) (record {
  own = λ number head e. elim (head_cases s key found written there number) [
    | inl at ↦ ap (λ (h : Head). h.book.head) (some_head head written (sym e ∙ at.becomes)) ∙ keeps ∙ is.own key found there ∙ sym at.is
    | inr other ↦ is.own number head (sym other.1 ∙ e)
  ];
})

went_keeps : (old : Head) (meter : ℕ) (row : Row) (heard : RowNews) → (went_on old meter row heard).book.head ≡ old.book.head
went_keeps old meter row Nothing = refl
went_keeps old meter row Moved = refl
went_keeps old meter row (Done claim) = refl
went_keeps old meter row (Failed why) = refl

pub hears_keeps : (old new : Head) (meter : ℕ) (datagram : List ℕ) (told : News) → HeadHears old meter datagram told new → new.book.head ≡ old.book.head
hears_keeps old new meter datagram told (inl h) = ap (λ (x : Head). x.book.head) h.new_is ∙ went_keeps old meter h.next h.heard
hears_keeps old new meter datagram told (inr h) = ap (λ (x : Head). x.book.head) h.2

-- ---- what is sent back, and what is noted

pub replied_is : (d : Datagram) (head meter : ℕ) (reply : Option (List ℕ)) → head ≡ d.head → meter ≡ d.meter → replied head meter reply ≡ replies d reply
replied_is d head meter reply heads meters = (λ i. replied (heads i) (meters i) reply) ∙ link reply
  where
    link : (r : Option (List ℕ)) → replied d.head d.meter r ≡ replies d r
    link None = refl
    link (Some bytes) = refl

pub noted_is : (meter number : ℕ) (switched : Option Image) (after : Meter) → meter ≡ number → IsRunning switched after → noted meter switched ≡ activated number (switched_name switched) after
noted_is meter number None after same runs = refl
noted_is meter number (Some image) after same runs =
    (λ i. record { meter = same i; name = image.name; bytes = (runs i).bytes } ∷ [])

-- so it is where the meter started again after that
pub noted_as : (meter number : ℕ) (switched : Option Image) (new after : Meter) → meter ≡ number → new ≡ restarted after → IsRunning switched new → noted meter switched ≡ activated number (switched_name switched) after
noted_as meter number switched new after same is runs = noted_is meter number switched after same (as_before switched (subst (IsRunning switched) is runs))
  where
    as_before : (s : Option Image) → IsRunning s (restarted after) → IsRunning s after
    as_before None r = tt
    as_before (Some image) r = r
