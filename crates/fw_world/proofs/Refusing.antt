-- What an event is refused for, by what was found of its head end and its meters.
use Rattle.std.proofs.Common.{◌≡◌, ℕ, nat_eq, Bool, true, false, List, Option, Some, None, is_some, Result, Ok, Err, refl, sym, ap, subst, ◌∙◌, inl, inr, if◌then◌else◌, slice_get}
use Rattle.std.specs.Prelude.{IfErr, IsErrAnd}
use Rattle.std.specs.List.{list_all}
use Rattle.std.specs.Map.{lookup}
use Rattle.fw_names.specs.Name.{Campaign}
use Rattle.fw_book.specs.declared.error.BookError.{BookError}
use Rattle.fw_book.specs.Changes.{opening_refusal, IsRefusal}
use Rattle.fw_head.specs.Head.{Head, campaign_at, RowsMayWant}
use Rattle.fw_image.specs.Meter.{Meter}
use Rattle.fw_world.specs.declared.datagram.Direction.{Direction}
use Rattle.fw_world.specs.declared.datagram.Direction.TheVariants.{ToMeter, ToHead}
use Rattle.fw_world.specs.declared.error.StepError.{StepError}
use Rattle.fw_world.specs.declared.error.StepError.TheVariants.{NoSuchActor, OutOfMemory}
use Rattle.fw_world.specs.World.{Datagram}
use Rattle.fw_world.specs.Step.{Event, open_campaign, tick, deliver, stop}
use Rattle.fw_world.specs.State.{State, head_at, meter_at}
use Rattle.fw_world.specs.Refusals.{of_book, by_book, with_head, with_meter, with_datagram, no_addressee, no_stop, refusal_of, AddresseeMayWant, MeterMayWant, MayWantMemory, IsRefused}
use Rattle.fw_world.proofs.Places.{head_found}

-- what is returned is this error
pub refused_by : {X : Type 0} (r : Result X StepError) (error : StepError) (Q : StepError → Type 0) → IsErrAnd r (λ e. e ≡ error) → Q error → IfErr r Q
refused_by (Ok x) error Q h q = tt
refused_by (Err e) error Q h q = subst Q (sym h) q

-- memory is refused, and nothing else
pub wants_memory : {X : Type 0} (r : Result X StepError) (s : State) (event : Event) → IsErrAnd r (λ e. e ≡ OutOfMemory) → refusal_of s event ≡ None → MayWantMemory s event → IfErr r (IsRefused s event)
wants_memory r s event h none may = refused_by r OutOfMemory (IsRefused s event) h (inr (none, refl, may))

-- ---- an opening

pub own_campaign : (head : Head) (campaign : Campaign) (key serial : ℕ) → head.book.head ≡ key → key ≡ campaign.head → serial ≡ campaign.serial → campaign_at head serial ≡ campaign
own_campaign head campaign key serial own same is i = record { head = (own ∙ same) i; serial = is i }

module _ (s old : State) (is : s ≡ old) (campaign : Campaign) (key : ℕ) (same : key ≡ campaign.head) (head : Head) (found : lookup (nat_eq key) s.heads ≡ Some head) (release : ℕ) (image meters : List ℕ)
    (all : Bool) (are : all ≡ list_all (λ meter. is_some (lookup (nat_eq meter) s.meters)) meters) where
  abbrev opening_by : Bool → Option StepError
  opening_by b = if b then by_book (opening_refusal head.book campaign image meters) else Some NoSuchActor

  refusal_is : refusal_of old (open_campaign campaign release image meters) ≡ opening_by all
  refusal_is =
      ap (λ (o : Option Head). with_head o (λ head. if list_all (λ meter. is_some (meter_at old meter)) meters then by_book (opening_refusal head.book campaign image meters) else Some NoSuchActor))
      (head_found s old is key campaign.head same head found)
      ∙ ap opening_by (sym (are ∙ ap (λ (x : State). list_all (λ meter. is_some (meter_at x meter)) meters) is))

  pub unknown_meters : all ≡ false → IsRefused old (open_campaign campaign release image meters) NoSuchActor
  unknown_meters none = inl (refusal_is ∙ ap opening_by none)

  module _ (there : all ≡ true) (serial : ℕ) (own : campaign_at head serial ≡ campaign) where
    by_books : refusal_of old (open_campaign campaign release image meters) ≡ by_book (opening_refusal head.book (campaign_at head serial) image meters)
    by_books = refusal_is ∙ ap opening_by there ∙ ap (λ (c : Campaign). by_book (opening_refusal head.book c image meters)) (sym own)

    pub opening_admitted : opening_refusal head.book (campaign_at head serial) image meters ≡ None → refusal_of old (open_campaign campaign release image meters) ≡ None
    opening_admitted none = by_books ∙ ap by_book none

    pub opening_refused : (error : BookError) → IsRefusal (opening_refusal head.book (campaign_at head serial) image meters) error → IsRefused old (open_campaign campaign release image meters) (of_book error)
    opening_refused error refused = go (opening_refusal head.book (campaign_at head serial) image meters) refl refused
      where
        go : (o : Option BookError) → opening_refusal head.book (campaign_at head serial) image meters ≡ o → IsRefusal o error → IsRefused old (open_campaign campaign release image meters) (of_book error)
        go (Some refusal) e h = inl (by_books ∙ ap by_book e ∙ ap (λ (x : BookError). Some (of_book x)) (sym h))
        go None e h = inr (by_books ∙ ap by_book e, ap of_book h, tt)

-- ---- a tick

pub tick_admitted : (s : State) (number meter : ℕ) (head : Head) → head_at s number ≡ Some head → is_some (meter_at s meter) ≡ true → refusal_of s (tick number meter) ≡ None
tick_admitted s number meter head there here = ap (λ (o : Option Head). with_head o (λ head. with_meter (meter_at s meter))) there ∙ go (meter_at s meter) here
  where
    go : (o : Option Meter) → is_some o ≡ true → with_meter o ≡ None
    go None e = absurd cc
    go (Some m) e = refl

-- ---- a delivery, and a stop

module _ (s old : State) (is : s ≡ old) (number : ℕ) (d : Datagram) (at : slice_get s.sent number ≡ Some d) where
  there : slice_get old.sent number ≡ Some d
  there = sym (ap (λ (x : State). slice_get x.sent number) is) ∙ at

  pub delivered_to_meter : (meter : Meter) → d.direction ≡ ToMeter → meter_at old d.meter ≡ Some meter → refusal_of old (deliver number) ≡ None
  delivered_to_meter meter way found =
      ap (λ (o : Option Datagram). with_datagram o (λ d. no_addressee old d.direction d)) there ∙ ap (λ (w : Direction). no_addressee old w d) way ∙ ap with_meter found

  pub delivered_to_head : (head : Head) → d.direction ≡ ToHead → head_at old d.head ≡ Some head → refusal_of old (deliver number) ≡ None
  delivered_to_head head way found =
      ap (λ (o : Option Datagram). with_datagram o (λ d. no_addressee old d.direction d)) there ∙ ap (λ (w : Direction). no_addressee old w d) way
      ∙ ap (λ (o : Option Head). with_head o (λ head. None)) found

  pub meter_may_want : (meter : Meter) → d.direction ≡ ToMeter → meter_at old d.meter ≡ Some meter → (bytes : List ℕ) → bytes ≡ d.bytes → MeterMayWant meter bytes → MayWantMemory old (deliver number)
  meter_may_want meter way found bytes carried may = (d, there, subst (λ (w : Direction). AddresseeMayWant old w d) (sym way) (meter, found, subst (MeterMayWant meter) carried may))

  pub head_may_want : (head : Head) → d.direction ≡ ToHead → head_at old d.head ≡ Some head → (from : ℕ) (bytes : List ℕ) → from ≡ d.meter → bytes ≡ d.bytes → RowsMayWant head.rows from bytes
      → MayWantMemory old (deliver number)
  head_may_want head way found from bytes by carried may =
      let wants = subst (λ (m : ℕ). RowsMayWant head.rows m d.bytes) by (subst (RowsMayWant head.rows from) carried may) in
      (d, there, subst (λ (w : Direction). AddresseeMayWant old w d) (sym way) (head, found, wants))

  pub stop_may_want : (calls torn : ℕ) (meter : Meter) → meter_at old d.meter ≡ Some meter → (bytes : List ℕ) → bytes ≡ d.bytes → MeterMayWant meter bytes → MayWantMemory old (stop number calls torn)
  stop_may_want calls torn meter found bytes carried may = (d, meter, there, found, subst (MeterMayWant meter) carried may)

  pub stopped_meter : (calls torn : ℕ) (meter : Meter) → d.direction ≡ ToMeter → meter_at old d.meter ≡ Some meter → refusal_of old (stop number calls torn) ≡ None
  stopped_meter calls torn meter way found =
      ap (λ (o : Option Datagram). with_datagram o (λ d. no_stop old d.direction d)) there ∙ ap (λ (w : Direction). no_stop old w d) way ∙ ap with_meter found
