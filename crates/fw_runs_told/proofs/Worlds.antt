-- What a world has that was changed at one meter, and runs one after the other.
use Rattle.std.proofs.Common.{◌≡◌, ◌≢◌, ℕ, nat_eq, Bool, true, false, ◌&&◌, List, [], ◌∷◌, ◌++◌, Option, Some, refl, sym, subst, ◌∙◌, eqb-true}
use Rattle.std.specs.Prelude.{Contains}
use Rattle.std.proofs.lemmas.Bool.{cond-true, cond-false, ne_eqb}
use Rattle.std.proofs.lemmas.Bool.Decides.{Decides-eqb}
use Rattle.std.proofs.lemmas.List.Elements.{Contains-append_left}
use Rattle.fw_names.specs.Name.{Campaign}
use Rattle.fw_image.specs.Meter.{Meter}
use Rattle.fw_world.specs.Step.{Event, Run, WorldStep}
use Rattle.fw_world.specs.World.{Datagram, World, put, same_campaign}

pub itself : (n : ℕ) → nat_eq n n ≡ true
itself n = (Decides-eqb n n).1 refl

both_true : (a b : Bool) → (a && b) ≡ true → (a ≡ true) × (b ≡ true)
both_true true true e = (refl, refl)
both_true true false e = cc
both_true false b e = cc

pub same_campaign_is : (a b : Campaign) → same_campaign a b ≡ true → a ≡ b
same_campaign_is a b e =
    let both = both_true (nat_eq a.head b.head) (nat_eq a.serial b.serial) e in
    let heads : a.head ≡ b.head = eqb-true a.head b.head both.0 in
    let serials : a.serial ≡ b.serial = eqb-true a.serial b.serial both.1 in
    λ i. record { head = heads i; serial = serials i }

both_itself : (a b : Bool) → a ≡ true → b ≡ true → (a && b) ≡ true
both_itself true true x y = refl
both_itself true false x y = cc
both_itself false b x y = cc

pub campaign_itself : (c : Campaign) → same_campaign c c ≡ true
campaign_itself c = both_itself (nat_eq c.head c.head) (nat_eq c.serial c.serial) (itself c.head) (itself c.serial)

-- ---- one meter

pub put_own : (meters : ℕ → Option Meter) (number : ℕ) (meter : Meter) → put nat_eq meters number (Some meter) number ≡ Some meter
put_own meters number meter = cond-true (nat_eq number number) (Some meter) (meters number) (itself number)

pub put_other : (meters : ℕ → Option Meter) (number other : ℕ) (meter : Meter) → other ≢ number → put nat_eq meters number (Some meter) other ≡ meters other
put_other meters number other meter apart = cond-false (nat_eq other number) (Some meter) (meters other) (ne_eqb other number apart)

-- ---- runs

pub run_append : (old mid new : World) (first second : List Event) → Run old first mid → Run mid second new → Run old (first ++ second) new
run_append old mid new [] second one two = subst (λ (w : World). Run w second new) one two
run_append old mid new (event ∷ events) second one two = (one.0, one.1, run_append one.0 mid new events second one.2 two)

-- Events lead on, and no campaign was opened and no meter marked as done.
pub record Led (old new : World) : Type 0 where
  pub events : List Event
  pub run : Run old events new
  pub offered : new.offered ≡ old.offered
  pub done : new.done ≡ old.done
  pub grows : (d : Datagram) → Contains old.sent d → Contains new.sent d

pub led_none : (w : World) → Led w w
led_none w = record { events = []; run = refl; offered = refl; done = refl; grows = λ d c. c }

pub led_one : (old new : World) (event : Event) (more : List Datagram) → WorldStep old event new → new.offered ≡ old.offered → new.done ≡ old.done → new.sent ≡ old.sent ++ more → Led old new
led_one old new event more step offered done sends = record {
  events = event ∷ [];
  run = (new, step, refl);
  offered = offered;
  done = done;
  grows = λ d c. subst (λ (l : List Datagram). Contains l d) (sym sends) (Contains-append_left old.sent more d c);
}

pub led_append : (old mid new : World) → Led old mid → Led mid new → Led old new
led_append old mid new first second = record {
  events = first.events ++ second.events;
  run = run_append old mid new first.events second.events first.run second.run;
  offered = second.offered ∙ first.offered;
  done = second.done ∙ first.done;
  grows = λ d c. second.grows d (first.grows d c);
}
