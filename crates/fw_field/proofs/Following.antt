-- A world that a field is, except that it may have marks which the books in memory lack, and what holds of each field.
use Rattle.std.proofs.Common.{◌≡◌, ℕ, nat_eq, Bool, true, false, cond, ◌⊎◌, ⊎_elim, List, Option, Some, option_map, Contains, refl, sym, ap, subst, ◌∙◌, eqb-true}
use Rattle.std.proofs.lemmas.Bool.{cond-true}
use Rattle.fw_names.specs.Name.{Campaign}
use Rattle.fw_image.specs.Meter.{Meter}
use Rattle.fw_book.specs.Contents.{Contents, image_in, state_in}
use Rattle.fw_ledger.specs.declared.record.Ending.TheVariants.{Done as IsDone}
use Rattle.fw_head.specs.Head.{IsHead}
use Rattle.fw_daemon.specs.Daemon.{Daemon}
use Rattle.fw_rollout.specs.Leading.{Leader}
use Rattle.fw_rollout.specs.declared.ended.Ended.{Ended}
use Rattle.fw_world.specs.State.{is_done}
use Rattle.fw_world.specs.Step.{Event, Run}
use Rattle.fw_world.specs.World.{Activation, Datagram, World}
use Rattle.fw_field.specs.Field.{Field, Has, is_saved, offered_by, done_by, saved_by, with_daemon, with_leader, world_of}
use Rattle.fw_field.proofs.Maps.{put_cases}

pub record Simulates (f : Field) (w : World) : Type 0 where
  pub offered : (c : Campaign) → w.offered c ≡ (world_of f).offered c
  pub sent : w.sent ≡ f.sent
  pub meters : (n : ℕ) → w.meters n ≡ (world_of f).meters n
  pub activations : w.activations ≡ f.activations
  pub done : (c : Campaign) (m : ℕ) → (world_of f).done c m ≡ true → w.done c m ≡ true

-- Of the books of a head end, in memory and on the device: both are its own, they offer the same, and what is done on the device is done in
-- memory.
pub record IsKept (number : ℕ) (book synced : Contents) : Type 0 where
  pub own : book.head ≡ number
  pub synced_own : synced.head ≡ number
  pub images : (c : Campaign) → nat_eq c.head number ≡ true → image_in synced c ≡ image_in book c
  pub done : (c : Campaign) (m : ℕ) → nat_eq c.head number ≡ true → is_done (state_in synced c m) ≡ true → is_done (state_in book c m) ≡ true

pub record IsSound (f : Field) : Type 0 where
  pub rows : (number : ℕ) (leader : Leader) → f.heads number ≡ Some leader → IsHead leader.head
  pub meters : (number : ℕ) (daemon : Daemon) → f.meters number ≡ Some daemon → Has daemon daemon.state.meter
  pub heads : (number : ℕ) (leader : Leader) → f.heads number ≡ Some leader → IsKept number leader.head.book leader.synced
  pub told : (ended : Ended) → Contains f.told ended → ended.ending ≡ IsDone → is_saved f ended.campaign ended.meter ≡ true

-- events lead to a world that the field is
pub record Follows (w : World) (new : Field) : Type 0 where
  pub events : List Event
  pub world : World
  pub run : Run w events world
  pub simulates : Simulates new world

pub record Goes (w : World) (new : Field) : Type 0 where
  pub follows : Follows w new
  pub sound : IsSound new

-- ---- a meter goes on

abbrev pub next_meter : Field → ℕ → Daemon → List Datagram → List Activation → Field
next_meter old number after sent activations = record (with_daemon old number after) { sent = sent; activations = activations }

pub meter_of : (old : Field) (w : World) (number : ℕ) (before : Daemon) → Simulates old w → old.meters number ≡ Some before → w.meters number ≡ Some before.state.meter
meter_of old w number before s there = s.meters number ∙ ap (λ o. option_map (λ (d : Daemon). d.state.meter) o) there

pub meter_moves : (old : Field) (number : ℕ) (after : Daemon) (sent : List Datagram) (activations : List Activation) (w new : World) → Simulates old w
    → new.sent ≡ sent → new.activations ≡ activations → new.offered ≡ w.offered → new.done ≡ w.done
    → ((q : ℕ) → nat_eq q number ≡ true → new.meters q ≡ Some after.state.meter) → ((q : ℕ) → nat_eq q number ≡ false → new.meters q ≡ w.meters q)
    → Simulates (next_meter old number after sent activations) new
meter_moves old number after sent activations w new s same_sent same_activations same_offered same_done here away = record {
  offered = λ c. ap (λ (f : Campaign → Option (List ℕ)). f c) same_offered ∙ s.offered c;
  sent = same_sent;
  meters = λ q. at q (nat_eq q number) refl;
  activations = same_activations;
  done = λ c m e. ap (λ (f : Campaign → ℕ → Bool). f c m) same_done ∙ s.done c m e;
}
  where
    at : (q : ℕ) (b : Bool) → nat_eq q number ≡ b → new.meters q ≡ option_map (λ (d : Daemon). d.state.meter) (cond b (Some after) (old.meters q))
    at q true is = here q is
    at q false is = away q is ∙ s.meters q

pub meter_sound : (old : Field) (number : ℕ) (after : Daemon) (sent : List Datagram) (activations : List Activation) → IsSound old → Has after after.state.meter
    → IsSound (next_meter old number after sent activations)
meter_sound old number after sent activations s has = record {
  meters = λ q daemon e. ⊎_elim
      (λ here. subst (λ (d : Daemon). Has d d.state.meter) here.1 has)
      (λ was. s.meters q daemon was)
      (put_cases old.meters number q after daemon e);
  rows = s.rows;
  heads = s.heads;
  told = s.told;
}

-- ---- a head end goes on

abbrev pub next_head : Field → ℕ → Leader → List Datagram → List Ended → Field
next_head old number after sent told = record (with_leader old number after) { sent = sent; told = told }

pub offered_of : (old : Field) (w : World) (number : ℕ) (before : Leader) → Simulates old w → old.heads number ≡ Some before → (c : Campaign) → nat_eq c.head number ≡ true
    → w.offered c ≡ image_in before.head.book c
offered_of old w number before s there c is = s.offered c ∙ ap (λ o. offered_by o c) (ap (λ n. old.heads n) (eqb-true c.head number is) ∙ there)

pub done_of : (old : Field) (w : World) (number : ℕ) (before : Leader) → Simulates old w → old.heads number ≡ Some before → (c : Campaign) (m : ℕ) → nat_eq c.head number ≡ true
    → is_done (state_in before.head.book c m) ≡ true → w.done c m ≡ true
done_of old w number before s there c m is e = s.done c m (ap (λ o. done_by o c m) (ap (λ n. old.heads n) (eqb-true c.head number is) ∙ there) ∙ e)

pub head_moves : (old : Field) (number : ℕ) (after : Leader) (sent : List Datagram) (told : List Ended) (w new : World) → Simulates old w
    → new.sent ≡ sent → new.meters ≡ w.meters → new.activations ≡ w.activations
    → ((c : Campaign) → nat_eq c.head number ≡ true → new.offered c ≡ image_in after.head.book c) → ((c : Campaign) → nat_eq c.head number ≡ false → new.offered c ≡ w.offered c)
    → ((c : Campaign) (m : ℕ) → nat_eq c.head number ≡ true → is_done (state_in after.head.book c m) ≡ true → new.done c m ≡ true)
    → ((c : Campaign) (m : ℕ) → w.done c m ≡ true → new.done c m ≡ true)
    → Simulates (next_head old number after sent told) new
head_moves old number after sent told w new s same_sent same_meters same_activations here away marks stay = record {
  offered = λ c. offers c (nat_eq c.head number) refl;
  sent = same_sent;
  meters = λ q. ap (λ (f : ℕ → Option Meter). f q) same_meters ∙ s.meters q;
  activations = same_activations ∙ s.activations;
  done = λ c m. ends c m (nat_eq c.head number) refl;
}
  where
    offers : (c : Campaign) (b : Bool) → nat_eq c.head number ≡ b → new.offered c ≡ offered_by (cond b (Some after) (old.heads c.head)) c
    offers c true is = here c is
    offers c false is = away c is ∙ s.offered c

    ends : (c : Campaign) (m : ℕ) (b : Bool) → nat_eq c.head number ≡ b → done_by (cond b (Some after) (old.heads c.head)) c m ≡ true → new.done c m ≡ true
    ends c m true is e = marks c m is e
    ends c m false is e = stay c m (s.done c m e)

-- what is done on the device stays so
abbrev pub Saves : ℕ → Contents → Contents → Type 0
Saves number old new = (c : Campaign) (m : ℕ) → nat_eq c.head number ≡ true → is_done (state_in old c m) ≡ true → is_done (state_in new c m) ≡ true

pub head_sound : (old : Field) (number : ℕ) (before after : Leader) (sent : List Datagram) (told : List Ended) → IsSound old → old.heads number ≡ Some before
    → IsHead after.head → IsKept number after.head.book after.synced → Saves number before.synced after.synced
    → ((ended : Ended) → Contains told ended → ended.ending ≡ IsDone → Contains old.told ended ⊎ ((nat_eq ended.campaign.head number ≡ true) × (is_done (state_in after.synced ended.campaign ended.meter) ≡ true)))
    → IsSound (next_head old number after sent told)
head_sound old number before after sent told s there is kept saves more = record {
  rows = λ q leader e. ⊎_elim
      (λ here. subst (λ (l : Leader). IsHead l.head) here.1 is)
      (λ was. s.rows q leader was)
      (put_cases old.heads number q after leader e);
  meters = s.meters;
  heads = λ q leader e. ⊎_elim
      (λ here. subst (λ (n : ℕ). IsKept n leader.head.book leader.synced) (sym here.0) (subst (λ (l : Leader). IsKept number l.head.book l.synced) here.1 kept))
      (λ was. s.heads q leader was)
      (put_cases old.heads number q after leader e);
  told = λ ended has is. ⊎_elim
      (λ was. stays ended.campaign ended.meter (nat_eq ended.campaign.head number) refl (s.told ended was is))
      (λ now. ap (λ o. saved_by o ended.campaign ended.meter) (cond-true (nat_eq ended.campaign.head number) (Some after) (old.heads ended.campaign.head) now.0) ∙ now.1)
      (more ended has is);
}
  where
    stays : (c : Campaign) (m : ℕ) (b : Bool) → nat_eq c.head number ≡ b → is_saved old c m ≡ true → saved_by (cond b (Some after) (old.heads c.head)) c m ≡ true
    stays c m true is e = saves c m is (sym (ap (λ o. saved_by o c m) (ap (λ n. old.heads n) (eqb-true c.head number is) ∙ there)) ∙ e)
    stays c m false is e = e
