-- Which lines say a part of a setup, and which say events.
use Rattle.std.proofs.Common.{◌≡◌, ℕ, List, [], ◌∷◌, Bool, true, false, Option, Some, None, ◌||◌, ◌<◌, ◌⊎◌, inl, inr, length, refl, subst, arith}
use Rattle.std.specs.Prelude.{IsSome, option_and_then, if◌then◌else◌, bytes_eq, codes}
use Rattle.fw_names.specs.Name.{Campaign}
use Rattle.fw_world.specs.Step.{Event}
use Rattle.fw_world.specs.Runs.{events_of}
use Rattle.fw_world.specs.declared.event.Event.{Event as Given}
use Rattle.fw_text.specs.Words.{words_of, number_of, keyword, bytes_said, first_says, at_end, numbers_of, from_one, byte_of}
use Rattle.fw_script.specs.Script.{Said, Head, Meter, head_item, meter_item, events_item, head_line, old_said, meter_line, opening, open_line, open_release_line, deliver_line, cancel_line, tick_line, stop_line, restart_meter_line, stop_restart_line, restart_head_line, turn_line, event_line, item_of, Script, before_all, with_item, with_line, is_skipped}
use Rattle.fw_script.specs.Private.{names_setup}

abbrev pub IsSetup : Said → Type 0
IsSetup (events_item events) = ⊥
IsSetup said = Unit {0}

abbrev pub IsEvents : Said → Type 0
IsEvents (events_item events) = Unit {0}
IsEvents said = ⊥

-- ---- what holds of all that is said in a form

-- P holds of what is said, if anything is
pub record Holds (P : Said → Type 0) (o : Option Said) : Type 0 where
  pub each : (said : Said) → o ≡ Some said → P said

no_some : (said : Said) → None ≡ Some said → ⊥
no_some said none = cc none

some_same : (said other : Said) → Some said ≡ Some other → said ≡ other
some_same said other same = cc same

nothing : (P : Said → Type 0) → Holds P None
nothing P = record { each = λ said none. absurd (no_some said none) }

one : (P : Said → Type 0) (said : Said) → P said → Holds P (Some said)
one P said holds = record { each = λ other same. subst P (some_same said other same) holds }

a_head : (head : Head) → Holds IsSetup (Some (head_item head))
a_head head = one IsSetup (head_item head) tt

a_meter : (meter : Meter) → Holds IsSetup (Some (meter_item meter))
a_meter meter = one IsSetup (meter_item meter) tt

an_event : (events : List Event) → Holds IsEvents (Some (events_item events))
an_event events = one IsEvents (events_item events) tt

reads : {A : Type 0} (P : Said → Type 0) (f : A → Option Said) (o : Option A) → ((a : A) → Holds P (f a)) → Holds P (option_and_then f o)
reads P f None each = nothing P
reads P f (Some a) each = each a

either : (P : Said → Type 0) (b : Bool) (x y : Option Said) → Holds P x → Holds P y → Holds P (if b then x else y)
either P true x y first second = first
either P false x y first second = second

-- ---- each line

head_says : (words : List (List ℕ)) → Holds IsSetup (head_line words)
head_says words = reads IsSetup _ (first_says from_one words) λ a. reads IsSetup _ (first_says (keyword (codes "width")) a.1) λ b. reads IsSetup _ (first_says number_of b.1) λ c. reads IsSetup _ (at_end c.1) λ e. a_head _

meter_says : (words : List (List ℕ)) → Holds IsSetup (meter_line words)
meter_says words = reads IsSetup _ (first_says number_of words) λ a. reads IsSetup _ (first_says (keyword (codes "block")) a.1) λ b. reads IsSetup _ (first_says number_of b.1) λ c. reads IsSetup _ (first_says (keyword (codes "capacity")) c.1) λ d. reads IsSetup _ (first_says number_of d.1) λ e. reads IsSetup _ (first_says (keyword (codes "factory")) e.1) λ f. reads IsSetup _ (first_says bytes_said f.1) λ g. reads IsSetup _ (old_said g.1) λ old. a_meter _

opening_says : (campaign : Campaign) (release : ℕ) (words : List (List ℕ)) → Holds IsEvents (opening campaign release words)
opening_says campaign release words = reads IsEvents _ (first_says bytes_said words) λ a. reads IsEvents _ (numbers_of a.1) λ ns. an_event _

open_says : (words : List (List ℕ)) → Holds IsEvents (open_line words)
open_says words = reads IsEvents _ (first_says from_one words) λ a. reads IsEvents _ (first_says from_one a.1) λ b. opening_says _ _ b.1

open_release_says : (words : List (List ℕ)) → Holds IsEvents (open_release_line words)
open_release_says words = reads IsEvents _ (first_says from_one words) λ a. reads IsEvents _ (first_says from_one a.1) λ b. reads IsEvents _ (first_says number_of b.1) λ c. opening_says _ _ c.1

deliver_says : (words : List (List ℕ)) → Holds IsEvents (deliver_line words)
deliver_says [] = nothing IsEvents
deliver_says (word ∷ words) = reads IsEvents _ (numbers_of (word ∷ words)) λ ns. an_event _

cancel_says : (words : List (List ℕ)) → Holds IsEvents (cancel_line words)
cancel_says words = reads IsEvents _ (first_says from_one words) λ a. reads IsEvents _ (first_says from_one a.1) λ b. reads IsEvents _ (at_end b.1) λ e. an_event _

tick_says : (words : List (List ℕ)) → Holds IsEvents (tick_line words)
tick_says words = reads IsEvents _ (first_says from_one words) λ a. reads IsEvents _ (first_says number_of a.1) λ b. reads IsEvents _ (at_end b.1) λ e. an_event _

stop_says : (words : List (List ℕ)) → Holds IsEvents (stop_line words)
stop_says words = reads IsEvents _ (first_says number_of words) λ a. reads IsEvents _ (first_says number_of a.1) λ b. reads IsEvents _ (first_says byte_of b.1) λ c. reads IsEvents _ (at_end c.1) λ e. an_event _

restart_meter_says : (words : List (List ℕ)) → Holds IsEvents (restart_meter_line words)
restart_meter_says words = reads IsEvents _ (first_says number_of words) λ a. reads IsEvents _ (at_end a.1) λ e. an_event _

stop_restart_says : (words : List (List ℕ)) → Holds IsEvents (stop_restart_line words)
stop_restart_says words = reads IsEvents _ (first_says number_of words) λ a. reads IsEvents _ (first_says number_of a.1) λ b. reads IsEvents _ (first_says byte_of b.1) λ c. reads IsEvents _ (at_end c.1) λ e. an_event _

restart_head_says : (words : List (List ℕ)) → Holds IsEvents (restart_head_line words)
restart_head_says words = reads IsEvents _ (first_says from_one words) λ a. reads IsEvents _ (at_end a.1) λ e. an_event _

turn_says : (words : List (List ℕ)) → Holds IsEvents (turn_line words)
turn_says words = reads IsEvents _ (first_says number_of words) λ a. reads IsEvents _ (at_end a.1) λ e. an_event _

event_says : (first : List ℕ) (words : List (List ℕ)) → Holds IsEvents (event_line first words)
event_says first words =
    either IsEvents (bytes_eq first (codes "cancel")) _ _ (cancel_says words) (
    either IsEvents (bytes_eq first (codes "tick")) _ _ (tick_says words) (
    either IsEvents (bytes_eq first (codes "stop")) _ _ (stop_says words) (
    either IsEvents (bytes_eq first (codes "restart-meter")) _ _ (restart_meter_says words) (
    either IsEvents (bytes_eq first (codes "stop-restart")) _ _ (stop_restart_says words) (
    either IsEvents (bytes_eq first (codes "restart-head")) _ _ (restart_head_says words) (
    either IsEvents (bytes_eq first (codes "turn")) _ _ (turn_says words) (nothing IsEvents)))))))

-- ---- the script with one line more

-- a line whose first word is another one says events
others_say : (a b : Bool) (x y z : Option Said) → (a || b) ≡ false → Holds IsEvents z → Holds IsEvents (if a then x else (if b then y else z))
others_say true b x y z none events = cc none
others_say false true x y z none events = cc none
others_say false false x y z none events = events

pub says_events : (words : List (List ℕ)) → names_setup words ≡ false → Holds IsEvents (item_of words)
says_events [] none = nothing IsEvents
says_events (first ∷ words) none =
    others_say (bytes_eq first (codes "head")) (bytes_eq first (codes "meter")) (head_line words) (meter_line words) _ none (
    either IsEvents (bytes_eq first (codes "open")) _ _ (open_says words) (
    either IsEvents (bytes_eq first (codes "open-release")) _ _ (open_release_says words) (
    either IsEvents (bytes_eq first (codes "deliver")) _ _ (deliver_says words) (event_says first words))))

these_say : (a b : Bool) (x y z : Option Said) → (a || b) ≡ true → Holds IsSetup x → Holds IsSetup y → Holds IsSetup (if a then x else (if b then y else z))
these_say true b x y z named first second = first
these_say false true x y z named first second = second
these_say false false x y z named first second = cc named

pub says_setup : (words : List (List ℕ)) → names_setup words ≡ true → Holds IsSetup (item_of words)
says_setup [] named = cc named
says_setup (first ∷ words) named =
    these_say (bytes_eq first (codes "head")) (bytes_eq first (codes "meter")) (head_line words) (meter_line words) _ named (head_says words) (meter_says words)

late : (events : List Event) (script : Script) → 0 < length events → before_all events script ≡ None
late [] script some = absurd (omega arith)
late (e ∷ events) script some = refl

early : (events : List Event) (script : Script) → length events ≡ 0 → IsSome (before_all events script)
early [] script none = refl
early (e ∷ events) script none = absurd (omega arith)

-- a setup line after an event
pub too_late : (script : Script) (o : Option Said) → 0 < length script.events → Holds IsSetup o → option_and_then (with_item script) o ≡ None
too_late script None events setup = refl
too_late script (Some (head_item head)) events setup = late script.events _ events
too_late script (Some (meter_item meter)) events setup = late script.events _ events
too_late script (Some (events_item new)) events setup = absurd (setup.each (events_item new) refl)

-- any other line that says something
pub in_time : (script : Script) (o : Option Said) → (Holds IsEvents o) ⊎ (length script.events ≡ 0) → IsSome o → IsSome (option_and_then (with_item script) o)
in_time script None kind some = cc some
in_time script (Some (events_item new)) kind some = refl
in_time script (Some (head_item head)) (inl events) some = absurd (events.each (head_item head) refl)
in_time script (Some (head_item head)) (inr none) some = early script.events _ none
in_time script (Some (meter_item meter)) (inl events) some = absurd (events.each (meter_item meter) refl)
in_time script (Some (meter_item meter)) (inr none) some = early script.events _ none

-- ---- lines

pub events_length : (events : List Given) → length (events_of events) ≡ length events
events_length [] = refl
events_length (e ∷ events) = let more = events_length events in omega (arith, more)

pub late_line : (script : Script) (line : List ℕ) → is_skipped line ≡ false → 0 < length script.events → names_setup (words_of line) ≡ true → with_line script line ≡ None
late_line script line kept events named = rw kept (too_late script (item_of (words_of line)) events (says_setup (words_of line) named))

pub timely_line : (script : Script) (line : List ℕ) → is_skipped line ≡ false → (names_setup (words_of line) ≡ false) ⊎ (length script.events ≡ 0) → IsSome (item_of (words_of line))
    → IsSome (with_line script line)
timely_line script line kept (inl other) some = rw kept (in_time script (item_of (words_of line)) (inl (says_events (words_of line) other)) some)
timely_line script line kept (inr none) some = rw kept (in_time script (item_of (words_of line)) (inr none) some)
