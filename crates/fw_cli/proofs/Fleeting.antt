-- Turns of several meters, and who watches them.
use Rattle.std.proofs.Common.{◌≡◌, ℕ, suc, ◌+◌, ◌<◌, ◌≤◌, List, [], ◌∷◌, ◌++◌, get_or, length, map, set, refl, sym, ap, subst, append_assoc, append-nil, ◌∙◌, arith}
use Rattle.std.proofs.lemmas.List.{get_or-map, length-map, map-append, map-set}
use Rattle.std.specs.Prelude.{Option, Some}
use Rattle.fw_daemon.specs.Daemon.{Daemon, daemon_of}
use Rattle.fw_daemon.specs.Rounds.{GoesRound, GoesRounds, events_in, listed}
use Rattle.fw_daemon.specs.declared.event.MeterEvent.{MeterEvent}
use Rattle.fw_cli.specs.Fleets.{AllGo, AreWatched, FleetTurn, HadPass, IsTold, OneIsWatched, daemons_of, happenings_of, most_rounds, places_below}
use Rattle.fw_cli.specs.Telling.{Happening, happenings_by}
use Rattle.fw_cli.specs.declared.fleet.Member.{Member}

abbrev one_of : Member → Daemon
one_of member = daemon_of member.daemon

abbrev place_of : FleetTurn → ℕ
place_of turn = turn.0

all_append : (start middle now : List Daemon) (xs ys : List FleetTurn) → AllGo start xs middle → AllGo middle ys now → AllGo start (ys ++ xs) now
all_append start middle now xs [] first same = subst (λ (d : List Daemon). AllGo start xs d) (sym same) first
all_append start middle now xs (y ∷ ys) first (before, all, one) = (before, all_append start middle before xs ys first all, one)

happenings_append : (xs ys : List FleetTurn) → happenings_of (ys ++ xs) ≡ happenings_of xs ++ happenings_of ys
happenings_append xs [] = sym (append-nil (happenings_of xs))
happenings_append xs (y ∷ ys) =
    let last = happenings_by (Some (y.0 + 1)) (events_in y.1) in
    ap (λ (l : List Happening). l ++ last) (happenings_append xs ys) ∙ append_assoc (happenings_of xs) (happenings_of ys) last

-- a meter made so many rounds of its turn, and who watches was told of just what happened in them
pub record MadeRounds {W : Type 0} (tells : W → List Happening → W → Type 0) (number count : ℕ) (start : Daemon) (old : W) (now : Daemon) (new : W) : Type 0 where
  pub rounds : List (Option MeterEvent)
  pub made : GoesRounds start rounds now
  pub counted : length rounds ≡ count
  pub told : IsTold tells (happenings_by (Some number) (events_in rounds)) old new

module _ {W : Type 0} (tells : W → List Happening → W → Type 0) where
  -- ---- a turn

  pub turn_begins : (number : ℕ) (start : Daemon) (w : W) → MadeRounds tells number 0 start w start w
  turn_begins number start w = record {
    rounds = [];
    made = refl;
    counted = refl;
    told = λ first before was. subst (λ (l : List Happening). tells first l w) (sym (append-nil before)) was;
  }

  -- the next round
  pub turn_on : (number count : ℕ) (start middle now : Daemon) (old seen new : W) (event : Option MeterEvent) → MadeRounds tells number count start old middle seen
      → GoesRound middle event now → IsTold tells (happenings_by (Some number) (listed event)) seen new → MadeRounds tells number (count + 1) start old now new
  turn_on number count start middle now old seen new event was goes told =
      let one : MeterEvent → Happening = λ e. (Some number, e) in
      let first_ones = happenings_by (Some number) (events_in was.rounds) in
      record {
        rounds = event ∷ was.rounds;
        made = (middle, was.made, goes);
        counted = let counted = was.counted in omega (arith, counted);
        told = λ first before is.
            subst (λ (l : List Happening). tells first l new)
            (append_assoc before first_ones (happenings_by (Some number) (listed event))
            ∙ ap (λ (l : List Happening). before ++ l) (sym (map-append one (events_in was.rounds) (listed event))))
            (told first (before ++ first_ones) (was.told first before is));
      }

  -- nothing more is done
  pub turn_ends : (number count : ℕ) (start middle now : Daemon) (old new : W) → MadeRounds tells number count start old middle new → now ≡ middle → count ≤ most_rounds
      → OneIsWatched tells number start old now new
  turn_ends number count start middle now old new was same most = record {
    rounds = was.rounds;
    made = subst (λ (d : Daemon). GoesRounds start was.rounds d) (sym same) was.made;
    few = let counted = was.counted in omega (arith, counted, most);
    told = was.told;
  }

  -- ---- a pass

  pub pass_begins : (start : List Daemon) (w : W) → HadPass tells 0 start w start w
  pass_begins start w = record {
    turns = [];
    made = refl;
    each = refl;
    told = λ first before was. subst (λ (l : List Happening). tells first l w) (sym (append-nil before)) was;
  }

  -- the next meter had its turn
  pub pass_on : (start : List Daemon) (old seen new : W) (rows : List Member) (place number : ℕ) (default stepped : Member) → place < length rows → number ≡ place + 1
      → HadPass tells place start old (daemons_of rows) seen
      → OneIsWatched tells number (daemon_of (get_or rows place default).daemon) seen (daemon_of stepped.daemon) new
      → HadPass tells (place + 1) start old (daemons_of (set rows place stepped)) new
  pass_on start old seen new rows place number default stepped within is was one =
      let next : place + 1 ≡ suc place = omega arith in
      let last = happenings_by (Some (place + 1)) (events_in one.rounds) in
      record {
        turns = (place, one.rounds) ∷ was.turns;
        made = (
          daemons_of rows,
          was.made,
          record {
            before = one_of (get_or rows place default);
            after = one_of stepped;
            within = omega (arith, within, length-map rows one_of);
            there = get_or-map one_of rows place default (one_of (get_or rows place default)) within;
            goes = one.made;
            few = one.few;
            others = map-set one_of rows place stepped;
          },
        );
        each = subst (λ (n : ℕ). place ∷ map place_of was.turns ≡ places_below n) (sym next) (ap (λ (l : List ℕ). place ∷ l) was.each);
        told = λ first before told.
            subst (λ (l : List Happening). tells first l new) (append_assoc before (happenings_of was.turns) last)
            (subst (λ (n : ℕ). IsTold tells (happenings_by (Some n) (events_in one.rounds)) seen new) is one.told first (before ++ happenings_of was.turns)
            (was.told first before told));
      }

  -- it is over
  pub pass_ends : (count all : ℕ) (start now : List Daemon) (old new : W) → HadPass tells count start old now new → count ≡ all → HadPass tells all start old now new
  pass_ends count all start now old new was same = subst (λ (n : ℕ). HadPass tells n start old now new) same was

  -- ---- turns

  pub turns_of : (count : ℕ) (start now : List Daemon) (old new : W) → HadPass tells count start old now new → AreWatched tells start old now new
  turns_of count start now old new was = record { turns = was.turns; made = was.made; told = was.told }

  pub fleet_none : (start : List Daemon) (w : W) → AreWatched tells start w start w
  fleet_none start w = turns_of 0 start start w w (pass_begins start w)

  pub fleet_then : (start middle now : List Daemon) (old seen new : W) → AreWatched tells start old middle seen → AreWatched tells middle seen now new → AreWatched tells start old now new
  fleet_then start middle now old seen new one two = record {
    turns = two.turns ++ one.turns;
    made = all_append start middle now one.turns two.turns one.made two.made;
    told = λ first before was.
        subst (λ (l : List Happening). tells first l new)
        (append_assoc before (happenings_of one.turns) (happenings_of two.turns) ∙ ap (λ (l : List Happening). before ++ l) (sym (happenings_append one.turns two.turns)))
        (two.told first (before ++ happenings_of one.turns) (one.told first before was));
  }
