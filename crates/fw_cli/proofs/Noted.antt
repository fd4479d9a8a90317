-- Rounds of a meter whose port notes what it can't serve, and who watches them.
use Rattle.std.proofs.Common.{◌≡◌, ◌++◌, List, [], ◌∷◌, refl, sym, subst, append_assoc, append-nil}
use Rattle.std.specs.Prelude.{Option}
use Rattle.fw_daemon.specs.Daemon.{Daemon}
use Rattle.fw_daemon.specs.Rounds.{GoesRound, IsWatched, TellsEvents, events_in, listed}
use Rattle.fw_daemon.specs.declared.event.MeterEvent.{MeterEvent}

module _ {W : Type 0} (tells : W → List MeterEvent → W → Type 0) where
  -- no round
  pub watched_none : (start : Daemon) (w : W) → IsWatched tells start w start w
  watched_none start w = record {
    rounds = [];
    made = refl;
    told = λ first before was. subst (λ (l : List MeterEvent). tells first l w) (sym (append-nil before)) was;
  }

  -- one round more
  pub watched_on : (start middle now : Daemon) (old seen new : W) (event : Option MeterEvent) → IsWatched tells start old middle seen → GoesRound middle event now
      → TellsEvents tells (listed event) seen new → IsWatched tells start old now new
  watched_on start middle now old seen new event was goes told = record {
    rounds = event ∷ was.rounds;
    made = (middle, was.made, goes);
    told = λ first before is.
        subst (λ (l : List MeterEvent). tells first l new) (append_assoc before (events_in was.rounds) (listed event))
        (told first (before ++ events_in was.rounds) (was.told first before is));
  }

  -- nothing was done
  pub watched_same : (start middle now : Daemon) (old new : W) → now ≡ middle → IsWatched tells start old middle new → IsWatched tells start old now new
  watched_same start middle now old new same was = subst (λ (d : Daemon). IsWatched tells start old d new) (sym same) was
