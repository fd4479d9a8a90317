-- Moves of a field whose links are sealed are moves of it.
use Rattle.std.proofs.Common.{◌≡◌, ℕ, List, [], ◌∷◌, inl, inr, Contains, refl, sym, ap, subst}
use Rattle.std.specs.declared.net.socket_addr.SocketAddr.{SocketAddr}
use Rattle.fw_image.specs.Meter.{Meter, restarted}
use Rattle.fw_daemon.specs.Daemon.{Daemon}
use Rattle.fw_rollout.specs.Leading.{Leader, Step, hears}
use Rattle.fw_world.specs.declared.datagram.Direction.{Direction}
use Rattle.fw_world.specs.declared.datagram.Direction.TheVariants.{ToMeter, ToHead}
use Rattle.fw_field.specs.Field.{Field}
use Rattle.fw_field.specs.Moves.{Move, round, kill_meter, step, open_campaign, cancel_campaign, give_up, ask_others, kill_head, Goes, MovesLead, HearsAt, IsKilledAt, IsKilledIn, StepsAt, Comes, StartsAgain, Tears, WasSent}
use Rattle.fw_field.specs.Laws.{AfterMoves, SentStays}
use Rattle.fw_sealed.specs.Links.{Links, Seal, SealsWhatIsSent, NoneForged, IsGenuine, CameSealed, plain_of}
use Rattle.fw_sealed.specs.Moves.{SealedField, SealedMove, moves_on, seals_one, arrives, counts, IsSealedBeginning, CameToMeterFrom, HearsSealed, TearsSealed, StartsSealed, IsKilledSealed, IsKilledHearing, ComesSealed, StepsSealed, GoesSealed, SealedGoes, SealedMovesLead, field_moves}
use Rattle.fw_sealed.specs.Laws.{AfterSealedMoves, IsSealed, LinksStaySealed, SealedMovesAreMoves}
use Rattle.fw_sealed.proofs.Lists.{none_there, later, first_or}

-- ---- what came sealed was sent

pub was_sent : (links : Links) (seals : List Seal) (arrived : List (List ℕ)) (f : Field) (head meter : ℕ) (direction : Direction) (datagram : List ℕ)
    → SealsWhatIsSent seals f → NoneForged links seals arrived → CameSealed links arrived head meter direction datagram
    → Contains f.sent (record { head = head; meter = meter; direction = direction; bytes = datagram })
was_sent links seals arrived f head meter direction datagram sent genuine c =
    let s : Seal = record { head = head; meter = meter; direction = direction; counter = c.counter; apdu = c.apdu } in
    let P : List ℕ → Type 0 = λ bytes. Contains f.sent (record { head = head; meter = meter; direction = direction; bytes = bytes }) in
    subst P (sym c.plain) (sent s (genuine c.wire c.there s c.opens))

-- ---- one move

module _ (addresses : ℕ → List SocketAddr) (links : Links) (seals : List Seal) (arrived : List (List ℕ)) (old : Field)
    (sent : SealsWhatIsSent seals old) (genuine : NoneForged links seals arrived) where
  from_head : (number head : ℕ) (from : SocketAddr) (datagram : List ℕ) → CameToMeterFrom addresses links arrived number head from datagram
      → WasSent addresses old number head from datagram
  from_head number head from datagram c = record { at = c.at; sent = was_sent links seals arrived old head number ToMeter datagram sent genuine c.came }

  tears : (number : ℕ) (left : Meter) (datagrams : List (List ℕ)) (cut : Meter) → TearsSealed links arrived number left datagrams cut → Tears old number left datagrams cut
  tears number left [] cut same = same
  tears number left (datagram ∷ others) cut ((head, came), next, torn, more) =
      ((head, was_sent links seals arrived old head number ToMeter datagram sent genuine came), next, torn, tears number next others cut more)

  starts : (number : ℕ) (left : Meter) (after : Daemon) → StartsSealed links arrived number left after → StartsAgain old number left after
  starts number left after t = record { datagrams = t.datagrams; cut = t.cut; torn = tears number (restarted left) t.datagrams t.cut t.torn; again = t.again }

  hears_at : (number : ℕ) (new : Field) → HearsSealed addresses links arrived old number new → HearsAt addresses old number new
  hears_at number new h = record {
    before = h.before;
    after = h.after;
    from = h.from;
    datagram = h.datagram;
    reply = h.reply;
    activates = h.activates;
    head = h.head;
    there = h.there;
    takes = h.takes;
    came = λ may. from_head number h.head h.from h.datagram (h.came may);
    new_is = h.new_is;
  }

  killed_at : (number : ℕ) (new : Field) → IsKilledSealed links arrived old number new → IsKilledAt old number new
  killed_at number new k = record {
    before = k.before;
    left = k.left;
    after = k.after;
    there = k.there;
    leaves = k.leaves;
    starts = starts number k.left k.after k.starts;
    new_is = k.new_is;
  }

  killed_in : (number : ℕ) (new : Field) → IsKilledHearing addresses links arrived old number new → IsKilledIn addresses old number new
  killed_in number new k = record {
    before = k.before;
    from = k.from;
    datagram = k.datagram;
    head = k.head;
    left = k.left;
    activates = k.activates;
    after = k.after;
    there = k.there;
    may_ask = k.may_ask;
    came = from_head number k.head k.from k.datagram k.came;
    stops = k.stops;
    starts = starts number k.left k.after k.starts;
    new_is = k.new_is;
  }

  comes : (number : ℕ) (leader : Leader) (made : Step) → ComesSealed links arrived number leader made → Comes old number leader made
  comes number leader (hears from datagram) c = λ meter listed. was_sent links seals arrived old number meter ToHead datagram sent genuine (c meter listed)
  comes number leader made c = tt

  steps_at : (number : ℕ) (made : Step) (new : Field) → StepsSealed links arrived old number made new → StepsAt old number made new
  steps_at number made new h = record {
    before = h.before;
    after = h.after;
    out = h.out;
    there = h.there;
    steps = h.steps;
    came = comes number h.before made h.came;
    goes_out = h.goes_out;
    new_is = h.new_is;
  }

  goes : (move : Move) (new : Field) → GoesSealed addresses links arrived old move new → Goes addresses old move new
  goes (round number) new (inl turns) = inl turns
  goes (round number) new (inr heard) = inr (hears_at number new heard)
  goes (kill_meter number) new (inl rests) = inl (killed_at number new rests)
  goes (kill_meter number) new (inr hearing) = inr (killed_in number new hearing)
  goes (step number made) new g = steps_at number made new g
  goes (open_campaign campaign release image meters) new g = g
  goes (cancel_campaign campaign) new g = g
  goes (give_up number meter) new g = g
  goes (ask_others number meters) new g = g
  goes (kill_head number) new g = g

-- ---- links stay sealed

-- a field is this one in another one's place
abbrev field_in : SealedField → Field
field_in s = s.field

module _ (law : SentStays) (addresses : ℕ → List SocketAddr) (links : Links) where
  stays : (old new : SealedField) (move : SealedMove) → IsSealed links old → SealedGoes addresses links old move new → IsSealed links new
  stays old new (moves_on move) is (next, made, e) = subst (λ (t : SealedField). IsSealed links t) (sym e) (record {
    sent = λ s has.
        law addresses old.field next (move ∷ []) (plain_of s) (next, goes addresses links old.seals old.arrived old.field is.sent is.genuine move next made, refl)
        (is.sent s has);
    genuine = is.genuine;
  })
  stays old new (seals_one s) is made = subst (λ (t : SealedField). IsSealed links t) (sym made.new_is) (record {
    sent = λ t has. elim (first_or s t old.seals has) [
      | inl same ↦ subst (λ (u : Seal). Contains old.field.sent (plain_of u)) same made.was_sent
      | inr there ↦ is.sent t there
    ];
    genuine = λ wire came t on. later s t old.seals (is.genuine wire came t on);
  })
  stays old new (arrives wire) is (ok, e) = subst (λ (t : SealedField). IsSealed links t) (sym e) (record {
    sent = is.sent;
    genuine = λ other has. elim (first_or wire other old.arrived has) [
      | inl same ↦ subst (λ (w : List ℕ). IsGenuine links old.seals w) same ok
      | inr there ↦ is.genuine other there
    ];
  })
  stays old new (counts direction number move) is made =
      subst (λ (t : SealedField). IsSealed links t) (sym made.new_is) (record { sent = is.sent; genuine = is.genuine })

  -- ---- all moves

  from_same : (old next : Field) (moves : List Move) (new : Field) → next ≡ old → MovesLead addresses next moves new → MovesLead addresses old moves new
  from_same old next moves new e leads = subst (λ (f : Field). MovesLead addresses f moves new) e leads

  lead : (old new : SealedField) (moves : List SealedMove) → IsSealed links old → SealedMovesLead addresses links old moves new
      → IsSealed links new × MovesLead addresses old.field (field_moves moves) new.field
  lead old new [] is same = (subst (λ (t : SealedField). IsSealed links t) (sym same) is, ap field_in same)
  lead old new (moves_on move ∷ moves) is (next, (f, made, e), more) =
      let rest = lead next new moves (stays old next (moves_on move) is (f, made, e)) more in
      (rest.0, (f, goes addresses links old.seals old.arrived old.field is.sent is.genuine move f made, from_same f next.field (field_moves moves) new.field (ap field_in e) rest.1))
  lead old new (seals_one s ∷ moves) is (next, made, more) =
      let rest = lead next new moves (stays old next (seals_one s) is made) more in
      (rest.0, from_same old.field next.field (field_moves moves) new.field (ap field_in made.new_is) rest.1)
  lead old new (arrives wire ∷ moves) is (next, (ok, e), more) =
      let rest = lead next new moves (stays old next (arrives wire) is (ok, e)) more in
      (rest.0, from_same old.field next.field (field_moves moves) new.field (ap field_in e) rest.1)
  lead old new (counts direction number move ∷ moves) is (next, made, more) =
      let rest = lead next new moves (stays old next (counts direction number move) is made) more in
      (rest.0, from_same old.field next.field (field_moves moves) new.field (ap field_in made.new_is) rest.1)

  begins : (beginning : SealedField) → IsSealedBeginning beginning → IsSealed links beginning
  begins beginning is = record {
    sent = λ s has. absurd (none_there s (subst (λ (xs : List Seal). Contains xs s) is.seals has));
    genuine = λ wire has. absurd (none_there wire (subst (λ (xs : List (List ℕ)). Contains xs wire) is.arrived has));
  }

pub links_stay_sealed : SentStays → LinksStaySealed
links_stay_sealed law addresses links beginning now moves is made = (lead law addresses links beginning now moves (begins law addresses links beginning is) made).0

pub moves_are_moves : SentStays → SealedMovesAreMoves
moves_are_moves law addresses links beginning now moves is made = (lead law addresses links beginning now moves (begins law addresses links beginning is) made).1

-- ---- what holds after moves of a field holds after those behind ports

pub after_sealed : SealedMovesAreMoves → (P : Field → Field → Type 0) → AfterMoves P → AfterSealedMoves (λ beginning now. P beginning.field now.field)
after_sealed law P after addresses links beginning now moves is made =
    after addresses beginning.field now.field (field_moves moves) is.field (law addresses links beginning now moves is made)
