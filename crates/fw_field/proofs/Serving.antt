-- What the daemon of a meter does, as moves of a field.
use Rattle.std.proofs.Common.{◌≡◌, ℕ, nat_eq, inl, inr, List, [], ◌∷◌, ◌++◌, Option, Some, None, Contains, refl, sym, ap, subst, arith, ◌∙◌}
use Rattle.std.proofs.lemmas.Bool.{cond-true}
use Rattle.std.proofs.lemmas.List.Elements.{Contains-append_left, Contains-append_right, Contains-append_cases, Contains-push, Contains-push_cases}
use Rattle.std.specs.declared.net.socket_addr.SocketAddr.{SocketAddr}
use Rattle.fw_names.specs.Name.{Name}
use Rattle.fw_meter.specs.Handling.{reply_bytes}
use Rattle.fw_port.specs.Acts.{came, quiet, sent, told}
use Rattle.fw_daemon.specs.Acts.{Act}
use Rattle.fw_daemon.specs.Daemon.{Daemon, Hears, MayAsk, TakesTurn}
use Rattle.fw_daemon.specs.Events.{switched_by}
use Rattle.fw_daemon.specs.Laws.{SwitchesAreTold}
use Rattle.fw_daemon.specs.Rounds.{GoesOnAfter, activated_by, reply_of, with_reply}
use Rattle.fw_daemon.specs.Serving.{Serving, Takes}
use Rattle.fw_daemon.specs.declared.daemon.Heard.{Heard}
use Rattle.fw_daemon.specs.declared.daemon.Heard.TheVariants as heard
use Rattle.fw_daemon.specs.declared.event.MeterEvent.{MeterEvent}
use Rattle.fw_world.specs.Step.{activated, replies}
use Rattle.fw_world.specs.World.{Datagram}
use Rattle.fw_field.specs.Field.{Field, with_daemon}
use Rattle.fw_field.specs.Moves.{Move, round, MovesLead, Goes, TakesAs, WasSent, to_meter, to_head}
use Rattle.fw_field.specs.Laws.{AnswersAll, CameToMeter, RoundsAreTaken, ServingIsMoves, rounds_of}
use Rattle.fw_field.proofs.Maps.{itself, none_some}

-- ---- a round

pub rounds_are_taken : SwitchesAreTold → RoundsAreTaken
rounds_are_taken switches before after earlier later event (inl (quiet_is, tells, turn)) =
    inl (quiet_is, ap (λ (o : Option MeterEvent). switched_by o) tells ∙ switches.turn before after, turn)
rounds_are_taken switches before after earlier later event (inr x) =
    inr (x.from, x.datagram, reply_of x.what, x.acts, subst P (sym same_switch) (go x.what x.middle x.hears x.goes_on))
  where
    same_switch : switched_by event ≡ activated_by x.what
    same_switch = ap (λ (o : Option MeterEvent). switched_by o) x.tells ∙ switches.datagram before x.middle after x.from x.datagram x.what x.hears

    P : Option Name → Type 0
    P name = TakesAs before x.from x.datagram (reply_of x.what) name after

    go : (what : Heard) (middle : Daemon) → Hears before x.from x.datagram what middle → GoesOnAfter what middle after → TakesAs before x.from x.datagram (reply_of what) (activated_by what) after
    go (heard.Handled h event') middle (may, served, tells) same =
        let Q : Daemon → Type 0 = λ d. TakesAs before x.from x.datagram (reply_bytes h.reply) h.activated d in
        subst Q (sym same) (inl (may, served))
    go heard.Stranger middle (not, counted) turn =
        let Q : Daemon → Type 0 = λ d. TakesTurn d after in
        inr (refl, inr (record { may_not = not; silent = refl; goes_on = subst Q counted turn }))
    go heard.OutOfMemory middle (may, wants, counted) same = inr (refl, inl (record { may_ask = may; wants = wants; silent = refl; counted = same ∙ counted }))

-- ---- moves one after the other

pub move_on : (addresses : ℕ → List SocketAddr) (old mid new : Field) (moves : List Move) (move : Move) → MovesLead addresses old moves mid → Goes addresses mid move new → MovesLead addresses old (moves ++ move ∷ []) new
move_on addresses old mid new [] move same goes = (new, subst (λ (f : Field). Goes addresses f move new) same goes, refl)
move_on addresses old mid new (first ∷ moves) move (next, goes, more) last = (next, goes, move_on addresses next mid new moves move more last)

pub later : {X : Type 0} (first x : X) (xs : List X) → Contains xs x → Contains (first ∷ xs) x
later first x xs has = Contains-append_right (first ∷ []) xs x has

pub first_is : {X : Type 0} (x : X) (xs : List X) → Contains (x ∷ xs) x
first_is x xs = Contains-append_left (x ∷ []) xs x (Contains-push [] x)

pub none_there : {X : Type 0} (x : X) → Contains [] x → ⊥
none_there x (k, within, same) = absurd (omega arith)

pub one_there : {X : Type 0} (y x : X) → Contains (y ∷ []) x → y ≡ x
one_there {X} y x has = elim (Contains-push_cases (let none : List X = [] in none) y x has) [
  | inl none ↦ absurd (none_there x none)
  | inr same ↦ same
]

-- ---- what was sent

-- nothing was sent by it
abbrev IsNoSend : Act → Type 0
IsNoSend (came from datagram) = Unit {0}
IsNoSend quiet = Unit {0}
IsNoSend (sent to bytes) = ⊥
IsNoSend (told report) = Unit {0}

-- what was sent by it, and where
abbrev bytes_in : Act → List ℕ
bytes_in (came from datagram) = []
bytes_in quiet = []
bytes_in (sent to bytes) = bytes
bytes_in (told report) = []

abbrev address_in : SocketAddr → Act → SocketAddr
address_in other (came from datagram) = other
address_in other quiet = other
address_in other (sent to bytes) = to
address_in other (told report) = other

module _ (addresses : ℕ → List SocketAddr) (number : ℕ) where
  -- what was answered before and after one that sent nothing
  unsent : (act : Act) (acts : List Act) (old new : Field) → IsNoSend act → ((d : Datagram) → Contains old.sent d → Contains new.sent d) → AnswersAll addresses number acts old
      → AnswersAll addresses number (act ∷ acts) new
  unsent act acts old new none more answers to bytes has = elim (Contains-append_cases (act ∷ []) acts (sent to bytes) has) [
    | inl here ↦ absurd (subst IsNoSend (one_there act (sent to bytes) here) none)
    | inr then ↦ (let it = answers to bytes then in (it.0, it.1, more (to_head it.0 number bytes) it.2))
  ]

  -- the answer to a datagram, and those before it
  answered : (acts : List Act) (from : SocketAddr) (datagram : List ℕ) (head : ℕ) (reply : Option (List ℕ)) (old new : Field) → new.sent ≡ old.sent ++ replies (to_meter head number datagram) reply
      → ((value : List ℕ) → reply ≡ Some value → Contains (addresses head) from) → AnswersAll addresses number acts old → AnswersAll addresses number (with_reply from datagram reply acts) new
  answered acts from datagram head None old new is at answers to bytes has =
      unsent (came from datagram) acts old new tt (λ d had. subst (λ (xs : List Datagram). Contains xs d) (sym is) (Contains-append_left old.sent [] d had)) answers to bytes has
  answered acts from datagram head (Some value) old new is at answers to bytes has = elim (Contains-append_cases (sent from value ∷ []) (came from datagram ∷ acts) (sent to bytes) has) [
    | inl here ↦ (
      head,
      subst (λ (a : Act). Contains (addresses head) (address_in from a)) (one_there (sent from value) (sent to bytes) here) (at value refl),
      subst (λ (xs : List Datagram). Contains xs (to_head head number bytes)) (sym is)
          (Contains-append_right old.sent (to_head head number value ∷ []) (to_head head number bytes)
          (subst (λ (a : Act). Contains (to_head head number value ∷ []) (to_head head number (bytes_in a))) (one_there (sent from value) (sent to bytes) here) (first_is (to_head head number value) []))),
    )
    | inr then ↦ unsent (came from datagram) acts old new tt
        (λ d had. subst (λ (xs : List Datagram). Contains xs d) (sym is) (Contains-append_left old.sent (to_head head number value ∷ []) d had)) answers to bytes then
  ]

-- ---- a daemon

record Served (addresses : ℕ → List SocketAddr) (f : Field) (number : ℕ) (start now : Daemon) (acts : List Act) : Type 0 where
  pub new : Field
  pub reaches : MovesLead addresses f (rounds_of number acts) new
  pub answers : AnswersAll addresses number acts new
  pub there : new.meters number ≡ Some now
  pub stays : (d : Datagram) → Contains f.sent d → Contains new.sent d
  pub heads : now.heads ≡ start.heads

same_heads : (before now : Daemon) (from : SocketAddr) (datagram : List ℕ) (reply : Option (List ℕ)) → Takes before from datagram reply now → now.heads ≡ before.heads
same_heads before now from datagram reply (inl a) = ap (λ (d : Daemon). d.heads) a.served.others
same_heads before now from datagram reply (inr (inl u)) = ap (λ (d : Daemon). d.heads) u.counted
same_heads before now from datagram reply (inr (inr x)) = ap (λ (d : Daemon). d.heads) x.goes_on.others

as_taken : (before now : Daemon) (from : SocketAddr) (datagram : List ℕ) (reply : Option (List ℕ)) → Takes before from datagram reply now → (activates : Option Name) × TakesAs before from datagram reply activates now
as_taken before now from datagram reply (inl a) = (a.activated, inl (a.may_ask, a.served))
as_taken before now from datagram reply (inr other) = (None, inr (refl, other))

-- only one that may ask has a reply
may_reply : (before now : Daemon) (from : SocketAddr) (datagram : List ℕ) (reply : Option (List ℕ)) → Takes before from datagram reply now → (value : List ℕ) → reply ≡ Some value → MayAsk before.heads from
may_reply before now from datagram reply (inl a) value is = a.may_ask
may_reply before now from datagram reply (inr (inl u)) value is = u.may_ask
may_reply before now from datagram reply (inr (inr x)) value is = absurd (none_some value (sym x.silent ∙ is))

-- with a reply it is one round too
rounds_with : (number : ℕ) (from : SocketAddr) (datagram : List ℕ) (reply : Option (List ℕ)) (acts : List Act) → rounds_of number (with_reply from datagram reply acts) ≡ rounds_of number acts ++ round number ∷ []
rounds_with number from datagram None acts = refl
rounds_with number from datagram (Some bytes) acts = refl

-- of whom it is
source : (addresses : ℕ → List SocketAddr) (f : Field) (number : ℕ) (before now : Daemon) (from : SocketAddr) (datagram : List ℕ) (reply : Option (List ℕ)) → Takes before from datagram reply now
    → (MayAsk before.heads from → (head : ℕ) × WasSent addresses f number head from datagram) → (head : ℕ) × (MayAsk before.heads from → WasSent addresses f number head from datagram)
source addresses f number before now from datagram reply (inl a) sent_by = let it = sent_by a.may_ask in (it.0, λ may. it.1)
source addresses f number before now from datagram reply (inr (inl u)) sent_by = let it = sent_by u.may_ask in (it.0, λ may. it.1)
source addresses f number before now from datagram reply (inr (inr x)) sent_by = (0, λ may. absurd (x.may_not may))

module _ (addresses : ℕ → List SocketAddr) (f : Field) (number : ℕ) (start : Daemon) where
  turned : (before now : Daemon) (acts : List Act) → Served addresses f number start before acts → TakesTurn before now → Served addresses f number start now (quiet ∷ acts)
  turned before now acts s turn =
      let new : Field = with_daemon s.new number now in
      record {
        new = new;
        reaches = move_on addresses f s.new new (rounds_of number acts) (round number) s.reaches (inl (record { before = before; after = now; there = s.there; turns = turn; new_is = refl }));
        answers = unsent addresses number quiet acts s.new new tt (λ d has. has) s.answers;
        there = cond-true (nat_eq number number) (Some now) (s.new.meters number) (itself number);
        stays = s.stays;
        heads = ap (λ (d : Daemon). d.heads) turn.others ∙ s.heads;
      }

  taken : (before now : Daemon) (acts : List Act) (from : SocketAddr) (datagram : List ℕ) (reply : Option (List ℕ)) → Served addresses f number start before acts → Takes before from datagram reply now
      → (MayAsk start.heads from → (head : ℕ) × WasSent addresses f number head from datagram) → Served addresses f number start now (with_reply from datagram reply acts)
  taken before now acts from datagram reply s takes sent_by =
      let by = as_taken before now from datagram reply takes in
      let M : List SocketAddr → Type 0 = λ heads. MayAsk heads from in
      let from_it = source addresses s.new number before now from datagram reply takes (λ may.
      let it = sent_by (subst M s.heads may) in
      (it.0, record { at = it.1.at; sent = s.stays (to_meter it.0 number datagram) it.1.sent })) in
      let more : List Datagram = replies (to_meter from_it.0 number datagram) reply in
      let new : Field = record (with_daemon s.new number now) { sent = s.new.sent ++ more; activations = s.new.activations ++ activated number by.0 now.state.meter } in
      record {
        new = new;
        reaches = subst (λ (moves : List Move). MovesLead addresses f moves new) (sym (rounds_with number from datagram reply acts))
            (move_on addresses f s.new new (rounds_of number acts) (round number) s.reaches (inr (record {
              before = before;
              after = now;
              from = from;
              datagram = datagram;
              reply = reply;
              activates = by.0;
              head = from_it.0;
              there = s.there;
              takes = by.1;
              came = from_it.1;
              new_is = refl;
            })));
        answers = answered addresses number acts from datagram from_it.0 reply s.new new refl (λ value is. (from_it.1 (may_reply before now from datagram reply takes value is)).at) s.answers;
        there = cond-true (nat_eq number number) (Some now) (s.new.meters number) (itself number);
        stays = λ d has. Contains-append_left s.new.sent more d (s.stays d has);
        heads = same_heads before now from datagram reply takes ∙ s.heads;
      }

  serves : f.meters number ≡ Some start → (now : Daemon) (acts : List Act) → Serving start acts now → CameToMeter addresses f number start.heads acts → Served addresses f number start now acts
  serves there now [] same from_it = record {
    new = f;
    reaches = refl;
    answers = λ to bytes has. absurd (none_there (sent to bytes) has);
    there = there ∙ ap (λ (d : Daemon). (let o : Option Daemon = Some d in o)) (sym same);
    stays = λ d has. has;
    heads = ap (λ (d : Daemon). d.heads) same;
  }
  serves there now (quiet ∷ done) (before, s, turn) from_it =
      turned before now done (serves there before done s (λ from datagram has. from_it from datagram (later quiet (came from datagram) done has))) turn
  serves there now (came from datagram ∷ done) (before, s, takes) from_it =
      taken before now done from datagram None (serves there before done s (λ other bytes has. from_it other bytes (later (came from datagram) (came other bytes) done has))) takes
      (from_it from datagram (first_is (came from datagram) done))
  serves there now (sent to bytes ∷ came from datagram ∷ done) (before, s, same, takes) from_it =
      subst (λ (at : SocketAddr). Served addresses f number start now (sent at bytes ∷ came from datagram ∷ done)) (sym same) (taken before now done from datagram (Some bytes)
      (serves there before done s (λ other more has. from_it other more (later (sent to bytes) (came other more) (came from datagram ∷ done) (later (came from datagram) (came other more) done has)))) takes
      (from_it from datagram (later (sent to bytes) (came from datagram) (came from datagram ∷ done) (first_is (came from datagram) done))))
  serves there now (act ∷ done) s from_it = absurd s

pub serving_is_moves : ServingIsMoves
serving_is_moves addresses f number start now acts there s from_it =
    let r = serves addresses f number start there now acts s from_it in
    (r.new, r.reaches, r.there, r.answers)
