-- A rollout of a head end, as moves of a field.
use Rattle.std.proofs.Common.{◌≡◌, ℕ, nat_eq, inl, inr, List, [], ◌∷◌, ◌++◌, Some, All, Contains, refl, sym, ap, subst, ◌∙◌}
use Rattle.std.proofs.lemmas.Bool.{cond-true}
use Rattle.std.proofs.lemmas.List.Elements.{All-nil, Contains-append_left, Contains-append_right, Contains-append_cases}
use Rattle.std.specs.declared.net.socket_addr.SocketAddr.{SocketAddr}
use Rattle.fw_head.specs.declared.giving_up.WhyGivenUp.TheVariants.{Silent}
use Rattle.fw_rollout.specs.declared.ended.Ended.{Ended}
use Rattle.fw_rollout.specs.declared.link.Listed.{Listed}
use Rattle.fw_rollout.specs.Leading.{Leader, Step, hears, idles, ticks, sends, saves, tells, IsListed, Steps}
use Rattle.fw_rollout.specs.Rollout.{ComesToAsk, Deed, Does, GivesUpMeter, Lists, RollsOut, asks, gives_up, makes, steps_of}
use Rattle.fw_world.specs.World.{Datagram}
use Rattle.fw_field.specs.Field.{Field, with_leader}
use Rattle.fw_field.specs.Laws.{AfterMoves, ReportsAreTrue}
use Rattle.fw_field.specs.Moves.{Comes, GivesRowUp, GoesOut, MovesLead, ask_others, give_up, step, to_head, to_meter, told_by}
use Rattle.fw_field.specs.Rollouts.{CameInRollout, EverAsked, RolloutDoesAll, RolloutIsMoves, RolloutToldIsTrue, rollout_moves}
use Rattle.fw_field.proofs.Maps.{itself}
use Rattle.fw_field.proofs.Serving.{first_is, later, move_on, none_there, one_there}
use Rattle.fw_field.proofs.Leading.{Goes_to, out_of, sends_by}
use Rattle.fw_field.proofs.Coming.{moves_append, tells_in}

-- ---- whom it asks

-- a meter that it ever asked, it also asked before later deeds
asked_later : (start : Leader) (deed : Deed) (deeds : List Deed) (meter : ℕ) (address : SocketAddr) → EverAsked start deeds meter address
    → EverAsked start (deed ∷ deeds) meter address
asked_later start deed deeds meter address (inl listed) = inl listed
asked_later start deed deeds meter address (inr other) = inr (other.0, later deed (asks other.0) deeds other.1, other.2)

-- the addresses of what is about to be sent are those of the list, whatever else a leader is
abbrev Going : List Listed → SocketAddr × List ℕ → Type 0
Going meters going = (meter : ℕ) × Contains meters (record { meter = meter; address = going.0 })

going_as : (a b : Leader) → b.meters ≡ a.meters → b.going ≡ a.going → All (Goes_to a) a.going → All (Goes_to b) b.going
going_as a b meters going all =
    subst (λ (ms : List Listed). All (Going ms) b.going) (sym meters) (subst (λ (xs : List (SocketAddr × List ℕ)). All (Going a.meters) xs) (sym going) all)

-- ---- what a rollout led to

record Rolled (addresses : ℕ → List SocketAddr) (f : Field) (number : ℕ) (start now : Leader) (deeds : List Deed) : Type 0 where
  pub new : Field
  pub reaches : MovesLead addresses f (rollout_moves number deeds) new
  pub does : RolloutDoesAll number start deeds new
  pub there : new.heads number ≡ Some now
  pub stays : (d : Datagram) → Contains f.sent d → Contains new.sent d
  pub asked : (meter : ℕ) (address : SocketAddr) → IsListed now meter address → EverAsked start deeds meter address
  pub going : All (Goes_to now) now.going

module _ (addresses : ℕ → List SocketAddr) (f : Field) (number : ℕ) (start : Leader) where
  -- a head end is put in its place
  placed : (g : Field) (now : Leader) → (with_leader g number now).heads number ≡ Some now
  placed g now = cond-true (nat_eq number number) (Some now) (g.heads number) (itself number)

  -- it asks the same meters, or others of that list
  same_asked : (before now : Leader) (deed : Deed) (past : List Deed) → now.meters ≡ before.meters
      → ((meter : ℕ) (address : SocketAddr) → IsListed before meter address → EverAsked start past meter address)
      → (meter : ℕ) (address : SocketAddr) → IsListed now meter address → EverAsked start (deed ∷ past) meter address
  same_asked before now deed past same was meter address listed =
      asked_later start deed past meter address
      (was meter address (subst (λ (ms : List Listed). Contains ms (record { meter = meter; address = address })) same listed))

  -- nothing more is sent or reported
  does_same : (g new : Field) (deed : Deed) (past : List Deed) → steps_of (deed ∷ past) ≡ steps_of past → new.sent ≡ g.sent → new.told ≡ g.told
      → RolloutDoesAll number start past g → RolloutDoesAll number start (deed ∷ past) new
  does_same g new deed past same sent_is told_is does = record {
    sent_all = λ to bytes has.
        let it = does.sent_all to bytes (subst (λ (xs : List Step). Contains xs (sends to bytes)) same has) in (
          it.0,
          asked_later start deed past it.0 to it.1,
          subst (λ (xs : List Datagram). Contains xs (to_meter number it.0 bytes)) (sym sent_is) it.2,
        );
    told_all = λ ended has.
        subst (λ (xs : List Ended). Contains xs ended) (sym told_is)
        (does.told_all ended (subst (λ (xs : List Step). Contains xs (tells ended)) same has));
  }

  -- what a step sends and reports
  does_step : (g : Field) (before : Leader) (new : Field) (made : Step) (past : List Deed) (out : List Datagram)
      → ((meter : ℕ) (address : SocketAddr) → IsListed before meter address → EverAsked start past meter address) → GoesOut number before made out
      → new.sent ≡ g.sent ++ out → new.told ≡ g.told ++ told_by made → RolloutDoesAll number start past g → RolloutDoesAll number start (makes made ∷ past) new
  does_step g before new made past out asked goes sent_is told_is does = record {
    sent_all = λ to bytes has. elim (Contains-append_cases (made ∷ []) (steps_of past) (sends to bytes) has) [
      | inl here ↦ (let it = sends_by number before out made to bytes goes (one_there made (sends to bytes) here) in (
        it.0,
        asked_later start (makes made) past it.0 to (asked it.0 to it.1),
        subst (λ (xs : List Datagram). Contains xs (to_meter number it.0 bytes)) (sym sent_is)
            (Contains-append_right g.sent out (to_meter number it.0 bytes)
            (subst (λ (xs : List Datagram). Contains xs (to_meter number it.0 bytes)) (sym it.2) (first_is (to_meter number it.0 bytes) []))),
      ))
      | inr then ↦ (let it = does.sent_all to bytes then in (
        it.0,
        asked_later start (makes made) past it.0 to it.1,
        subst (λ (xs : List Datagram). Contains xs (to_meter number it.0 bytes)) (sym sent_is)
            (Contains-append_left g.sent out (to_meter number it.0 bytes) it.2),
      ))
    ];
    told_all = λ ended has. subst (λ (xs : List Ended). Contains xs ended) (sym told_is) (elim (Contains-append_cases (made ∷ []) (steps_of past) (tells ended) has) [
      | inl here ↦ Contains-append_right g.told (told_by made) ended
          (subst (λ (m : Step). Contains (told_by m) ended) (sym (one_there made (tells ended) here)) (first_is ended []))
      | inr then ↦ Contains-append_left g.told (told_by made) ended (does.told_all ended then)
    ]);
  }

  -- what came to it came from the network
  comes_in : (g : Field) (before : Leader) (made : Step) (past : List Deed)
      → ((meter : ℕ) (address : SocketAddr) → IsListed before meter address → EverAsked start past meter address)
      → ((d : Datagram) → Contains f.sent d → Contains g.sent d) → CameInRollout f number start (makes made ∷ past) → Comes g number before made
  comes_in g before (hears from datagram) past asked more came =
      λ meter listed. more (to_head number meter datagram)
      (came from datagram meter (first_is (hears from datagram) (steps_of past))
      (asked_later start (makes (hears from datagram)) past meter from (asked meter from listed)))
  comes_in g before idles past asked more came = tt
  comes_in g before (ticks meter) past asked more came = tt
  comes_in g before (sends to bytes) past asked more came = tt
  comes_in g before saves past asked more came = tt
  comes_in g before (tells ended) past asked more came = tt

  -- ---- a deed of each kind

  makes_one : (before now : Leader) (made : Step) (past : List Deed) → Rolled addresses f number start before past → Steps before made now
      → CameInRollout f number start (makes made ∷ past) → Rolled addresses f number start now (makes made ∷ past)
  makes_one before now made past l steps came =
      let o = out_of number before before now refl l.going made steps in
      let new : Field = record (with_leader l.new number now) { sent = l.new.sent ++ o.out; told = l.new.told ++ told_by made } in
      record {
        new = new;
        reaches = move_on addresses f l.new new (rollout_moves number past) (step number made) l.reaches (record {
          before = before;
          after = now;
          out = o.out;
          there = l.there;
          steps = steps;
          came = comes_in l.new before made past l.asked l.stays came;
          goes_out = o.goes_out;
          new_is = refl;
        });
        does = does_step l.new before new made past o.out l.asked o.goes_out refl refl l.does;
        there = placed l.new now;
        stays = λ d has. Contains-append_left l.new.sent o.out d (l.stays d has);
        asked = same_asked before now (makes made) past o.meters l.asked;
        going = subst (λ (ms : List Listed). All (Going ms) now.going) (sym o.meters) o.going;
      }

  gives_one_up : (before now : Leader) (meter at : ℕ) (past : List Deed) → Rolled addresses f number start before past → GivesUpMeter before meter at now
      → Rolled addresses f number start now (gives_up meter at ∷ past)
  gives_one_up before now meter at past l (address, given, is) =
      let new : Field = with_leader l.new number now in
      let row : GivesRowUp l.new number given.meter new = record {
        before = before;
        after = now;
        why = Silent;
        given = given.given;
        end = record { at = at; reason = Some given.given.reason };
        there = l.there;
        gives = given.gives;
        reason = refl;
        waits = given.others;
        new_is = refl;
      } in
      record {
        new = new;
        reaches = move_on addresses f l.new new (rollout_moves number past) (give_up number meter) l.reaches
            (subst (λ (m : ℕ). GivesRowUp l.new number m new) is row);
        does = does_same l.new new (gives_up meter at) past refl refl refl l.does;
        there = placed l.new now;
        stays = l.stays;
        asked = same_asked before now (gives_up meter at) past (ap (λ (x : Leader). x.meters) given.others) l.asked;
        going = going_as before now (ap (λ (x : Leader). x.meters) given.others) (ap (λ (x : Leader). x.going) given.others) l.going;
      }

  asks_others : (lists : Lists) (before now : Leader) (meters : List Listed) (past : List Deed) → Rolled addresses f number start before past
      → ComesToAsk lists before meters now → Rolled addresses f number start now (asks meters ∷ past)
  asks_others lists before now meters past l others =
      let new : Field = with_leader l.new number now in
      record {
        new = new;
        reaches = move_on addresses f l.new new (rollout_moves number past) (ask_others number meters) l.reaches (record {
          before = before;
          there = l.there;
          sent_all = others.sent_all;
          new_is = ap (λ (x : Leader). with_leader l.new number x) others.others;
        });
        does = does_same l.new new (asks meters) past refl refl refl l.does;
        there = placed l.new now;
        stays = l.stays;
        asked = λ meter address listed.
            inr (
              meters,
              first_is (asks meters) past,
              subst (λ (x : Leader). Contains x.meters (record { meter = meter; address = address })) others.others listed,
            );
        going = subst (λ (xs : List (SocketAddr × List ℕ)). All (Goes_to now) xs) (sym (ap (λ (x : Leader). x.going) others.others ∙ others.sent_all)) (All-nil (Goes_to now));
      }

  -- ---- a rollout

  -- what came in a rollout came in what it began with
  came_before : (deed : Deed) (past : List Deed) → CameInRollout f number start (deed ∷ past) → CameInRollout f number start past
  came_before (makes made) past came =
      λ from datagram meter has asked. came from datagram meter (later made (hears from datagram) (steps_of past) has) (asked_later start (makes made) past meter from asked)
  came_before (gives_up other at) past came =
      λ from datagram meter has asked. came from datagram meter has (asked_later start (gives_up other at) past meter from asked)
  came_before (asks meters) past came =
      λ from datagram meter has asked. came from datagram meter has (asked_later start (asks meters) past meter from asked)

  does_one : (lists : Lists) (before now : Leader) (deed : Deed) (past : List Deed) → Rolled addresses f number start before past → Does lists before deed now
      → CameInRollout f number start (deed ∷ past) → Rolled addresses f number start now (deed ∷ past)
  does_one lists before now (makes made) past l does came = makes_one before now made past l does came
  does_one lists before now (gives_up meter at) past l does came = gives_one_up before now meter at past l does
  does_one lists before now (asks meters) past l does came = asks_others lists before now meters past l does

  rolls : (lists : Lists) → f.heads number ≡ Some start → start.going ≡ [] → (now : Leader) (deeds : List Deed) → RollsOut lists start deeds now
      → CameInRollout f number start deeds → Rolled addresses f number start now deeds
  rolls lists there rests now [] same came =
      subst (λ (l : Leader). Rolled addresses f number start l []) (sym same) (record {
        new = f;
        reaches = refl;
        does = record {
          sent_all = λ to bytes has. absurd (none_there (sends to bytes) has);
          told_all = λ ended has. absurd (none_there (tells ended) has);
        };
        there = there;
        stays = λ d has. has;
        asked = λ meter address listed. inl listed;
        going = subst (λ (xs : List (SocketAddr × List ℕ)). All (Goes_to start) xs) (sym rests) (All-nil (Goes_to start));
      })
  rolls lists there rests now (deed ∷ past) (before, rolled, does) came =
      does_one lists before now deed past (rolls lists there rests before past rolled (came_before deed past came)) does came

pub rollout_is_moves : (lists : Lists) → RolloutIsMoves lists
rollout_is_moves lists addresses f number start now deeds there rests rolled came =
    let r = rolls addresses f number start lists there rests now deeds rolled came in
    (r.new, r.reaches, r.there, r.does)

pub rollout_told_is_true : AfterMoves (λ beginning now. ReportsAreTrue now) → (lists : Lists) → RolloutToldIsTrue lists
rollout_told_is_true reports lists addresses beginning f moves number start now deeds is made there rests rolled came =
    let r = rollout_is_moves lists addresses f number start now deeds there rests rolled came in
    let all : MovesLead addresses beginning (moves ++ rollout_moves number deeds) r.0 = moves_append addresses beginning f r.0 moves (rollout_moves number deeds) made r.1 in (
      r.0,
      r.1,
      r.2,
      λ ended has done.
          reports addresses beginning r.0 (moves ++ rollout_moves number deeds) is all ended (r.3.told_all ended (tells_in (steps_of deeds) ended has)) done,
    )
