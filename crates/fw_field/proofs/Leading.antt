-- What a head end does, as moves of a field.
use Rattle.std.proofs.Common.{◌≡◌, ℕ, nat_eq, inl, inr, List, [], ◌∷◌, ◌++◌, map, Option, Some, All, Contains, refl, sym, ap, subst, ◌∙◌}
use Rattle.std.proofs.lemmas.Bool.{cond-true}
use Rattle.std.proofs.lemmas.List.Elements.{All-nil, All-cons, All-head, All-tail, Contains-append_left, Contains-append_right, Contains-append_cases}
use Rattle.std.specs.declared.net.socket_addr.SocketAddr.{SocketAddr}
use Rattle.fw_head.specs.Head.{sends_to}
use Rattle.fw_rollout.specs.Leading.{Leader, Leading, Step, hears, idles, ticks, sends, saves, tells, IsListed, Steps}
use Rattle.fw_rollout.specs.declared.link.Listed.{Listed}
use Rattle.fw_world.specs.World.{Datagram}
use Rattle.fw_field.specs.Field.{Field, with_leader}
use Rattle.fw_field.specs.Moves.{step, Comes, MovesLead, GoesOut, WasAnswered, to_head, to_meter, told_by}
use Rattle.fw_rollout.specs.declared.ended.Ended.{Ended}
use Rattle.fw_field.specs.Laws.{CameToHead, DoesAll, LeadingIsMoves, moves_of}
use Rattle.fw_field.proofs.Maps.{itself}
use Rattle.fw_field.proofs.Serving.{move_on, first_is, later, none_there, one_there}

abbrev pub Goes_to : Leader → SocketAddr × List ℕ → Type 0
Goes_to start going = (meter : ℕ) × IsListed start meter going.0

listed_all : (start : Leader) (meter : ℕ) (to : SocketAddr) → IsListed start meter to → (xs : List (List ℕ)) → All (Goes_to start) (map (λ (bytes : List ℕ). (to, bytes)) xs)
listed_all start meter to listed [] = All-nil (Goes_to start)
listed_all start meter to listed (x ∷ xs) = All-cons (Goes_to start) (to, x) (map (λ (bytes : List ℕ). (to, bytes)) xs) (meter, listed) (listed_all start meter to listed xs)

relisted : (a b : Leader) (meter : ℕ) (to : SocketAddr) → b.meters ≡ a.meters → IsListed a meter to → IsListed b meter to
relisted a b meter to same listed = subst (λ (xs : List Listed). Contains xs (record { meter = meter; address = to })) (sym same) listed

-- what a step sends, and what is about to be sent after it
pub record Out (number : ℕ) (start before now : Leader) (made : Step) : Type 0 where
  pub out : List Datagram
  pub goes_out : GoesOut number before made out
  pub going : All (Goes_to start) now.going
  pub meters : now.meters ≡ before.meters

module _ (number : ℕ) (start before now : Leader) (same : before.meters ≡ start.meters) (going : All (Goes_to start) before.going) where
  stay : now.going ≡ before.going → All (Goes_to start) now.going
  stay e = subst (λ (xs : List (SocketAddr × List ℕ)). All (Goes_to start) xs) (sym e) going

  pub out_of : (made : Step) → Steps before made now → Out number start before now made
  out_of (hears from datagram) (inl h) = record { out = []; goes_out = refl; going = stay (ap (λ (l : Leader). l.going) h.others); meters = ap (λ (l : Leader). l.meters) h.others }
  out_of (hears from datagram) (inr (inl h)) = record { out = []; goes_out = refl; going = stay (ap (λ (l : Leader). l.going) h.same); meters = ap (λ (l : Leader). l.meters) h.same }
  out_of (hears from datagram) (inr (inr h)) = record { out = []; goes_out = refl; going = stay (ap (λ (l : Leader). l.going) h.same); meters = ap (λ (l : Leader). l.meters) h.same }
  out_of idles e = record { out = []; goes_out = refl; going = stay (ap (λ (l : Leader). l.going) e); meters = ap (λ (l : Leader). l.meters) e }
  out_of (ticks meter) t = record {
    out = [];
    goes_out = refl;
    going = subst (λ (xs : List (SocketAddr × List ℕ)). All (Goes_to start) xs) (sym (ap (λ (l : Leader). l.going) t.others))
        (listed_all start meter t.to (relisted before start meter t.to (sym same) t.listed) (sends_to before.head meter));
    meters = ap (λ (l : Leader). l.meters) t.others;
  }
  out_of (sends to bytes) t =
      let all = subst (λ (xs : List (SocketAddr × List ℕ)). All (Goes_to start) xs) t.next going in
      let to_it = All-head (Goes_to start) (to, bytes) now.going all in
      record {
        out = to_meter number to_it.0 bytes ∷ [];
        goes_out = (to_it.0, relisted start before to_it.0 to same to_it.1, refl);
        going = All-tail (Goes_to start) (to, bytes) now.going all;
        meters = ap (λ (l : Leader). l.meters) t.others;
      }
  out_of saves e = record { out = []; goes_out = refl; going = stay (ap (λ (l : Leader). l.going) e); meters = ap (λ (l : Leader). l.meters) e }
  out_of (tells ended) t = record { out = []; goes_out = refl; going = stay (ap (λ (l : Leader). l.going) t.others); meters = ap (λ (l : Leader). l.meters) t.others }

record Led (addresses : ℕ → List SocketAddr) (f : Field) (number : ℕ) (start now : Leader) (steps : List Step) : Type 0 where
  pub new : Field
  pub reaches : MovesLead addresses f (moves_of number steps) new
  pub does : DoesAll number start steps new
  pub there : new.heads number ≡ Some now
  pub stays : (d : Datagram) → Contains f.sent d → Contains new.sent d
  pub meters : now.meters ≡ start.meters
  pub going : All (Goes_to start) now.going

-- a step that is a send sends on the link of a meter with that address
pub sends_by : (number : ℕ) (before : Leader) (out : List Datagram) (made : Step) (to : SocketAddr) (bytes : List ℕ) → GoesOut number before made out → made ≡ sends to bytes
    → (meter : ℕ) × IsListed before meter to × (out ≡ to_meter number meter bytes ∷ [])
sends_by number before out made to bytes goes same = subst (λ (m : Step). GoesOut number before m out) same goes

module _ (addresses : ℕ → List SocketAddr) (f : Field) (number : ℕ) (start : Leader) where
  from_net : (g : Field) (before : Leader) (made : Step) → before.meters ≡ start.meters → ((d : Datagram) → Contains f.sent d → Contains g.sent d)
      → ((from : SocketAddr) (datagram : List ℕ) → made ≡ hears from datagram → WasAnswered f number start from datagram) → Comes g number before made
  from_net g before (hears from datagram) same more was =
      λ meter listed. more (to_head number meter datagram) (was from datagram refl meter (relisted before start meter from (sym same) listed))
  from_net g before idles same more was = tt
  from_net g before (ticks meter) same more was = tt
  from_net g before (sends to bytes) same more was = tt
  from_net g before saves same more was = tt
  from_net g before (tells ended) same more was = tt

  does_more : (old : Field) (before : Leader) (new : Field) (made : Step) (steps : List Step) (out : List Datagram) → before.meters ≡ start.meters → GoesOut number before made out
      → new.sent ≡ old.sent ++ out → new.told ≡ old.told ++ told_by made → DoesAll number start steps old → DoesAll number start (made ∷ steps) new
  does_more old before new made steps out same goes sent_is told_is does = record {
    sent_all = λ to bytes has. elim (Contains-append_cases (made ∷ []) steps (sends to bytes) has) [
      | inl here ↦ (let it = sends_by number before out made to bytes goes (one_there made (sends to bytes) here) in (
        it.0,
        relisted before start it.0 to (sym same) it.1,
        subst (λ (xs : List Datagram). Contains xs (to_meter number it.0 bytes)) (sym sent_is)
            (Contains-append_right old.sent out (to_meter number it.0 bytes)
            (subst (λ (xs : List Datagram). Contains xs (to_meter number it.0 bytes)) (sym it.2) (first_is (to_meter number it.0 bytes) []))),
      ))
      | inr then ↦ (let it = does.sent_all to bytes then in (
        it.0,
        it.1,
        subst (λ (xs : List Datagram). Contains xs (to_meter number it.0 bytes)) (sym sent_is)
            (Contains-append_left old.sent out (to_meter number it.0 bytes) it.2),
      ))
    ];
    told_all = λ ended has. subst (λ (xs : List Ended). Contains xs ended) (sym told_is) (elim (Contains-append_cases (made ∷ []) steps (tells ended) has) [
      | inl here ↦ Contains-append_right old.told (told_by made) ended
          (subst (λ (m : Step). Contains (told_by m) ended) (sym (one_there made (tells ended) here)) (first_is ended []))
      | inr then ↦ Contains-append_left old.told (told_by made) ended (does.told_all ended then)
    ]);
  }

  goes_on : (before now : Leader) (made : Step) (past : List Step) → Led addresses f number start before past → Steps before made now
      → ((from : SocketAddr) (datagram : List ℕ) → made ≡ hears from datagram → WasAnswered f number start from datagram) → Led addresses f number start now (made ∷ past)
  goes_on before now made past l steps was =
      let o = out_of number start before now l.meters l.going made steps in
      let new : Field = record (with_leader l.new number now) { sent = l.new.sent ++ o.out; told = l.new.told ++ told_by made } in
      record {
        new = new;
        reaches = move_on addresses f l.new new (moves_of number past) (step number made) l.reaches (record {
          before = before;
          after = now;
          out = o.out;
          there = l.there;
          steps = steps;
          came = from_net l.new before made l.meters l.stays was;
          goes_out = o.goes_out;
          new_is = refl;
        });
        does = does_more l.new before new made past o.out l.meters o.goes_out refl refl l.does;
        there = cond-true (nat_eq number number) (Some now) (l.new.heads number) (itself number);
        stays = λ d has. Contains-append_left l.new.sent o.out d (l.stays d has);
        meters = o.meters ∙ l.meters;
        going = o.going;
      }

  leads : f.heads number ≡ Some start → start.going ≡ [] → (now : Leader) (steps : List Step) → Leading start steps now → CameToHead f number start steps → Led addresses f number start now steps
  leads there rests now [] same from_it =
      let G : List (SocketAddr × List ℕ) → Type 0 = λ xs. All (Goes_to start) xs in
      record {
        new = f;
        reaches = refl;
        does = record {
          sent_all = λ to bytes has. absurd (none_there (sends to bytes) has);
          told_all = λ ended has. absurd (none_there (tells ended) has);
        };
        there = there ∙ ap (λ (l : Leader). (let o : Option Leader = Some l in o)) (sym same);
        stays = λ d has. has;
        meters = ap (λ (l : Leader). l.meters) same;
        going = subst G (sym (ap (λ (l : Leader). l.going) same ∙ rests)) (All-nil (Goes_to start));
      }
  leads there rests now (made ∷ done) (before, led, steps) from_it =
      goes_on before now made done
      (leads there rests before done led (λ from datagram has. from_it from datagram (later made (hears from datagram) done has)))
      steps
      (λ from datagram same. from_it from datagram (subst (λ (x : Step). Contains (x ∷ done) (hears from datagram)) (sym same) (first_is (hears from datagram) done)))

pub leading_is_moves : LeadingIsMoves
leading_is_moves addresses f number start now steps there rests led from_it =
    let r = leads addresses f number start there rests now steps led from_it in
    (r.new, r.reaches, r.there, r.does)
