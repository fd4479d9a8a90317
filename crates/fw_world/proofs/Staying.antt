-- Who is there stays.
use Rattle.std.proofs.Common.{◌≡◌, ℕ, nat_eq, Bool, true, false, cond, List, [], ◌∷◌, ◌++◌, is_some, Option, None, Some, refl, sym, ap, subst, ◌∙◌, All}
use Rattle.std.specs.Map.{lookup, set_value}
use Rattle.std.proofs.lemmas.List.Elements.{All-nil, All-cons, All-append, All-weaker}
use Rattle.fw_image.specs.Meter.{Meter}
use Rattle.fw_head.specs.Head.{Head, sends_to}
use Rattle.fw_world.specs.declared.datagram.Direction.{Direction}
use Rattle.fw_world.specs.declared.datagram.Direction.TheVariants.{ToMeter, ToHead}
use Rattle.fw_world.specs.World.{Datagram}
use Rattle.fw_world.specs.Step.{Event, open_campaign, cancel_campaign, tick, deliver, stop, restart_meter, stop_restart, restart_head, turn, replies}
use Rattle.fw_world.specs.State.{State, head_at, meter_at, set_head, IsAddressed, AreAddressed, sent_to, StateStep, DeliversAt}
use Rattle.fw_world.specs.Laws.{ActorsStay, SentStaysAddressed}
use Rattle.fw_world.proofs.Events.{at_number}

-- another value under a key leaves which keys are there
pub same_there : {X : Type 0} (test other : ℕ → Bool) (value : X) (es : List (ℕ × X)) → is_some (lookup other (set_value test es value)) ≡ is_some (lookup other es)
same_there test other value [] = refl
same_there {X} test other value (entry ∷ entries) = go (test entry.0) (same_there test other value entries)
  where
    either : (b : Bool) (x y : X) (rest : Option X) → is_some (cond b (Some x) rest) ≡ is_some (cond b (Some y) rest)
    either true x y rest = refl
    either false x y rest = refl

    later : (b : Bool) (x : X) (rest more : Option X) → is_some rest ≡ is_some more → is_some (cond b (Some x) rest) ≡ is_some (cond b (Some x) more)
    later true x rest more e = refl
    later false x rest more e = e

    go : (b : Bool) → is_some (lookup other (set_value test entries value)) ≡ is_some (lookup other entries) → is_some (lookup other (cond b ((entry.0, value) ∷ entries) (entry ∷ set_value test entries value))) ≡ is_some (lookup other (entry ∷ entries))
    go true e = either (other entry.0) value entry.1 (lookup other entries)
    go false e = later (other entry.0) entry.1 (lookup other (set_value test entries value)) (lookup other entries) e

abbrev Stays : State → State → ℕ → Type 0
Stays old new number = (is_some (head_at new number) ≡ is_some (head_at old number)) × (is_some (meter_at new number) ≡ is_some (meter_at old number))

-- a head end or a meter is another one, and the lists are others
head_goes : (old new : State) (key : ℕ) (head : Head) (sent : List Datagram) → new ≡ record (set_head old key head) { sent = sent } → (number : ℕ) → Stays old new number
head_goes old new key head sent is number =
    (ap (λ (s : State). is_some (head_at s number)) is ∙ same_there (nat_eq key) (nat_eq number) head old.heads, ap (λ (s : State). is_some (meter_at s number)) is)

meter_goes : (old new : State) (key : ℕ) (meter : Meter) → new.heads ≡ old.heads → new.meters ≡ set_value (nat_eq key) old.meters meter → (number : ℕ) → Stays old new number
meter_goes old new key meter heads meters number = (
  ap (λ (es : List (ℕ × Head)). is_some (lookup (nat_eq number) es)) heads,
  ap (λ (es : List (ℕ × Meter)). is_some (lookup (nat_eq number) es)) meters ∙ same_there (nat_eq key) (nat_eq number) meter old.meters,
)

delivery_stays : (old new : State) (d : Datagram) (way : Direction) → DeliversAt way old d new → (number : ℕ) → Stays old new number
delivery_stays old new d ToMeter o = meter_goes old new d.meter o.after (ap (λ (s : State). s.heads) o.new_is) (ap (λ (s : State). s.meters) o.new_is)
delivery_stays old new d ToHead o = head_goes old new d.head o.after old.sent o.new_is

pub actors_stay : ActorsStay
actors_stay old new (open_campaign campaign release image meters) o = head_goes old new campaign.head _ old.sent o.new_is
actors_stay old new (cancel_campaign campaign) o = head_goes old new campaign.head _ old.sent o.new_is
actors_stay old new (tick head meter) o = head_goes old new head _ _ o.new_is
actors_stay old new (deliver number) o = delivery_stays old new o.0 o.0.direction o.2
actors_stay old new (stop number calls torn) o =
    let s = o.3 in meter_goes old new o.0.meter _ (ap (λ (s : State). s.heads) s.new_is) (ap (λ (s : State). s.meters) s.new_is)
actors_stay old new (restart_meter number) o = meter_goes old new number _ (ap (λ (s : State). s.heads) o.2) (ap (λ (s : State). s.meters) o.2)
actors_stay old new (stop_restart number calls torn) o = meter_goes old new number _ (ap (λ (s : State). s.heads) o.2) (ap (λ (s : State). s.meters) o.2)
actors_stay old new (restart_head number) o = head_goes old new number _ old.sent o.2
actors_stay old new (turn number) o = meter_goes old new number _ (ap (λ (s : State). s.heads) o.4) (ap (λ (s : State). s.meters) o.4)

-- ---- both ends of what was sent are there

-- what was sent between those who were there
addressed_in : (old new : State) → ((number : ℕ) → Stays old new number) → (sent : List Datagram) → All (IsAddressed old) sent → All (IsAddressed new) sent
addressed_in old new stays = All-weaker (IsAddressed old) (IsAddressed new) (λ d there. ((stays d.head).0 ∙ there.0, (stays d.meter).1 ∙ there.1))

-- a head end sends to a meter that is there
sends_there : (s : State) (head meter : ℕ) (datagrams : List (List ℕ)) → is_some (head_at s head) ≡ true → is_some (meter_at s meter) ≡ true → All (IsAddressed s) (sent_to head meter datagrams)
sends_there s head meter [] h m = All-nil (IsAddressed s)
sends_there s head meter (bytes ∷ others) h m =
    All-cons (IsAddressed s) (record { head = head; meter = meter; direction = ToMeter; bytes = bytes }) (sent_to head meter others) (h, m) (sends_there s head meter others h m)

-- a meter replies to where a datagram came from
replies_there : (s : State) (d : Datagram) (reply : Option (List ℕ)) → IsAddressed s d → All (IsAddressed s) (replies d reply)
replies_there s d None there = All-nil (IsAddressed s)
replies_there s d (Some bytes) there = All-cons (IsAddressed s) (record d { direction = ToHead; bytes = bytes }) [] there (All-nil (IsAddressed s))

-- if no more is sent, and where more is
none_sent : (old new : State) → new.sent ≡ old.sent → All (IsAddressed new) old.sent → AreAddressed new
none_sent old new same kept = subst (λ (ds : List Datagram). All (IsAddressed new) ds) (sym same) kept

more_sent : (old new : State) (more : List Datagram) → new.sent ≡ old.sent ++ more → All (IsAddressed new) old.sent → All (IsAddressed new) more → AreAddressed new
more_sent old new more grown kept there = subst (λ (ds : List Datagram). All (IsAddressed new) ds) (sym grown) (All-append (IsAddressed new) old.sent more kept there)

delivery_addressed : (old new : State) (d : Datagram) (way : Direction) → DeliversAt way old d new → All (IsAddressed new) old.sent → IsAddressed new d → AreAddressed new
delivery_addressed old new d ToMeter o kept there = more_sent old new (replies d o.reply) (ap (λ (s : State). s.sent) o.new_is) kept (replies_there new d o.reply there)
delivery_addressed old new d ToHead o kept there = none_sent old new (ap (λ (s : State). s.sent) o.new_is) kept

pub sent_addressed : SentStaysAddressed
sent_addressed old new event o addressed = go event o (actors_stay old new event o) (addressed_in old new (actors_stay old new event o) old.sent addressed)
  where
    go : (event : Event) → StateStep old event new → ((number : ℕ) → Stays old new number) → All (IsAddressed new) old.sent → AreAddressed new
    go (open_campaign campaign release image meters) o stays kept = none_sent old new (ap (λ (s : State). s.sent) o.new_is) kept
    go (cancel_campaign campaign) o stays kept = none_sent old new (ap (λ (s : State). s.sent) o.new_is) kept
    go (tick head meter) o stays kept =
        more_sent old new (sent_to head meter (sends_to o.head meter)) (ap (λ (s : State). s.sent) o.new_is) kept
        (sends_there new head meter (sends_to o.head meter) ((stays head).0 ∙ ap is_some o.there) ((stays meter).1 ∙ o.meter_there))
    go (deliver number) o stays kept = delivery_addressed old new o.0 o.0.direction o.2 kept (at_number (IsAddressed new) old.sent number o.0 kept o.1)
    go (stop number calls torn) o stays kept = let s = o.3 in none_sent old new (ap (λ (s : State). s.sent) s.new_is) kept
    go (restart_meter number) o stays kept = none_sent old new (ap (λ (s : State). s.sent) o.2) kept
    go (stop_restart number calls torn) o stays kept = none_sent old new (ap (λ (s : State). s.sent) o.2) kept
    go (restart_head number) o stays kept = none_sent old new (ap (λ (s : State). s.sent) o.2) kept
    go (turn number) o stays kept = none_sent old new (ap (λ (s : State). s.sent) o.4) kept
