-- What each call makes of a link, and of the numbers that a schedule keeps.
use Rattle.std.proofs.Common.{◌≡◌, ◌≢◌, ◌↔◌, ◌⊎◌, ℕ, ◌+◌, ◌-◌, ◌^◌, ◌≤◌, ◌<◌, Bool, true, false, cond, List, map, Some, inl, inr, ⊎_elim, refl, sym, ap, subst, ◌∙◌, arith}
use Rattle.std.specs.Int.{from_bool}
use Rattle.std.specs.Prelude.{IsTrue, min, max, slice_get, slice_set}
use Rattle.std.proofs.lemmas.Bool.{false≢true}
use Rattle.std.proofs.lemmas.List.{map-set}
use Rattle.fw_rollout.specs.Link.{IsAnswered, IsGivenUp, IsHeld, IsLiveLink, IsReady, IsSent, turn_after, until_of}
use Rattle.fw_rollout.specs.Timing.{HasRoom, max_tick, most_out}
use Rattle.fw_rollout.specs.Schedule.{EndsMeter, IsAwaited, IsSchedule, is_live, is_live_turn, links_of}
use Rattle.fw_rollout.specs.declared.link.Answer.{Answer}
use Rattle.fw_rollout.specs.declared.link.Answer.TheVariants as answer
use Rattle.fw_rollout.specs.declared.link.Link.{Link}
use Rattle.fw_rollout.specs.declared.link.Turn.{Turn}
use Rattle.fw_rollout.specs.declared.link.Turn.TheVariants as turns
use Rattle.fw_rollout.specs.declared.schedule.Schedule.{Schedule}
use Rattle.fw_rollout.proofs.Turning.{Moves, live_of_link, live_true, map_kept, not_out, one_if_live, out_of_link}

-- ---- numbers

up_to : (a b c : ℕ) → a ≤ b → b ≤ c → a ≤ c
up_to a b c h g = omega arith

fewer : (a b l g n : ℕ) → b ≡ a - g → n + g ≡ l → l ≤ a → b + l ≡ a + n
fewer a b l g n e f h = omega arith

no_more : (a b g : ℕ) → b ≡ a - g → b ≤ a
no_more a b g e = omega arith

both_same : (a b x y : ℕ) → b ≡ a → y ≡ x → b + x ≡ a + y
both_same a b x y e f = omega arith

one_less : (a b x n y : ℕ) → b ≡ a - n → n ≡ x → x ≤ a → y ≡ 0 → b + x ≡ a + y
one_less a b x n y e f h g = omega arith

all_out : (n g l : ℕ) → n ≡ 0 → g ≡ l → n + g ≡ l
all_out n g l e f = omega arith

more_out : (a b l n c f : ℕ) → b ≡ min (a + c) (2 ^ 64 - 1) → l ≡ 0 → n ≡ c → (a ≡ 0) ⊎ (a + max_tick ≤ f) → c ≤ max_tick → f < 2 ^ 64 → b + l ≡ a + n
more_out a b l n c f e z g room few fits = omega arith

most_of : (a b c f : ℕ) → b ≡ min (a + c) (2 ^ 64 - 1) → (a ≡ 0) ⊎ (a + max_tick ≤ f) → c ≤ max_tick → b ≤ max f max_tick
most_of a b c f e room few = omega arith

within_less : (old new : Schedule) → IsSchedule old → new.timing ≡ old.timing → new.out ≤ old.out → new.out ≤ most_out new.timing.flight
within_less old new s e h = subst (λ t. new.out ≤ most_out t.flight) (sym e) (up_to new.out old.out (most_out old.timing.flight) h s.within)

live_kept : (a b : ℕ) (link next : Link) → b ≡ a → is_live next ≡ is_live link → b + one_if_live link ≡ a + one_if_live next
live_kept a b link next e f = both_same a b (one_if_live link) (one_if_live next) e (ap (λ x. cond x 1 0) f)

-- ---- it is given up

pub given_up_kept : (now : ℕ) (link : Link) (gone : ℕ) (next : Link) → IsGivenUp now link gone next → (next.at ≡ link.at) × (next.out ≡ 0) × (is_live next ≡ true)
given_up_kept now link gone next h = ⊎_elim
    (λ a. (ap (λ (l : Link). l.at) a.1, ap (λ (l : Link). l.out) a.1, ap is_live a.1))
    (λ b. ⊎_elim
    (λ a. (ap (λ (l : Link). l.at) a.2, ap (λ (l : Link). l.out) a.2, ap is_live a.2))
    (λ a. (ap (λ (l : Link). l.at) a.2, ap (λ (l : Link). l.out) a.2, ap is_live a.2)) b)
    h.1

pub gives_up : (place now gone : ℕ) (link next : Link) (old new : Schedule) → IsSchedule old → slice_get (links_of old) place ≡ Some link → IsLiveLink link → IsGivenUp now link gone next
    → links_of new ≡ slice_set (links_of old) place next → new.timing ≡ old.timing → new.places ≡ old.places → new.out ≡ old.out - gone → new.live ≡ old.live
    → Moves place link next old new
gives_up place now gone link next old new s was lives up links timing places out live =
    let k = given_up_kept now link gone next up in record {
      was = was;
      links = links;
      timing = timing;
      places = places;
      same_at = k.0;
      out = fewer old.out new.out link.out gone next.out out (all_out next.out gone link.out k.1 up.0) (out_of_link place link old s was);
      within = within_less old new s timing (no_more old.out new.out gone out);
      live = live_kept old.live new.live link next live (k.2 ∙ sym (live_true link.turn lives));
      awaited = inr k.1;
    }

-- ---- it is sent

pub sends_out : (place now count : ℕ) (link next : Link) (old new : Schedule) → IsSchedule old → slice_get (links_of old) place ≡ Some link → IsReady link → IsSent now count link next
    → links_of new ≡ slice_set (links_of old) place next → new.timing ≡ old.timing → new.places ≡ old.places → new.out ≡ min (old.out + count) (2 ^ 64 - 1) → new.live ≡ old.live
    → old.timing.flight < 2 ^ 64 → HasRoom old.out old.timing.flight → count ≤ max_tick → Moves place link next old new
sends_out place now count link next old new s was ready goes links timing places out live fits room few = record {
  was = was;
  links = links;
  timing = timing;
  places = places;
  same_at = ap (λ (l : Link). l.at) goes;
  out = more_out old.out new.out link.out next.out count old.timing.flight out (not_out link.turn link.out (s.awaited place link was) ready) (ap (λ (l : Link). l.out) goes) room few fits;
  within = subst (λ t. new.out ≤ most_out t.flight) (sym timing) (most_of old.out new.out count old.timing.flight out room few);
  live = live_kept old.live new.live link next live (ap is_live goes ∙ sym (ap is_live_turn ready));
  awaited = inl (subst (λ (l : Link). IsAwaited l.turn) (sym goes) tt);
}

-- ---- it is held

same_most : (a b : ℕ) → b ≡ a → b ≤ a
same_most a b e = omega arith

pub holds_back : (place now : ℕ) (link next : Link) (old new : Schedule) → IsSchedule old → slice_get (links_of old) place ≡ Some link → IsReady link → IsHeld now link next
    → links_of new ≡ slice_set (links_of old) place next → new.timing ≡ old.timing → new.places ≡ old.places → new.out ≡ old.out → new.live ≡ old.live
    → Moves place link next old new
holds_back place now link next old new s was ready goes links timing places out live =
    let same_out : next.out ≡ link.out = ap (λ (l : Link). l.out) goes in record {
      was = was;
      links = links;
      timing = timing;
      places = places;
      same_at = ap (λ (l : Link). l.at) goes;
      out = both_same old.out new.out link.out next.out out same_out;
      within = within_less old new s timing (same_most old.out new.out out);
      live = live_kept old.live new.live link next live (ap is_live goes ∙ sym (ap is_live_turn ready));
      awaited = inr (same_out ∙ not_out link.turn link.out (s.awaited place link was) ready);
    }

-- ---- it is answered

record Answered (link : Link) (answered : ℕ) (next : Link) : Type 0 where
  pub same_at : next.at ≡ link.at
  pub out : next.out + answered ≡ link.out
  pub live : is_live next ≡ is_live link
  pub awaited : IsAwaited next.turn ⊎ (next.out ≡ 0)

one_answered : (n a l : ℕ) → n ≡ l - a → a ≡ min l 1 → n + a ≡ l
one_answered n a l e f = omega arith

all_answered : (n a l : ℕ) → n ≡ l - a → a ≡ l → n + a ≡ l
all_answered n a l e f = omega arith

none_left : (n a l : ℕ) → n ≡ l - a → l ≡ 0 → n ≡ 0
none_left n a l e f = omega arith

all_left : (n a l : ℕ) → n ≡ l - a → a ≡ l → n ≡ 0
all_left n a l e f = omega arith

-- a live link is live after an answer
pub live_after : (a : Answer) (until : ℕ) (turn : Turn) → turn ≢ turns.Over → turn_after a until turn ≢ turns.Over
live_after answer.Partial until turn live = live
live_after answer.Last until turn live = λ e. cc
live_after answer.Early until turns.Over live = λ e. cc
live_after answer.Early until turns.Ready live = λ e. cc
live_after answer.Early until (turns.Awaited time) live = λ e. cc
live_after answer.Early until (turns.Silent time) live = λ e. cc
live_after answer.Early until (turns.Paused time) live = λ e. cc

-- one that waits for another time than before had waited
pub waited_before : (a : Answer) (until : ℕ) (turn : Turn) → turn ≢ turns.Over → until_of (turn_after a until turn) ≢ until_of turn → (time : ℕ) × (until_of turn ≡ Some time)
waited_before a until turns.Over live apart = absurd (live refl)
waited_before answer.Partial until turns.Ready live apart = absurd (apart refl)
waited_before answer.Last until turns.Ready live apart = absurd (apart refl)
waited_before answer.Early until turns.Ready live apart = absurd (apart refl)
waited_before a until (turns.Awaited time) live apart = (time, refl)
waited_before a until (turns.Silent time) live apart = (time, refl)
waited_before a until (turns.Paused time) live apart = (time, refl)

is_answered : (now resend : ℕ) (a : Answer) (link : Link) (answered : ℕ) (next : Link) → IsAnswered now resend a link answered next → IsLiveLink link → IsAwaited link.turn ⊎ (link.out ≡ 0)
    → Answered link answered next
is_answered now resend answer.Partial link answered next h lives was = record {
  same_at = ap (λ (l : Link). l.at) h.1;
  out = one_answered next.out answered link.out (ap (λ (l : Link). l.out) h.1) h.0;
  live = ap is_live h.1;
  awaited = ⊎_elim
      (λ (a : IsAwaited link.turn). inl (subst IsAwaited (sym (ap (λ (l : Link). l.turn) h.1)) a))
      (λ (z : link.out ≡ 0). inr (none_left next.out answered link.out (ap (λ (l : Link). l.out) h.1) z)) was;
}
is_answered now resend answer.Last link answered next h lives was = record {
  same_at = ap (λ (l : Link). l.at) h.1;
  out = all_answered next.out answered link.out (ap (λ (l : Link). l.out) h.1) h.0;
  live = ap is_live h.1 ∙ sym (live_true link.turn lives);
  awaited = inr (all_left next.out answered link.out (ap (λ (l : Link). l.out) h.1) h.0);
}
is_answered now resend answer.Early link answered next h lives was = record {
  same_at = ap (λ (l : Link). l.at) h.1;
  out = all_answered next.out answered link.out (ap (λ (l : Link). l.out) h.1) h.0;
  live = ap is_live h.1 ∙ live_true _ (live_after answer.Early _ link.turn lives) ∙ sym (live_true link.turn lives);
  awaited = inr (all_left next.out answered link.out (ap (λ (l : Link). l.out) h.1) h.0);
}

pub answers : (place now resend : ℕ) (a : Answer) (answered : ℕ) (link next : Link) (old new : Schedule) → IsSchedule old → slice_get (links_of old) place ≡ Some link → IsLiveLink link
    → IsAnswered now resend a link answered next → links_of new ≡ slice_set (links_of old) place next → new.timing ≡ old.timing → new.places ≡ old.places
    → new.out ≡ old.out - answered → new.live ≡ old.live → Moves place link next old new
answers place now resend a answered link next old new s was lives goes links timing places out live =
    let k = is_answered now resend a link answered next goes lives (s.awaited place link was) in record {
      was = was;
      links = links;
      timing = timing;
      places = places;
      same_at = k.same_at;
      out = fewer old.out new.out link.out answered next.out out k.out (out_of_link place link old s was);
      within = within_less old new s timing (no_more old.out new.out answered out);
      live = live_kept old.live new.live link next live k.live;
      awaited = k.awaited;
    }

pub answered_alike : (now resend : ℕ) (a : Answer) (link : Link) (answered : ℕ) (next : Link) → IsAnswered now resend a link answered next → IsLiveLink link
    → (next.at ≡ link.at) × (is_live next ≡ is_live link)
answered_alike now resend a link answered next h lives =
    (ap (λ (l : Link). l.at) h.1, ap is_live h.1 ∙ live_true _ (live_after a _ link.turn lives) ∙ sym (live_true link.turn lives))

-- ---- it ends

pub over_turn : (turn : Turn) → ¬ (turn ≢ turns.Over) → turn ≡ turns.Over
over_turn turns.Over h = refl
over_turn turns.Ready h = absurd (h (λ e. cc))
over_turn (turns.Awaited until) h = absurd (h (λ e. cc))
over_turn (turns.Silent until) h = absurd (h (λ e. cc))
over_turn (turns.Paused until) h = absurd (h (λ e. cc))

pub ends : (place left was_live : ℕ) (link next : Link) (old new : Schedule) → IsSchedule old → slice_get (links_of old) place ≡ Some link → left ≡ link.out → was_live ≡ one_if_live link
    → next.out ≡ 0 → next.turn ≡ turns.Over → next.at ≡ link.at → links_of new ≡ slice_set (links_of old) place next → new.timing ≡ old.timing → new.places ≡ old.places
    → new.out ≡ old.out - left → new.live ≡ old.live - was_live → Moves place link next old new
ends place left was_live link next old new s was is_left is_live_one none over same_at links timing places out live = record {
  was = was;
  links = links;
  timing = timing;
  places = places;
  same_at = same_at;
  out = fewer old.out new.out link.out left next.out out (all_out next.out left link.out none is_left) (out_of_link place link old s was);
  within = within_less old new s timing (no_more old.out new.out left out);
  live = one_less old.live new.live (one_if_live link) was_live (one_if_live next) live is_live_one (live_of_link place link old s was) (ap (λ (t : Turn). cond (is_live_turn t) 1 0) over);
  awaited = inr none;
}

-- a test of a link counts it
pub one_live : (b : Bool) (n : ℕ) (link : Link) → n ≡ from_bool b → (IsTrue b ↔ IsLiveLink link) → n ≡ one_if_live link
one_live true n link e f = e ∙ sym (ap (λ x. cond x 1 0) (live_true link.turn (f.0 refl)))
one_live false n link e f = e ∙ sym (ap (λ (t : Turn). cond (is_live_turn t) 1 0) (over_turn link.turn (λ (h : link.turn ≢ turns.Over). false≢true (f.1 h))))

pub ended_meter : (place : ℕ) (link next : Link) (old new : Schedule) → slice_get (links_of old) place ≡ Some link → links_of new ≡ slice_set (links_of old) place next
    → new.timing ≡ old.timing → next.at ≡ link.at → next.turn ≡ turns.Over → EndsMeter place old new
ended_meter place link next old new was links timing same_at over = record {
  timing = timing;
  listed = ap (λ (l : List Link). map (λ (k : Link). k.at) l) links ∙ map_kept (λ (k : Link). k.at) (links_of old) place link next was same_at;
  lives = ap (λ (l : List Link). map is_live l) links ∙ (map-set is_live (links_of old) place next ∙ ap (λ (b : Bool). slice_set (map is_live (links_of old)) place b) (ap is_live_turn over));
}

-- ---- it is answered: where the link is then

pub went_on_live : (now resend : ℕ) (a : Answer) (link : Link) (answered : ℕ) (next : Link) → IsAnswered now resend a link answered next → IsLiveLink link → IsLiveLink next
went_on_live now resend a link answered next h lives = subst IsLiveLink (sym h.1) (live_after a _ link.turn lives)

pub waited_until : (now resend : ℕ) (a : Answer) (link : Link) (answered : ℕ) (next : Link) → IsAnswered now resend a link answered next → IsLiveLink link
    → until_of next.turn ≢ until_of link.turn → (time : ℕ) × (until_of link.turn ≡ Some time)
waited_until now resend a link answered next h lives apart =
    waited_before a _ link.turn lives (λ e. apart (ap (λ (l : Link). until_of l.turn) h.1 ∙ e))
