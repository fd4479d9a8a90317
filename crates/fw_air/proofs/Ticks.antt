-- The ticks of a head end and a meter in rounds: each round has one if they are a link, and else none.
use Rattle.std.proofs.Common.{◌≡◌, ℕ, ◌+◌, zero, suc, nat_eq, ◌==◌, Bool, true, false, cond, ◌&&◌, ◌||◌, if◌then◌else◌, List, [], ◌∷◌, ◌++◌, map, filter, length, replicate, Option, Some, None, refl, sym, ap, subst, ◌∙◌, arith}
use Rattle.std.specs.List.{list_any, flat_map}
use Rattle.std.proofs.lemmas.Bool.{and_from, and_parts, or_parts, eqb-true, false_from_ne_true}
use Rattle.std.proofs.lemmas.List.{length-append}
use Rattle.std.proofs.lemmas.List.Elements.{filter-append}
use Rattle.fw_image.specs.Meter.{Meter}
use Rattle.fw_world.specs.declared.setup.HeadSetup.{HeadSetup}
use Rattle.fw_world.specs.declared.setup.MeterSetup.{MeterSetup}
use Rattle.fw_world.specs.Setup.{repeats, number_of_head, number_of_meter}
use Rattle.fw_world.specs.State.{State, meter_at}
use Rattle.fw_world.specs.Step.{Event, deliver, tick, turn}
use Rattle.fw_air.specs.Laws.{TicksEach}
use Rattle.fw_air.specs.Rounds.{Link, IsLinkRound, IsRound, OneByOne, is_link, is_verifying, last_turn, links, links_with, turn_of}
use Rattle.fw_air.specs.Ticks.{is_tick, ticks}

abbrev bit : Bool → ℕ
bit b = cond b 1 0

-- ---- counting

abbrev count : {X : Type 0} → (X → Bool) → List X → ℕ
count p xs = length (filter p xs)

count_cons : {X : Type 0} (p : X → Bool) (x : X) (xs : List X) → count p (x ∷ xs) ≡ bit (p x) + count p xs
count_cons p x xs = go (p x)
  where
    go : (b : Bool) → length (cond b (x ∷ filter p xs) (filter p xs)) ≡ bit b + length (filter p xs)
    go true = omega arith
    go false = omega arith

count_append : {X : Type 0} (p : X → Bool) (xs ys : List X) → count p (xs ++ ys) ≡ count p xs + count p ys
count_append p xs ys = ap (λ l. length l) (filter-append p xs ys) ∙ length-append (filter p xs) (filter p ys)

-- those of chosen elements, where one more may be chosen
count_chosen : {X Y : Type 0} (p : Y → Bool) (f : X → Y) (q : X → Bool) (x : X) (xs : List X) → count p (map f (filter q (x ∷ xs))) ≡ bit (q x && p (f x)) + count p (map f (filter q xs))
count_chosen p f q x xs = go (q x)
  where
    go : (b : Bool) → count p (map f (cond b (x ∷ filter q xs) (filter q xs))) ≡ bit (b && p (f x)) + count p (map f (filter q xs))
    go true = count_cons p (f x) (map f (filter q xs))
    go false = omega arith

-- a number that stands first stands nowhere else
first_alone : {A : Type 0} (number : A → ℕ) (x : A) (xs : List A) (n : ℕ) → repeats number (x ∷ xs) ≡ false → (number x == n) ≡ true → list_any (λ other. number other == n) xs ≡ false
first_alone number x xs n once is =
    subst (λ k. list_any (λ other. number other == k) xs ≡ false) (eqb-true (number x) n is) (or_parts (list_any (λ other. number other == number x) xs) (repeats number xs) once).0

-- two of which at most one holds
apart : (a b c : Bool) → (a ≡ true → b ≡ false) → bit (a && c) + bit (b && c) ≡ bit ((a || b) && c)
apart true b c alone = let none : bit (b && c) ≡ 0 = ap (λ d. bit (d && c)) (alone refl) in omega arith
apart false b c alone = omega arith

module _ (head meter : ℕ) where
  abbrev pub is_of : Link → Bool
  is_of link = nat_eq link.head head && nat_eq link.meter meter

  abbrev pub times : List Link → ℕ
  times ls = count is_of ls

  -- ---- the ticks of rounds

  no_delivery : (numbers : List ℕ) → ticks head meter (map deliver numbers) ≡ 0
  no_delivery [] = refl
  no_delivery (number ∷ numbers) = no_delivery numbers

  no_turn : (found : Option Meter) (number : ℕ) → ticks head meter (turn_of found number) ≡ 0
  no_turn None number = refl
  no_turn (Some core) number = go (is_verifying core.phase)
    where
      go : (b : Bool) → ticks head meter (if b then turn number ∷ [] else []) ≡ 0
      go true = refl
      go false = refl

  of_link_round : (link : Link) (old new : State) (events : List Event) → IsLinkRound link old events new → ticks head meter events ≡ bit (is_of link)
  of_link_round link old new events r =
      let late : List Event = map deliver r.late in
      let waiting : List Event = map deliver r.waiting in
      let last : List Event = last_turn r.middle link.meter in
      let all : ticks head meter events ≡ ticks head meter ((late ++ tick link.head link.meter ∷ waiting) ++ last) = ap (ticks head meter) r.events_are in
      let whole = count_append (is_tick head meter) (late ++ tick link.head link.meter ∷ waiting) last in
      let front = count_append (is_tick head meter) late (tick link.head link.meter ∷ waiting) in
      let one : ticks head meter (tick link.head link.meter ∷ waiting) ≡ bit (is_of link) + ticks head meter waiting = count_cons (is_tick head meter) (tick link.head link.meter) waiting in
      let none_late = no_delivery r.late in
      let none_waiting = no_delivery r.waiting in
      let none_last = no_turn (meter_at r.middle link.meter) link.meter in
      omega arith

  of_round : (ls : List Link) (old new : State) (events : List Event) → IsRound ls old events new → ticks head meter events ≡ times ls
  of_round [] old new events o = ap (ticks head meter) o.0
  of_round (l ∷ ls) old new events o =
      ap (ticks head meter) o.3
      ∙ count_append (is_tick head meter) o.0 o.1
      ∙ ap (λ n. n + ticks head meter o.1) (of_link_round l old o.2 o.0 o.4)
      ∙ ap (λ n. bit (is_of l) + n) (of_round ls o.2 new o.1 o.5)
      ∙ sym (count_cons is_of l ls)

  of_rounds : (n : ℕ) (b : Bool) (ls : List Link) (old new : State) (events : List Event) → times ls ≡ bit b → OneByOne IsRound (replicate n ls) old events new → ticks head meter events ≡ cond b n 0
  of_rounds zero true ls old new events each o = ap (ticks head meter) o.0
  of_rounds zero false ls old new events each o = ap (ticks head meter) o.0
  of_rounds (suc n) b ls old new events each o =
      ap (ticks head meter) o.3
      ∙ count_append (is_tick head meter) o.0 o.1
      ∙ ap (λ k. k + ticks head meter o.1) (of_round ls old o.2 o.0 o.4 ∙ each)
      ∙ ap (λ k. bit b + k) (of_rounds n b ls o.2 new o.1 each o.5)
      ∙ so_many b
    where
      so_many : (b : Bool) → bit b + cond b n 0 ≡ cond b (suc n) 0
      so_many true = omega arith
      so_many false = refl

  -- ---- how often a link is among the links

  abbrev has_meter : List MeterSetup → Bool
  has_meter ms = list_any (λ (m : MeterSetup). number_of_meter m == meter) ms

  abbrev has_head : List HeadSetup → Bool
  has_head hs = list_any (λ (h : HeadSetup). number_of_head h == head) hs

  -- a link of these numbers is one of this head end and this meter
  same_ends : (s : State) (h m : ℕ) → bit (is_link s h m && (nat_eq h head && nat_eq m meter)) ≡ bit ((m == meter) && ((h == head) && is_link s head meter))
  same_ends s h m = go (nat_eq h head) (nat_eq m meter) (is_link s h m) (λ hs ms. ap (λ k. is_link s k m) (eqb-true h head hs) ∙ ap (is_link s head) (eqb-true m meter ms))
    where
      none : (c : Bool) → bit (c && false) ≡ 0
      none true = refl
      none false = refl

      go : (a b c : Bool) → (a ≡ true → b ≡ true → c ≡ is_link s head meter) → bit (c && (a && b)) ≡ bit (b && (a && is_link s head meter))
      go true true c same = all c ∙ ap bit (same refl refl)
        where
          all : (c : Bool) → bit (c && true) ≡ bit c
          all true = refl
          all false = refl
      go true false c same = none c
      go false true c same = none c
      go false false c same = none c

  with_head : (s : State) (h : ℕ) (ms : List MeterSetup) → repeats number_of_meter ms ≡ false → times (links_with s h ms) ≡ bit (has_meter ms && ((h == head) && is_link s head meter))
  with_head s h [] once = refl
  with_head s h (m ∷ ms) once =
      let stands : Bool = (h == head) && is_link s head meter in
      count_chosen is_of (λ (m : MeterSetup). record { head = h; meter = number_of_meter m }) (λ (m : MeterSetup). is_link s h (number_of_meter m)) m ms
      ∙ ap (λ n. n + times (links_with s h ms)) (same_ends s h (number_of_meter m))
      ∙ ap (λ n. bit ((number_of_meter m == meter) && stands) + n) (with_head s h ms (or_parts (list_any (λ other. number_of_meter other == number_of_meter m) ms) (repeats number_of_meter ms) once).1)
      ∙ apart (number_of_meter m == meter) (has_meter ms) stands (first_alone number_of_meter m ms meter once)

  swapped : (a b c : Bool) → bit (a && (b && c)) ≡ bit (b && (a && c))
  swapped true true c = refl
  swapped true false c = refl
  swapped false true c = refl
  swapped false false c = refl

  with_heads : (s : State) (ms : List MeterSetup) (hs : List HeadSetup) → repeats number_of_meter ms ≡ false → repeats number_of_head hs ≡ false
      → times (flat_map (λ (h : HeadSetup). links_with s (number_of_head h) ms) hs) ≡ bit (has_head hs && (has_meter ms && is_link s head meter))
  with_heads s ms [] meters_once once = refl
  with_heads s ms (h ∷ hs) meters_once once =
      let others : List Link = flat_map (λ (h : HeadSetup). links_with s (number_of_head h) ms) hs in
      let stands : Bool = has_meter ms && is_link s head meter in
      count_append is_of (links_with s (number_of_head h) ms) others
      ∙ ap (λ n. n + times others) (with_head s (number_of_head h) ms meters_once ∙ swapped (has_meter ms) (number_of_head h == head) (is_link s head meter))
      ∙ ap (λ n. bit ((number_of_head h == head) && stands) + n) (with_heads s ms hs meters_once (or_parts (list_any (λ other. number_of_head other == number_of_head h) hs) (repeats number_of_head hs) once).1)
      ∙ apart (number_of_head h == head) (has_head hs) stands (first_alone number_of_head h hs head once)

pub ticks_each : TicksEach
ticks_each setup given rounds events s is head meter =
    let there : Bool = has_head head meter setup.heads.items in
    let stands : Bool = has_meter head meter setup.meters.items in
    let kept : Bool = is_link s.middle head meter in
    let all : Bool = there && (stands && kept) in
    let many : ticks head meter s.behind ≡ cond all rounds 0 =
    of_rounds head meter rounds all (links setup s.middle) s.middle s.end s.behind (with_heads head meter s.middle setup.meters.items setup.heads.items is.meters_once is.heads_once) s.rounds_run in (
      λ link. many ∙ ap (λ b. cond b rounds 0) (and_from there (stands && kept) link.head_there (and_from stands kept link.meter_there link.stands)),
      λ none. many ∙ ap (λ b. cond b rounds 0) (false_from_ne_true all (λ e. let both = and_parts there (stands && kept) e in let rest = and_parts stands kept both.1 in none (record { head_there = both.0; meter_there = rest.0; stands = rest.1 }))),
    )
