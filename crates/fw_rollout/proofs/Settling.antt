-- Links whose time is over.
use Rattle.std.proofs.Common.{◌≡◌, ◌≢◌, ◌↔◌, ℕ, ◌+◌, ◌<◌, ◌≤◌, ◌==◌, Bool, true, false, cond, List, All, Bor, Contains, length, leb, Option, Some, None, inl, inr, ⊎_elim, refl, sym, ap, subst, ◌∙◌, arith}
use Rattle.std.specs.Prelude.{IfSome, IsSome, count_by, slice_get, slice_set}
use Rattle.std.specs.Option.{option_copied, option_map}
use Rattle.std.specs.BTreeMap.Range.{IsLeBy}
use Rattle.std.specs.Ordering.{is_gt, nat_cmp, ordering_then}
use Rattle.std.specs.declared.cmp.Ordering.{Ordering}
use Rattle.std.specs.declared.cmp.Ordering.TheVariants.{Less, Equal, Greater}
use Rattle.std.proofs.lemmas.Bool.{cases_eq, false≢true, false_from_ne_true, le-leb, le-ltb, leb-true, lt-leb}
use Rattle.std.proofs.lemmas.Bool.Decides.{Decides-eqb, leb_tells}
use Rattle.std.proofs.lemmas.List.Elements.{All-contains}
use Rattle.std.proofs.lemmas.List.Sums.{count_by-le-length, get_or-le-sum_by}
use Rattle.std.proofs.lemmas.Option.{get_or_from_slice_get, none-some, same_Some, slice_get-map, slice_get_within}
use Rattle.fw_rollout.specs.Link.{IsGivenUp, after, has_passed, is_expired, until_of}
use Rattle.fw_rollout.specs.Schedule.{GivesUp, IsLiveAt, IsSchedule, IsWaitingAt, SameMeters, Settles, SettlesLink, is_live, links_of, lives_of}
use Rattle.fw_rollout.specs.declared.link.Link.{Link}
use Rattle.fw_rollout.specs.declared.schedule.Schedule.{Schedule}
use Rattle.fw_rollout.proofs.Turning.{at_place, elsewhere, live_true, sum_moved}
use Rattle.fw_rollout.proofs.Waiting.{by_time}

-- ---- one link

pub expired_at : (now until : ℕ) (link : Link) → until_of link.turn ≡ Some until → until ≤ now → is_expired now link ≡ true
expired_at now until link e h = ap (λ (o : Option ℕ). has_passed now o) e ∙ le-leb until now h

record Passed (now : ℕ) (o : Option ℕ) : Type 0 where
  pub until : ℕ
  pub is : o ≡ Some until
  pub over : until ≤ now

passed : (now : ℕ) (o : Option ℕ) → has_passed now o ≡ true → Passed now o
passed now None h = absurd (false≢true h)
passed now (Some until) h = record { until = until; is = refl; over = leb-true until now h }

-- what is given up waits for nothing until now
pub given_up_settled : (now : ℕ) (link : Link) (gone : ℕ) (next : Link) → IsGivenUp now link gone next → is_expired now next ≡ false
given_up_settled now link gone next h = ⊎_elim
    (λ a. ap (λ (l : Link). is_expired now l) a.1)
    (λ b. ⊎_elim
    (λ a. ap (λ (l : Link). is_expired now l) a.2 ∙ lt-leb (after link.sent_at link.patience) now a.1)
    (λ a. ap (λ (l : Link). is_expired now l) a.2) b)
    h.1

-- ---- all links

pub settle_same : (now : ℕ) (o : Option Link) → SettlesLink now o o
settle_same now None = refl
settle_same now (Some link) = (link, refl, inl refl)

settle_here : (now : ℕ) (o c n : Option Link) (link next : Link) (gone : ℕ) → SettlesLink now o c → c ≡ Some link → n ≡ Some next → is_expired now link ≡ true → IsGivenUp now link gone next
    → SettlesLink now o n
settle_here now None c n link next gone h is to over up = absurd (none-some link (sym h ∙ is))
settle_here now (Some was) c n link next gone h is to over up =
    let same : h.0 ≡ link = same_Some h.0 link (sym h.1 ∙ is) in (
      next,
      to,
      ⊎_elim
          (λ (e : h.0 ≡ was). inr (subst (λ (l : Link). is_expired now l ≡ true) (sym same ∙ e) over, (gone, subst (λ (l : Link). IsGivenUp now l gone next) (sym same ∙ e) up)))
          (λ (g : (is_expired now was ≡ true) × ((given_up : ℕ) × IsGivenUp now was given_up h.0)).
          absurd (false≢true (sym (given_up_settled now was g.1.0 h.0 g.1.1) ∙ ap (λ (l : Link). is_expired now l) same ∙ over)))
          h.2,
    )

-- what became of a link at a place that waited
pub record Goes (now place : ℕ) (link : Link) (cur new : Schedule) : Type 0 where
  pub next : Link
  pub gone : ℕ
  pub up : IsGivenUp now link gone next
  pub links : links_of new ≡ slice_set (links_of cur) place next

pub goes : (now place : ℕ) (link : Link) (cur new : Schedule) → slice_get (links_of cur) place ≡ Some link → GivesUp place now cur new → Goes now place link cur new
goes now place link cur new was up =
    let it = rw was at up.there in
    record { next = it.0; gone = it.1.0; up = it.1.1; links = it.2 }

pub settles_more : (now place until : ℕ) (old cur new : Schedule) → ((p : ℕ) → SettlesLink now (slice_get (links_of old) p) (slice_get (links_of cur) p)) → IsWaitingAt (links_of cur) place until
    → until ≤ now → GivesUp place now cur new → (p : ℕ) → SettlesLink now (slice_get (links_of old) p) (slice_get (links_of new) p)
settles_more now place until old cur new so_far (link, was, waits) over up p =
    let to = goes now place link cur new was up in ⊎_elim
    (λ (e : p ≡ place). subst (λ (n : ℕ). SettlesLink now (slice_get (links_of old) n) (slice_get (links_of new) n)) (sym e)
    (settle_here now (slice_get (links_of old) place) (slice_get (links_of cur) place) (slice_get (links_of new) place) link to.next to.gone (so_far place) was
    (ap (λ (l : List Link). slice_get l place) to.links ∙ at_place (links_of cur) place link to.next was) (expired_at now until link waits over) to.up))
    (λ (n : p ≢ place). subst (λ (o : Option Link). SettlesLink now (slice_get (links_of old) p) o)
    (sym (ap (λ (l : List Link). slice_get l p) to.links ∙ elsewhere (links_of cur) place p to.next n)) (so_far p))
    (cases_eq p place)

-- ---- how many there are

abbrev pub expired_in : ℕ → List Link → ℕ
expired_in now links = count_by (λ (l : Link). is_expired now l) links

one_less : (a b x y : ℕ) → a + x ≡ b + y → x ≡ 1 → y ≡ 0 → a + 1 ≡ b
one_less a b x y e f g = omega arith

fewer : (now place until : ℕ) (cur new : Schedule) → IsWaitingAt (links_of cur) place until → until ≤ now → GivesUp place now cur new
    → expired_in now (links_of new) + 1 ≡ expired_in now (links_of cur)
fewer now place until cur new (link, was, waits) over up =
    let to = goes now place link cur new was up in
    one_less (expired_in now (links_of new)) (expired_in now (links_of cur)) (cond (is_expired now link) 1 0) (cond (is_expired now to.next) 1 0)
    (subst (λ (l : List Link). expired_in now l + cond (is_expired now link) 1 0 ≡ expired_in now (links_of cur) + cond (is_expired now to.next) 1 0) (sym to.links)
    (sum_moved (λ (l : Link). cond (is_expired now l) 1 0) (links_of cur) place link to.next was))
    (ap (λ b. cond b 1 0) (expired_at now until link waits over))
    (ap (λ b. cond b 1 0) (given_up_settled now link to.gone to.next to.up))

left_less : (a b i n : ℕ) → a + 1 ≡ b → b + i ≤ n → a + (i + 1) ≤ n
left_less a b i n e h = omega arith

pub fewer_left : (now place until i n : ℕ) (cur new : Schedule) → IsWaitingAt (links_of cur) place until → until ≤ now → GivesUp place now cur new
    → expired_in now (links_of cur) + i ≤ n → expired_in now (links_of new) + (i + 1) ≤ n
fewer_left now place until i n cur new waits over up left = left_less _ _ i n (fewer now place until cur new waits over up) left

pub at_first : (now : ℕ) (links : List Link) (i n : ℕ) → i ≡ 0 → n ≡ length links → expired_in now links + i ≤ n
at_first now links i n e f = let h = count_by-le-length (λ (l : Link). is_expired now l) links in omega arith

is_off : (b : Bool) → ◌≡◌ {A = ℕ} (cond b 1 0) 0 → b ≡ false
is_off true e = cc
is_off false e = refl

at_most_none : (a b : ℕ) → a ≤ b → b ≡ 0 → a ≡ 0
at_most_none a b h e = omega arith

pub none_left : (now : ℕ) (links : List Link) → expired_in now links ≡ 0 → (place : ℕ) (link : Link) → slice_get links place ≡ Some link → is_expired now link ≡ false
none_left now links none place link is =
    let f : Link → ℕ = λ l. cond (is_expired now l) 1 0 in
    is_off (is_expired now link) (at_most_none (f link) (expired_in now links)
    (subst (λ (l : Link). f l ≤ expired_in now links) (get_or_from_slice_get links place link link is) (get_or-le-sum_by f links place link (slice_get_within links place link is))) none)

-- ---- the times of those that wait are later

pub none_expired : (now : ℕ) (s : Schedule) → IsSchedule s → ((place until : ℕ) → Contains s.waiting.keys (until, place) → now < until)
    → (place : ℕ) (link : Link) → slice_get (links_of s) place ≡ Some link → is_expired now link ≡ false
none_expired now s i later place link is = false_from_ne_true (is_expired now link) (λ over.
    let p = passed now (until_of link.turn) over in
    let h : now < p.until = later place p.until ((i.waits place p.until).1 (link, is, p.is)) in
    let le : p.until ≤ now = p.over in
    absurd (omega arith))

pub no_key : (keys : List (ℕ × ℕ)) (r : Option (Bor (ℕ × ℕ))) → (IsSome r ↔ (0 < length keys)) → option_copied r ≡ None → (q : ℕ × ℕ) → ¬ Contains keys q
no_key keys None some e q (k, within, is) = false≢true (some.1 (omega arith))
no_key keys (Some k) some e q has = none-some _ (sym e)

not_after : (a b : ℕ) (o : Ordering) → is_gt (ordering_then (nat_cmp a b) o) ≡ false → a ≤ b
not_after a b o h = ⊎_elim
    (λ (t : (leb a b ≡ true) × (a ≤ b)). t.1)
    (λ (f : (leb a b ≡ false) × (b < a)).
    let over : b < a = f.1 in
    let back : b ≤ a = omega arith in
    let apart : (a == b) ≡ false = false_from_ne_true (a == b) (λ e. let same : a ≡ b = (Decides-eqb a b).0 e in absurd (omega arith)) in
    let gt : nat_cmp a b ≡ Greater = ap (λ x. cond x Less (cond (a == b) Equal Greater)) (le-ltb a b back) ∙ ap (λ x. cond x Equal Greater) apart in
    absurd (false≢true (sym (subst (λ x. is_gt (ordering_then x o) ≡ false) gt h))))
    (leb_tells a b)

later_than : (now until : ℕ) (a : ℕ) → now < until → until ≤ a → now < a
later_than now until a h g = omega arith

pub later_keys : (now until place : ℕ) (keys : List (ℕ × ℕ)) (r : Option (Bor (ℕ × ℕ))) → IfSome r (λ k. All (IsLeBy by_time k.now) keys) → option_copied r ≡ Some (until, place) → now < until
    → (other time : ℕ) → Contains keys (time, other) → now < time
later_keys now until place keys None all e h other time has = absurd (none-some (until, place) e)
later_keys now until place keys (Some k) all e h other time has =
    let same : k.now ≡ (until, place) = same_Some k.now (until, place) e in
    let le = All-contains (IsLeBy by_time k.now) keys (time, other) all has in
    later_than now until time h (subst (λ (q : ℕ × ℕ). q.0 ≤ time) same (not_after k.now.0 time (nat_cmp k.now.1 other) le))

-- ---- some link is live

all_at : {X : Type 0} (P : X → Type 0) (xs : List X) (k : ℕ) (x : X) → All P xs → slice_get xs k ≡ Some x → P x
all_at P xs k x all is = subst P (get_or_from_slice_get xs k x x is) (all k x (slice_get_within xs k x is))

pub some_live : (s : Schedule) (place : ℕ) → IsLiveAt s place → ¬ All (λ b. b ≡ false) (lives_of s)
some_live s place (link, is, live) all =
    let here : slice_get (lives_of s) place ≡ Some true =
    slice_get-map is_live (links_of s) place ∙ ap (λ (o : Option Link). option_map is_live o) is ∙ ap (λ (b : Bool). Some b) (live_true link.turn live) in
    false≢true (sym (all_at (λ (b : Bool). b ≡ false) (lives_of s) place true all here))

-- ---- what may be ticked, before and after

pub settles_apart : (now : ℕ) (old cur new : Schedule) → new ≡ record cur { ready = new.ready } → Settles now old cur → Settles now old new
settles_apart now old cur new e st = subst (λ (s : Schedule). Settles now old s) (sym e) (record { each = st.each; all = st.all })

end_none : (a i n : ℕ) → a + i ≤ n → n ≤ i → a ≡ 0
end_none a i n h g = omega arith

pub none_by_end : (now : ℕ) (links : List Link) (i n : ℕ) → expired_in now links + i ≤ n → n ≤ i → (place : ℕ) (link : Link) → slice_get links place ≡ Some link → is_expired now link ≡ false
none_by_end now links i n h g = none_left now links (end_none (expired_in now links) i n h g)

pub some_live_before : (old cur : Schedule) (place : ℕ) → SameMeters old cur → IsLiveAt cur place → ¬ All (λ b. b ≡ false) (lives_of old)
some_live_before old cur place same live all = some_live cur place live (subst (λ (bs : List Bool). All (λ b. b ≡ false) bs) (sym same.lives) all)

-- the time of a link that waits
pub time_there : (place until : ℕ) (link : Link) (s : Schedule) → slice_get (links_of s) place ≡ Some link → IsWaitingAt (links_of s) place until → until_of link.turn ≡ Some until
time_there place until link s was w = subst (λ (l : Link). until_of l.turn ≡ Some until) (same_Some w.0 link (sym w.1 ∙ was)) w.2
