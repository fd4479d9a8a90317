-- What processes leave that start with one of several meters.
use Rattle.std.proofs.Common.{◌≡◌, ◌++◌, ◌+◌, ◌≤◌, ◌⊎◌, ℕ, zero, suc, List, [], ◌∷◌, Option, Some, None, length, slice_index_or, take, drop, inl, inr, refl, sym, ap, subst, ◌∙◌, arith, append_assoc, append-nil, length-append}
use Rattle.std.specs.Prelude.{All, Contains, IfSome, IsSomeAnd}
use Rattle.std.proofs.lemmas.List.{take-append-drop, take-take}
use Rattle.std.proofs.lemmas.List.Elements.{All-contains, All-nil, Contains-append_left, Contains-append_right, Contains-get_or, Contains-push, Contains-push_cases}
use Rattle.std.specs.declared.net.socket_addr.SocketAddr.{SocketAddr}
use Rattle.fw_image.specs.Meter.{migrated}
use Rattle.fw_audit.specs.Log.{Item, started}
use Rattle.fw_audit.specs.Stands.{ended, waits, left_by, Leads}
use Rattle.fw_audit.specs.Departures.{IsDeparture}
use Rattle.fw_audit.specs.Private.{Adds, AddsBoth, AllDepart, AreLeft, AreOutlived, Covers, DepartsBy, Gathers, HasMeter, IsFrom, IsLeft, Settled}
use Rattle.fw_audit.specs.declared.error.Departure.{Departure}
use Rattle.fw_audit.specs.declared.life.Left.{Left}
use Rattle.fw_audit.proofs.Leading.{split, start_off}

-- ---- lists

pub none_in : (left : Left) → Contains [] left → ⊥
none_in left (k, inside, is) = omega arith

pub in_cons : (first : Left) (lefts : List Left) (left : Left) → Contains (first ∷ lefts) left → (first ≡ left) ⊎ Contains lefts left
in_cons first lefts left (zero, inside, is) = inl is
in_cons first lefts left (suc k, inside, is) = inr (k, omega arith, is)

pub some_one : (lefts : List Left) → 1 ≤ length lefts → (left : Left) × Contains lefts left
some_one [] some = absurd (omega arith)
some_one (left ∷ lefts) some = (left, (zero, omega arith, refl))

pub popped : (lefts rest less done : List Left) (left : Left) → lefts ≡ rest ++ done → rest ≡ less ++ left ∷ [] → lefts ≡ less ++ left ∷ done
popped lefts rest less done left is pops = is ∙ ap (λ (l : List Left). l ++ done) pops ∙ append_assoc less (left ∷ []) done

pub is_in : (lefts less done : List Left) (left : Left) → lefts ≡ less ++ left ∷ done → Contains lefts left
is_in lefts less done left is = subst (λ (l : List Left). Contains l left) (sym is) (Contains-append_right less (left ∷ done) left (zero, omega arith, refl))

pub all_from : (P : Left → Type 0) (lefts : List Left) → ((left : Left) → Contains lefts left → P left) → All P lefts
all_from P lefts holds k d inside = holds (slice_index_or lefts k d) (Contains-get_or lefts k d inside)

-- ---- departures

-- what departs by one place departs by a later one
pub departs_later : (heads : List SocketAddr) (body : List Item) (at later : ℕ) (left : Left) → at ≤ later → DepartsBy heads body at left → DepartsBy heads body later left
departs_later heads body at later left order by images stand h =
    let front = take (later + 1) body in
    let s = split heads (waits (migrated left.meter.meter)) stand (take (at + 1) front) (drop (at + 1) front) images
    (subst (λ (l : List Item). Leads heads (waits (migrated left.meter.meter)) l images stand) (sym (take-append-drop (at + 1) front)) h) in
    by s.first s.mid (subst (λ (l : List Item). Leads heads (waits (migrated left.meter.meter)) l s.first s.mid) (take-take (at + 1) (later + 1) body (omega arith)) s.before)

-- and has no way on
no_way : (heads : List SocketAddr) (body : List Item) (at : ℕ) (found : List Left) (left : Left) → DepartsBy heads body at left → Covers heads body found left
no_way heads body at found left by images stand h =
    let on = start_off heads (ended left.meter.meter) stand body images h in
    let s = split heads (waits (migrated left.meter.meter)) stand (take (at + 1) body) (drop (at + 1) body) images
    (subst (λ (l : List Item). Leads heads (waits (migrated left.meter.meter)) l images stand) (sym (take-append-drop (at + 1) body)) on) in
    absurd (by s.first s.mid s.before)

-- ---- meter after meter

pub gathers_none : (heads : List SocketAddr) (lefts : List Left) (body : List Item) → Gathers heads lefts body lefts [] None
gathers_none heads lefts body = record {
  done = [];
  is = sym (append-nil lefts);
  each = All-nil (IsFrom heads lefts body);
  settled = λ left there. absurd (none_in left there);
  one = λ d is. absurd cc;
}

covers_left : (heads : List SocketAddr) (body : List Item) (left first : Left) (second : Option Left) (found more : List Left)
    → AreLeft heads left.switched.items left.meter.meter (started ∷ body) first second → AddsBoth found first second more → Covers heads body more left
covers_left heads body left first second found more are adds images stand h = by_which (are.all images stand h)
  where
    by_second : (o : Option Left) → IsSomeAnd o (λ end. end.meter.meter ≡ left_by stand) → IfSome o (λ end. HasMeter more end.meter.meter) → HasMeter more (left_by stand)
    by_second None is has = absurd is
    by_second (Some end) is has = subst (HasMeter more) is has

    by_which : (first.meter.meter ≡ left_by stand) ⊎ IsSomeAnd second (λ end. end.meter.meter ≡ left_by stand) → HasMeter more (left_by stand)
    by_which (inl is) = subst (HasMeter more) is adds.has_first
    by_which (inr is) = by_second second is adds.has_second

pub gathers_more : (heads : List SocketAddr) (lefts : List Left) (body : List Item) (rest less found more : List Left) (far : Option Departure) (left first : Left) (second : Option Left)
    → Gathers heads lefts body rest found far → rest ≡ less ++ left ∷ []
    → AreLeft heads left.switched.items left.meter.meter (started ∷ body) first second → AddsBoth found first second more → Gathers heads lefts body less more far
gathers_more heads lefts body rest less found more far left first second g pops are adds =
    let is = popped lefts rest less g.done left g.is pops in
    let there = is_in lefts less g.done left is in
    record {
      done = left ∷ g.done;
      is = is;
      each = all_from (IsFrom heads lefts body) more (λ any inside. by_origin there any (adds.only any inside));
      settled = λ other h. by_place other (in_cons left g.done other h);
      one = g.one;
    }
  where
    by_two : (o : Option Left) → IfSome o (λ end. IsLeft heads left.switched.items left.meter.meter (started ∷ body) end) → Contains lefts left → (any : Left)
        → IsSomeAnd o (λ end. any ≡ end) → IsFrom heads lefts body any
    by_two None is there any same = absurd same
    by_two (Some end) is there any same = subst (IsFrom heads lefts body) (sym same) (left, there, is)

    by_origin : Contains lefts left → (any : Left) → Contains found any ⊎ (any ≡ first) ⊎ IsSomeAnd second (λ end. any ≡ end) → IsFrom heads lefts body any
    by_origin there any (inl inside) = All-contains (IsFrom heads lefts body) found any g.each inside
    by_origin there any (inr (inl same)) = subst (IsFrom heads lefts body) (sym same) (left, there, are.one)
    by_origin there any (inr (inr same)) = by_two second are.two there any same

    still : (other : Left) → Settled heads body found far other → Settled heads body more far other
    still other (inl (some, covers)) = inl (adds.some, λ images stand h. adds.keeps (left_by stand) (covers images stand h))
    still other (inr h) = inr h

    by_place : (other : Left) → (left ≡ other) ⊎ Contains g.done other → Settled heads body more far other
    by_place other (inl same) = subst (Settled heads body more far) same (inl (adds.some, covers_left heads body left first second found more are adds))
    by_place other (inr h) = still other (g.settled other h)

some_at : (o : Option Departure) (P : Departure → Type 0) (d : Departure) → o ≡ Some d → IfSome o P → P d
some_at None P d e h = absurd cc
some_at (Some other) P d e h = let same : other ≡ d = cc in subst P same h

pub gathers_departed : (heads : List SocketAddr) (lefts : List Left) (body : List Item) (rest less found : List Left) (far : Option Departure) (left : Left) (d f : Departure)
    → Gathers heads lefts body rest found far → rest ≡ less ++ left ∷ []
    → IsDeparture heads (waits (migrated left.meter.meter)) body d → d.at ≤ f.at → IfSome far (λ before. before.at ≤ f.at) → (f ≡ d) ⊎ (far ≡ Some f)
    → Gathers heads lefts body less found (Some f)
gathers_departed heads lefts body rest less found far left d f g pops departs this that one =
    let is = popped lefts rest less g.done left g.is pops in
    let there = is_in lefts less g.done left is in
    record {
      done = left ∷ g.done;
      is = is;
      each = g.each;
      settled = λ other h. by_place other (in_cons left g.done other h);
      one = λ e same. by_one there e same one;
    }
  where
    still : (other : Left) → Settled heads body found far other → Settled heads body found (Some f) other
    still other (inl h) = inl h
    still other (inr (b, e, by)) = inr (f, refl, departs_later heads body b.at f.at other (some_at far (λ before. before.at ≤ f.at) b e that) by)

    by_place : (other : Left) → (left ≡ other) ⊎ Contains g.done other → Settled heads body found (Some f) other
    by_place other (inl same) = subst (Settled heads body found (Some f)) same (inr (f, refl, departs_later heads body d.at f.at left this departs.departs))
    by_place other (inr h) = still other (g.settled other h)

    by_one : Contains lefts left → (e : Departure) → Some f ≡ Some e → (f ≡ d) ⊎ (far ≡ Some f)
        → (other : Left) × Contains lefts other × IsDeparture heads (waits (migrated other.meter.meter)) body e
    by_one there e same (inl is) =
        let to : f ≡ e = cc in
        (left, there, subst (λ (x : Departure). IsDeparture heads (waits (migrated left.meter.meter)) body x) (sym is ∙ to) departs)
    by_one there e same (inr was) = let to : f ≡ e = cc in g.one e (was ∙ ap Some to)

-- ---- in the end

pub all_gathered : (heads : List SocketAddr) (lefts : List Left) (body : List Item) (found : List Left) (far : Option Departure) → Gathers heads lefts body [] found far → 1 ≤ length found
    → AreOutlived heads lefts body found
all_gathered heads lefts body found far g some = record {
  some = some;
  each = g.each;
  all = λ left there. by_way left (g.settled left (subst (λ (l : List Left). Contains l left) g.is there));
}
  where
    by_way : (left : Left) → Settled heads body found far left → Covers heads body found left
    by_way left (inl (some, covers)) = covers
    by_way left (inr (d, e, by)) = no_way heads body d.at found left by

pub all_departed : (heads : List SocketAddr) (lefts : List Left) (body : List Item) (found : List Left) (d : Departure) → Gathers heads lefts body [] found (Some d) → length found ≡ 0
    → AllDepart heads lefts body d
all_departed heads lefts body found d g none = record {
  one = g.one d refl;
  all = λ left there. by_way left (g.settled left (subst (λ (l : List Left). Contains l left) g.is there));
}
  where
    by_way : (left : Left) → Settled heads body found (Some d) left → DepartsBy heads body d.at left
    by_way left (inl (some, covers)) = absurd (omega arith)
    by_way left (inr (b, e, by)) = let same : b ≡ d = cc in subst (λ (x : Departure). DepartsBy heads body x.at left) same by

pub one_departed : (heads : List SocketAddr) (lefts : List Left) (body : List Item) (found : List Left) → Gathers heads lefts body [] found None → 1 ≤ length lefts → length found ≡ 0 → ⊥
one_departed heads lefts body found g some none =
    let left = some_one lefts some in
    by_way left.0 (g.settled left.0 (subst (λ (l : List Left). Contains l left.0) g.is left.1))
  where
    by_way : (left : Left) → Settled heads body found None left → ⊥
    by_way left (inl (some, covers)) = omega arith
    by_way left (inr (d, e, by)) = absurd cc

-- ---- each meter once

pub nil_of : (lefts : List Left) → length lefts ≡ 0 → lefts ≡ []
nil_of [] none = refl
nil_of (left ∷ lefts) none = absurd (omega arith)

pub adds_none : (found : List Left) (left : Left) → HasMeter found left.meter.meter → Adds found left found
adds_none found left (other, there, same) = record {
  keeps = λ meter has. has;
  has = (other, there, same);
  only = λ any inside. inl inside;
  some = omega (arith, there.1);
}

pub adds_one : (found : List Left) (left : Left) → Adds found left (found ++ left ∷ [])
adds_one found left = record {
  keeps = λ meter has. (has.0, Contains-append_left found (left ∷ []) has.0 has.1, has.2);
  has = (left, Contains-push found left, refl);
  only = λ any inside. by_place any (Contains-push_cases found left any inside);
  some = omega (arith, length-append found (left ∷ []));
}
  where
    by_place : (any : Left) → Contains found any ⊎ (left ≡ any) → Contains found any ⊎ (any ≡ left)
    by_place any (inl inside) = inl inside
    by_place any (inr same) = inr (sym same)

pub adds_both : (found all more : List Left) (first second : Left) → Adds found first all → Adds all second more → AddsBoth found first (Some second) more
adds_both found all more first second one two = record {
  keeps = λ meter has. two.keeps meter (one.keeps meter has);
  has_first = two.keeps first.meter.meter one.has;
  has_second = two.has;
  only = λ any inside. by_second any (two.only any inside);
  some = two.some;
}
  where
    by_first : (any : Left) → Contains found any ⊎ (any ≡ first) → Contains found any ⊎ (any ≡ first) ⊎ (any ≡ second)
    by_first any (inl inside) = inl inside
    by_first any (inr same) = inr (inl same)

    by_second : (any : Left) → Contains all any ⊎ (any ≡ second) → Contains found any ⊎ (any ≡ first) ⊎ (any ≡ second)
    by_second any (inl inside) = by_first any (one.only any inside)
    by_second any (inr same) = inr (inr same)

pub adds_first : (found all : List Left) (first : Left) → Adds found first all → AddsBoth found first None all
adds_first found all first one = record {
  keeps = one.keeps;
  has_first = one.has;
  has_second = tt;
  only = λ any inside. by_first any (one.only any inside);
  some = one.some;
}
  where
    by_first : (any : Left) → Contains found any ⊎ (any ≡ first) → Contains found any ⊎ (any ≡ first) ⊎ ⊥
    by_first any (inl inside) = inl inside
    by_first any (inr same) = inr (inl same)
