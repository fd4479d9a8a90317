-- When a datagram comes late, one event after another.
use Rattle.std.proofs.Common.{◌≡◌, ℕ, ◌+◌, ◌<◌, ◌≤◌, ◌==◌, nat_lt, ◌&&◌, ◌||◌, Bool, true, false, cond, count_by, max, arith, List, [], ◌∷◌, ◌++◌, if◌then◌else◌, refl, sym, ap, ◌∙◌, Some, None, ne_eqb, ltb-true, ltb-false, lt-ltb, le-ltb}
use Rattle.std.proofs.lemmas.List.Sums.{sum_by-cons}
use Rattle.std.specs.List.{list_any}
use Rattle.fw_world.specs.Step.{Event, open_campaign, cancel_campaign, tick, deliver, stop, restart_meter, stop_restart, restart_head, turn}
use Rattle.fw_report.specs.declared.course.Coming.{Coming}
use Rattle.fw_report.specs.Course.{brings, brings_later, before_it, is_late}
use Rattle.fw_report.specs.Private.{coming_in}

or_false : (b : Bool) → b || false ≡ b
or_false true = refl
or_false false = refl

or_assoc : (a b c : Bool) → a || (b || c) ≡ (a || b) || c
or_assoc true b c = refl
or_assoc false b c = refl

-- whether one passes, with one more
pub any_on : (p : Event → Bool) (xs : List Event) (x : Event) → list_any p (xs ++ x ∷ []) ≡ list_any p xs || p x
any_on p [] x = or_false (p x)
any_on p (y ∷ xs) x = ap (λ (b : Bool). p y || b) (any_on p xs x) ∙ or_assoc (p y) (list_any p xs) (p x)

-- ---- counts

-- the parts of a test of a first one and the others
first_false : (a b : Bool) → a || b ≡ false → a ≡ false
first_false false b e = refl
first_false true b e = e

rest_false : (a b : Bool) → a || b ≡ false → b ≡ false
rest_false false b e = e
rest_false true b e = absurd cc

rest_true : (a b : Bool) → a ≡ false → a || b ≡ true → b ≡ true
rest_true false b unbrought e = e
rest_true true b unbrought e = absurd cc

first_counted : (p : Event → Bool) (x : Event) (xs : List Event) (b : Bool) → p x ≡ b → count_by p (x ∷ xs) ≡ cond b 1 0 + count_by p xs
first_counted p x xs b e = sum_by-cons (λ y. cond (p y) 1 0) x xs ∙ ap (λ (c : Bool). cond c 1 0 + count_by p xs) e

pub none_counted : (p : Event → Bool) (xs : List Event) → list_any p xs ≡ false → count_by p xs ≡ 0
none_counted p [] none = refl
none_counted p (x ∷ xs) none =
    let n = first_counted p x xs false (first_false (p x) (list_any p xs) none) in
    let m = none_counted p xs (rest_false (p x) (list_any p xs) none) in omega (arith, n, m)

some_by : (p : Event → Bool) (x : Event) (xs : List Event) (b : Bool) → p x ≡ b → (list_any p xs ≡ true → 1 ≤ count_by p xs) → list_any p (x ∷ xs) ≡ true → 1 ≤ count_by p (x ∷ xs)
some_by p x xs true e later some = let n = first_counted p x xs true e in omega (arith, n)
some_by p x xs false e later some =
    let n = first_counted p x xs false e in
    let m = later (rest_true (p x) (list_any p xs) e some) in omega (arith, n, m)

pub some_counted : (p : Event → Bool) (xs : List Event) → list_any p xs ≡ true → 1 ≤ count_by p xs
some_counted p [] some = absurd cc
some_counted p (x ∷ xs) some = some_by p x xs (p x) refl (some_counted p xs) some

-- ---- the events before it

first_brings : (number : ℕ) (x : Event) (xs : List Event) → brings number x ≡ true → before_it number (x ∷ xs) ≡ []
first_brings number x xs brought = ap (λ (b : Bool). if b then [] else (x ∷ before_it number xs)) brought

first_not : (number : ℕ) (x : Event) (xs : List Event) → brings number x ≡ false → before_it number (x ∷ xs) ≡ x ∷ before_it number xs
first_not number x xs unbrought = ap (λ (b : Bool). if b then [] else (x ∷ before_it number xs)) unbrought

-- where none brought it before
unmet : (number : ℕ) (xs : List Event) (x : Event) → list_any (brings number) xs ≡ false → brings number x ≡ true → before_it number (xs ++ x ∷ []) ≡ xs
unmet number [] x none brought = first_brings number x [] brought
unmet number (y ∷ xs) x none brought =
    first_not number y (xs ++ x ∷ []) (first_false (brings number y) (list_any (brings number) xs) none)
    ∙ ap (λ (es : List Event). y ∷ es) (unmet number xs x (rest_false (brings number y) (list_any (brings number) xs) none) brought)

-- where one did
met_by : (number : ℕ) (y : Event) (xs : List Event) (x : Event) (b : Bool) → brings number y ≡ b
    → (list_any (brings number) xs ≡ true → before_it number (xs ++ x ∷ []) ≡ before_it number xs)
    → list_any (brings number) (y ∷ xs) ≡ true → before_it number (y ∷ (xs ++ x ∷ [])) ≡ before_it number (y ∷ xs)
met_by number y xs x true e later some = first_brings number y (xs ++ x ∷ []) e ∙ sym (first_brings number y xs e)
met_by number y xs x false e later some =
    first_not number y (xs ++ x ∷ []) e
    ∙ ap (λ (es : List Event). y ∷ es) (later (rest_true (brings number y) (list_any (brings number) xs) e some))
    ∙ sym (first_not number y xs e)

met : (number : ℕ) (xs : List Event) (x : Event) → list_any (brings number) xs ≡ true → before_it number (xs ++ x ∷ []) ≡ before_it number xs
met number [] x some = absurd cc
met number (y ∷ xs) x some = met_by number y xs x (brings number y) refl (met number xs x) some

-- ---- one event more

-- once it came, it stays as it is
came : (number : ℕ) (xs : List Event) (x : Event) → list_any (brings number) xs ≡ true → is_late number xs ≡ is_late number (xs ++ x ∷ [])
came number xs x some =
    let still : list_any (brings number) (xs ++ x ∷ []) ≡ true = any_on (brings number) xs x ∙ ap (λ (b : Bool). b || brings number x) some in
    ap (λ (b : Bool). b && list_any (brings_later number) (before_it number xs)) some
    ∙ ap (λ (es : List Event). list_any (brings_later number) es) (sym (met number xs x some))
    ∙ sym (ap (λ (b : Bool). b && list_any (brings_later number) (before_it number (xs ++ x ∷ []))) still)

-- another that comes leaves it
pub late_stays : (number : ℕ) (xs : List Event) (x : Event) (b : Bool) → list_any (brings number) xs ≡ b → brings number x ≡ false → is_late number xs ≡ is_late number (xs ++ x ∷ [])
late_stays number xs x true some unbrought = came number xs x some
late_stays number xs x false none unbrought =
    let still : list_any (brings number) (xs ++ x ∷ []) ≡ false = any_on (brings number) xs x ∙ ap (λ (b : Bool). b || brings number x) none ∙ unbrought in
    ap (λ (b : Bool). b && list_any (brings_later number) (before_it number xs)) none
    ∙ sym (ap (λ (b : Bool). b && list_any (brings_later number) (before_it number (xs ++ x ∷ []))) still)

-- what it is where it comes: at first by those before it, and later as it was
abbrev pub late_next : ℕ → Bool → Bool → Bool
late_next times overtaken late = if times == 0 then overtaken else late

at_first : (times : ℕ) (overtaken late : Bool) → times ≡ 0 → late_next times overtaken late ≡ overtaken
at_first times overtaken late e = ap (λ (n : ℕ). late_next n overtaken late) e

pub late_comes : (number : ℕ) (xs : List Event) (x : Event) (overtaken b : Bool) → list_any (brings number) xs ≡ b → brings number x ≡ true
    → list_any (brings_later number) xs ≡ overtaken → late_next (count_by (brings number) xs) overtaken (is_late number xs) ≡ is_late number (xs ++ x ∷ [])
late_comes number xs x overtaken true some brought before =
    let times = some_counted (brings number) xs some in
    let known : count_by (brings number) xs == 0 ≡ false = ne_eqb (count_by (brings number) xs) 0 (λ e. omega (arith, times, e)) in
    ap (λ (c : Bool). if c then overtaken else is_late number xs) known ∙ came number xs x some
late_comes number xs x overtaken false none brought before =
    let times = none_counted (brings number) xs none in
    let now : list_any (brings number) (xs ++ x ∷ []) ≡ true = any_on (brings number) xs x ∙ ap (λ (b : Bool). b || brings number x) none ∙ brought in
    at_first (count_by (brings number) xs) overtaken (is_late number xs) times
    ∙ sym before
    ∙ ap (λ (es : List Event). list_any (brings_later number) es) (sym (unmet number xs x none brought))
    ∙ sym (ap (λ (b : Bool). b && list_any (brings_later number) (before_it number (xs ++ x ∷ []))) now)

-- ---- the highest number that came

-- of each number it is known whether one that was sent later came
abbrev pub IsHighest : List Event → ℕ → Type 0
IsHighest events highest = (number : ℕ) → list_any (brings_later number) events ≡ nat_lt number highest

pub highest_begins : IsHighest [] 0
highest_begins number = sym (le-ltb number 0 (omega arith))

brings_none_later : (event : Event) (number : ℕ) → coming_in event ≡ None → brings_later number event ≡ false
brings_none_later (deliver k) number e = absurd cc
brings_none_later (stop k calls torn) number e = absurd cc
brings_none_later (open_campaign campaign release image meters) number e = refl
brings_none_later (cancel_campaign campaign) number e = refl
brings_none_later (tick head meter) number e = refl
brings_none_later (restart_meter m) number e = refl
brings_none_later (stop_restart m calls torn) number e = refl
brings_none_later (restart_head h) number e = refl
brings_none_later (turn m) number e = refl

brings_it_later : (event : Event) (coming : Coming) (number : ℕ) → coming_in event ≡ Some coming → brings_later number event ≡ nat_lt number coming.number
brings_it_later (deliver k) coming number e = let is : k ≡ coming.number = cc in ap (λ (n : ℕ). nat_lt number n) is
brings_it_later (stop k calls torn) coming number e = let is : k ≡ coming.number = cc in ap (λ (n : ℕ). nat_lt number n) is
brings_it_later (open_campaign campaign release image meters) coming number e = absurd cc
brings_it_later (cancel_campaign campaign) coming number e = absurd cc
brings_it_later (tick head meter) coming number e = absurd cc
brings_it_later (restart_meter m) coming number e = absurd cc
brings_it_later (stop_restart m calls torn) coming number e = absurd cc
brings_it_later (restart_head h) coming number e = absurd cc
brings_it_later (turn m) coming number e = absurd cc

pub highest_stays : (events : List Event) (event : Event) (highest : ℕ) → coming_in event ≡ None → IsHighest events highest → IsHighest (events ++ event ∷ []) highest
highest_stays events event highest none is number =
    any_on (brings_later number) events event
    ∙ ap (λ (b : Bool). list_any (brings_later number) events || b) (brings_none_later event number none)
    ∙ or_false (list_any (brings_later number) events)
    ∙ is number

-- below one of two or below the higher
below_other : (n h k m : ℕ) → m ≡ max h k → h ≤ n → (b : Bool) → nat_lt n k ≡ b → nat_lt n k ≡ nat_lt n m
below_other n h k m is high true e =
    let low : n < k = ltb-true n k e in
    let below : n < m = omega (arith, is, low) in e ∙ sym (lt-ltb n m below)
below_other n h k m is high false e =
    let low : k ≤ n = ltb-false n k e in
    let above : m ≤ n = omega (arith, is, low, high) in e ∙ sym (le-ltb n m above)

below_one : (n h k m : ℕ) → m ≡ max h k → (b : Bool) → nat_lt n h ≡ b → nat_lt n h || nat_lt n k ≡ nat_lt n m
below_one n h k m is true e =
    let low : n < h = ltb-true n h e in
    let below : n < m = omega (arith, is, low) in ap (λ (b : Bool). b || nat_lt n k) e ∙ sym (lt-ltb n m below)
below_one n h k m is false e = ap (λ (b : Bool). b || nat_lt n k) e ∙ below_other n h k m is (ltb-false n h e) (nat_lt n k) refl

pub highest_goes_on : (events : List Event) (event : Event) (coming : Coming) (highest new : ℕ) → coming_in event ≡ Some coming → new ≡ max highest coming.number → IsHighest events highest
    → IsHighest (events ++ event ∷ []) new
highest_goes_on events event coming highest new is new_is highest_is number =
    any_on (brings_later number) events event
    ∙ ap (λ (b : Bool). b || brings_later number event) (highest_is number)
    ∙ ap (λ (b : Bool). nat_lt number highest || b) (brings_it_later event coming number is)
    ∙ below_one number highest coming.number new new_is (nat_lt number highest) refl
