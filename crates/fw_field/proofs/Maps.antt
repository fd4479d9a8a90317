-- What a map has that was changed at one number or at one mark, and runs one after the other.
use Rattle.std.proofs.Common.{◌≡◌, ℕ, nat_eq, Bool, true, false, ◌&&◌, cond, ◌⊎◌, inl, inr, List, [], ◌∷◌, ◌++◌, Option, Some, None, slice_get, Contains, refl, sym, ap, subst, ◌∙◌, eqb-true}
use Rattle.std.proofs.lemmas.Bool.Decides.{Decides-eqb}
use Rattle.std.proofs.lemmas.Option.{slice_get-get_or}
use Rattle.fw_names.specs.Name.{Campaign}
use Rattle.fw_world.specs.Step.{Event, Run}
use Rattle.fw_world.specs.World.{World, put, same_campaign}

pub funext : {A B : Type 0} (f g : A → B) → ((x : A) → f x ≡ g x) → f ≡ g
funext f g same = λ i x. same x i

pub itself : (n : ℕ) → nat_eq n n ≡ true
itself n = (Decides-eqb n n).1 refl

pub some_is : {X : Type 0} (x y : X) → Some x ≡ Some y → x ≡ y
some_is x y e = cc

pub none_some : {X : Type 0} (x : X) → (let o : Option X = None in o ≡ Some x) → ⊥
none_some x e = cc

-- what is found is what was put there, or what was there
pub put_cases : {X : Type 0} (f : ℕ → Option X) (n q : ℕ) (x y : X) → put nat_eq f n (Some x) q ≡ Some y → ((q ≡ n) × (x ≡ y)) ⊎ (f q ≡ Some y)
put_cases {X} f n q x y e = go (nat_eq q n) refl e
  where
    go : (b : Bool) → nat_eq q n ≡ b → cond b (Some x) (f q) ≡ Some y → ((q ≡ n) × (x ≡ y)) ⊎ (f q ≡ Some y)
    go true is found = inl (eqb-true q n is, some_is x y found)
    go false is found = inr found

-- ---- marks

abbrev pub Done : Type 0
Done = Campaign → ℕ → Bool

abbrev pub marked : Done → Campaign → ℕ → Done
marked done key number = put same_campaign done key (put nat_eq (done key) number true)

both_true : (a b : Bool) → (a && b) ≡ true → (a ≡ true) × (b ≡ true)
both_true true true e = (refl, refl)
both_true true false e = cc
both_true false b e = cc

pub same_campaign_is : (a b : Campaign) → same_campaign a b ≡ true → a ≡ b
same_campaign_is a b e =
    let both = both_true (nat_eq a.head b.head) (nat_eq a.serial b.serial) e in
    let heads : a.head ≡ b.head = eqb-true a.head b.head both.0 in
    let serials : a.serial ≡ b.serial = eqb-true a.serial b.serial both.1 in
    λ i. record { head = heads i; serial = serials i }

-- a mark keeps those that there are
pub mark_keeps : (f : Done) (key : Campaign) (n : ℕ) (c : Campaign) (m : ℕ) → f c m ≡ true → marked f key n c m ≡ true
mark_keeps f key n c m had = campaigns (same_campaign c key) refl
  where
    meters : (x : Bool) → c ≡ key → cond x true (f key m) ≡ true
    meters true same = refl
    meters false same = ap (λ k. f k m) (sym same) ∙ had

    campaigns : (x : Bool) → same_campaign c key ≡ x → cond x (put nat_eq (f key) n true) (f c) m ≡ true
    campaigns true is = meters (nat_eq m n) (same_campaign_is c key is)
    campaigns false is = had

-- if there were no others, there are none after the same mark
pub mark_follows : (f g : Done) (key : Campaign) (n : ℕ) (c : Campaign) (m : ℕ) → (f c m ≡ true → g c m ≡ true) → marked f key n c m ≡ true → marked g key n c m ≡ true
mark_follows f g key n c m goes = campaigns (same_campaign c key) refl
  where
    meters : (x : Bool) → c ≡ key → cond x true (f key m) ≡ true → cond x true (g key m) ≡ true
    meters true same e = refl
    meters false same e = ap (λ k. g k m) (sym same) ∙ goes (ap (λ k. f k m) same ∙ e)

    campaigns : (x : Bool) → same_campaign c key ≡ x → cond x (put nat_eq (f key) n true) (f c) m ≡ true → cond x (put nat_eq (g key) n true) (g c) m ≡ true
    campaigns true is e = meters (nat_eq m n) (same_campaign_is c key is) e
    campaigns false is e = goes e

-- ---- lists and runs

-- the number of a datagram that was sent
pub number_of : {X : Type 0} (xs : List X) (x : X) → Contains xs x → (n : ℕ) × (slice_get xs n ≡ Some x)
number_of {X} xs x has = (has.0, slice_get-get_or xs has.0 x has.1 ∙ ap (λ (y : X). (let o : Option X = Some y in o)) has.2)

pub run_append : (old mid new : World) (first second : List Event) → Run old first mid → Run mid second new → Run old (first ++ second) new
run_append old mid new [] second one two = subst (λ (w : World). Run w second new) one two
run_append old mid new (event ∷ events) second one two = (one.0, one.1, run_append one.0 mid new events second one.2 two)

pub same_world : (a b : World) → a.offered ≡ b.offered → a.sent ≡ b.sent → a.meters ≡ b.meters → a.activations ≡ b.activations → a.done ≡ b.done → a ≡ b
same_world a b offered sent meters activations done = λ i. record { offered = offered i; sent = sent i; meters = meters i; activations = activations i; done = done i }
