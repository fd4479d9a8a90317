-- How calls of the files of a store follow on each other (as `fw_disk` has it of a folder).
use Rattle.std.proofs.Common.{inl, inr, ⊎_elim, ℕ, List, ◌∙◌, ap, arith, refl, sym, subst, Ok, Err, Result, OnOk, OnErr}
use Rattle.fw_cuts.specs.Both.{Both, On}
use Rattle.fw_cuts.specs.Cuts.{Seen, Goes, Stays, MayResize, IsSynced}
use Rattle.fw_cuts.specs.Private.{SameStore, SameJournal}
use Rattle.fw_cuts.specs.declared.files.Part.TheVariants.{Store, Journal}

-- no call yet
pub unmoved : (a : Seen) → Goes Stays a a
unmoved a = record {
  reads = refl;
  leaves = λ left may. (left, may, refl);
  later = omega arith;
  meanwhile = λ since left le had. inl had;
  keeps = λ since left le had. had;
}

-- a call, and then one of which it is known what is read and what a power cut may leave as it begins
pub follow : (R S T : Both → Both → Type 0) (Q : Both → Type 0) (a b c : Seen) → Goes R a b
    → Q b.held → ((left : Both) → b.may_leave left → Q left) → Goes S b c
    → ((x y : Both) → R x y → T x y) → ((x y z : Both) → R x y → Q y → S y z → T x z) → Goes T a c
follow R S T Q a b c f now lefts s wide step = record {
  reads = step a.held b.held c.held f.reads now s.reads;
  leaves = λ left may. let y = s.leaves left may in let x = f.leaves y.0 y.1 in (x.0, x.1, step x.0 y.0 left x.2 (lefts y.0 y.1) y.2);
  later = omega (arith, f.later, s.later);
  meanwhile = λ since left le had. ⊎_elim
      (λ before. ⊎_elim (λ h. inl h) (λ x. inr (x.0, x.1, wide x.0 left x.2)) (f.meanwhile since left le before))
      (λ y. let x = f.leaves y.0 y.1 in inr (x.0, x.1, step x.0 y.0 left x.2 (lefts y.0 y.1) y.2))
      (s.meanwhile since left (omega (arith, le, f.later)) had);
  keeps = λ since left le had. s.keeps since left (omega (arith, le, f.later)) (f.keeps since left le had);
}

-- two calls of which each makes a step, if two steps are one
pub chain : (T : Both → Both → Type 0) → ((x y z : Both) → T x y → T y z → T x z) → (a b c : Seen) → Goes T a b → Goes T b c → Goes T a c
chain T trans a b c first second = follow T T T (λ d. Unit {0}) a b c first tt (λ left may. tt) second (λ x y t. t) (λ x y z r q s. trans x y z r s)

pub widen : (R T : Both → Both → Type 0) (a b : Seen) → Goes R a b → ((x y : Both) → R x y → T x y) → Goes T a b
widen R T a b f wide = record {
  reads = wide a.held b.held f.reads;
  leaves = λ left may. let x = f.leaves left may in (x.0, x.1, wide x.0 left x.2);
  later = f.later;
  meanwhile = λ since left le had. ⊎_elim (λ h. inl h) (λ x. inr (x.0, x.1, wide x.0 left x.2)) (f.meanwhile since left le had);
  keeps = f.keeps;
}

-- a call of which it is known what a power cut may leave as it begins
pub widen_from : (R T : Both → Both → Type 0) (Q : Both → Type 0) (a b : Seen) → Goes R a b
    → Q a.held → ((left : Both) → a.may_leave left → Q left)
    → ((x y : Both) → Q x → R x y → T x y) → Goes T a b
widen_from R T Q a b f now lefts wide = record {
  reads = wide a.held b.held now f.reads;
  leaves = λ left may. let x = f.leaves left may in (x.0, x.1, wide x.0 left (lefts x.0 x.1) x.2);
  later = f.later;
  meanwhile = λ since left le had. ⊎_elim (λ h. inl h) (λ x. inr (x.0, x.1, wide x.0 left (lefts x.0 x.1) x.2)) (f.meanwhile since left le had);
  keeps = f.keeps;
}

-- a call that changes nothing, before another or after it
pub stays_first : (S : Both → Both → Type 0) → ((x : Both) → S x x) → (a b c : Seen) → Goes Stays a b → Goes S b c → Goes S a c
stays_first S same a b c first second = follow Stays S S (λ d. Unit {0}) a b c first tt (λ left may. tt) second
    (λ x y is. subst (λ (d : Both). S x d) (sym is) (same x))
    (λ x y z is q s. subst (λ (d : Both). S d z) is s)

pub stays_last : (R : Both → Both → Type 0) (a b c : Seen) → Goes R a b → Goes Stays b c → Goes R a c
stays_last R a b c first second = follow R Stays R (λ d. Unit {0}) a b c first tt (λ left may. tt) second
    (λ x y r. r) (λ x y z r q is. subst (λ (d : Both). R x d) (sym is) r)

pub stays : (a b c : Seen) → Goes Stays a b → Goes Stays b c → Goes Stays a c
stays a b c first second = stays_last Stays a b c first second

-- the length of FILE may change
pub unsized : (len : ℕ) (a b : Seen) → Goes Stays a b → Goes (On Store (MayResize len)) a b
unsized len a b goes = widen Stays (On Store (MayResize len)) a b goes (λ x y is. (inl (ap (λ (d : Both). d.store) is), ap (λ (d : Both). d.journal) is))

pub sized : (len : ℕ) (a b c : Seen) → Goes Stays a b → Goes (On Store (MayResize len)) b c → Goes (On Store (MayResize len)) a c
sized len a b c first second = stays_first (On Store (MayResize len)) (λ x. (inl refl, refl)) a b c first second

-- ---- one of the files stays

pub store_stays : (a b : Seen) → Goes Stays a b → Goes SameStore a b
store_stays a b goes = widen Stays SameStore a b goes (λ x y is. ap (λ (d : Both). d.store) is)

pub store_kept : (Step : List ℕ → List ℕ → Type 0) (a b : Seen) → Goes (On Journal Step) a b → Goes SameStore a b
store_kept Step a b goes = widen (On Journal Step) SameStore a b goes (λ x y s. s.1)

pub stores : (a b c : Seen) → Goes SameStore a b → Goes SameStore b c → Goes SameStore a c
stores a b c first second = chain SameStore (λ x y z p q. q ∙ p) a b c first second

pub journal_kept : (Step : List ℕ → List ℕ → Type 0) (a b : Seen) → Goes (On Store Step) a b → Goes SameJournal a b
journal_kept Step a b goes = widen (On Store Step) SameJournal a b goes (λ x y s. s.1)

pub journals : (a b c : Seen) → Goes SameJournal a b → Goes SameJournal b c → Goes SameJournal a c
journals a b c first second = chain SameJournal (λ x y z p q. q ∙ p) a b c first second

-- and is still on the disk
pub store_synced : (a b : Seen) → Goes SameStore a b → IsSynced Store a → IsSynced Store b
store_synced a b goes synced left may =
    let x = goes.leaves left may in
    x.2 ∙ synced x.0 x.1 ∙ sym goes.reads

pub journal_synced : (a b : Seen) → Goes SameJournal a b → IsSynced Journal a → IsSynced Journal b
journal_synced a b goes synced left may =
    let x = goes.leaves left may in
    x.2 ∙ synced x.0 x.1 ∙ sym goes.reads

-- what holds of a call that succeeded
pub if_ok : {T E : Type 0} (result : Result T E) (P : Type 0) → P → OnOk result P
if_ok (Ok v) P holds = holds
if_ok (Err e) P holds = tt

-- what follows of what a call that succeeded makes
pub on_ok : {T E : Type 0} (result : Result T E) (P Q : Type 0) → (P → Q) → OnOk result P → OnOk result Q
on_ok (Ok v) P Q follows holds = follows holds
on_ok (Err e) P Q follows holds = holds

pub on_ok_2 : {T E : Type 0} (result : Result T E) (P Q R : Type 0) → (P → Q → R) → OnOk result P → OnOk result Q → OnOk result R
on_ok_2 (Ok v) P Q R follows p q = follows p q
on_ok_2 (Err e) P Q R follows p q = p

pub on_ok_3 : {T E : Type 0} (result : Result T E) (P Q R S : Type 0) → (P → Q → R → S) → OnOk result P → OnOk result Q → OnOk result R → OnOk result S
on_ok_3 (Ok v) P Q R S follows p q r = follows p q r
on_ok_3 (Err e) P Q R S follows p q r = p

pub on_ok_4 : {T E : Type 0} (result : Result T E) (P Q R S U : Type 0) → (P → Q → R → S → U) → OnOk result P → OnOk result Q → OnOk result R → OnOk result S → OnOk result U
on_ok_4 (Ok v) P Q R S U follows p q r s = follows p q r s
on_ok_4 (Err e) P Q R S U follows p q r s = p

pub on_err : {T E : Type 0} (result : Result T E) (P Q : Type 0) → (P → Q) → OnErr result P → OnErr result Q
on_err (Ok v) P Q follows holds = holds
on_err (Err e) P Q follows holds = follows holds

-- what holds of a call that was refused
pub if_err : {T E : Type 0} (result : Result T E) (P : Type 0) → P → OnErr result P
if_err (Ok v) P holds = tt
if_err (Err e) P holds = holds
