-- How calls of a folder follow on each other.
use Rattle.std.proofs.Common.{◌≡◌, inl, inr, ⊎_elim, arith, IsTrue, sym, subst, Ok, Err, Result, OnOk, OnErr}
use Rattle.fw_disk.specs.Disk.{Disk, Seen, Goes}
use Rattle.fw_disk.specs.Calls.{Stays}

-- no call yet
pub unmoved : (T : Disk → Disk → Type 0) → ((x : Disk) → T x x) → (a : Seen) → Goes T a a
unmoved T same a = λ honest. record {
  honest = honest;
  reads = same a.disk;
  leaves = λ left may. (left, may, same left);
  later = omega arith;
  meanwhile = λ since left le had. inl had;
  keeps = λ since left le had. had;
}

-- a call, and then one of which it is known what is read and what a power cut may leave as it begins
pub follow : (R S T : Disk → Disk → Type 0) (Q : Disk → Type 0) (a b c : Seen) → Goes R a b
    → (IsTrue a.honest → Q b.disk) → (IsTrue a.honest → (left : Disk) → b.may_leave left → Q left) → Goes S b c
    → ((x y : Disk) → R x y → T x y) → ((x y z : Disk) → R x y → Q y → S y z → T x z) → Goes T a c
follow R S T Q a b c first now lefts second wide step = λ honest.
    let f = first honest in
    let s = second f.honest in
    record {
      honest = s.honest;
      reads = step a.disk b.disk c.disk f.reads (now honest) s.reads;
      leaves = λ left may. let y = s.leaves left may in let x = f.leaves y.0 y.1 in (x.0, x.1, step x.0 y.0 left x.2 (lefts honest y.0 y.1) y.2);
      later = omega (arith, f.later, s.later);
      meanwhile = λ since left le had. ⊎_elim
          (λ before. ⊎_elim (λ h. inl h) (λ x. inr (x.0, x.1, wide x.0 left x.2)) (f.meanwhile since left le before))
          (λ y. let x = f.leaves y.0 y.1 in inr (x.0, x.1, step x.0 y.0 left x.2 (lefts honest y.0 y.1) y.2))
          (s.meanwhile since left (omega (arith, le, f.later)) had);
      keeps = λ since left le had. s.keeps since left (omega (arith, le, f.later)) (f.keeps since left le had);
    }

-- two calls of which each makes a step, if two steps are one
pub chain : (T : Disk → Disk → Type 0) → ((x y z : Disk) → T x y → T y z → T x z) → (a b c : Seen) → Goes T a b → Goes T b c → Goes T a c
chain T trans a b c first second = follow T T T (λ d. Unit {0}) a b c first (λ h. tt) (λ h left may. tt) second (λ x y t. t) (λ x y z r q s. trans x y z r s)

pub widen : (R T : Disk → Disk → Type 0) (a b : Seen) → Goes R a b → (IsTrue a.honest → (x y : Disk) → R x y → T x y) → Goes T a b
widen R T a b goes wide = λ honest.
    let f = goes honest in
    record {
      honest = f.honest;
      reads = wide honest a.disk b.disk f.reads;
      leaves = λ left may. let x = f.leaves left may in (x.0, x.1, wide honest x.0 left x.2);
      later = f.later;
      meanwhile = λ since left le had. ⊎_elim (λ h. inl h) (λ x. inr (x.0, x.1, wide honest x.0 left x.2)) (f.meanwhile since left le had);
      keeps = f.keeps;
    }

-- a call that changes nothing, and then another
pub stays_first : (S : Disk → Disk → Type 0) → ((x : Disk) → S x x) → (a b c : Seen) → Goes Stays a b → Goes S b c → Goes S a c
stays_first S same a b c first second = follow Stays S S (λ d. Unit {0}) a b c first (λ h. tt) (λ h left may. tt) second
    (λ x y is. subst (λ (d : Disk). S x d) (sym is) (same x))
    (λ x y z is q s. subst (λ (d : Disk). S d z) is s)

pub stays_last : (R : Disk → Disk → Type 0) (a b c : Seen) → Goes R a b → Goes Stays b c → Goes R a c
stays_last R a b c first second = follow R Stays R (λ d. Unit {0}) a b c first (λ h. tt) (λ h left may. tt) second
    (λ x y r. r) (λ x y z r q is. subst (λ (d : Disk). R x d) (sym is) r)

pub stays : (a b c : Seen) → Goes Stays a b → Goes Stays b c → Goes Stays a c
stays a b c first second = stays_last Stays a b c first second

-- what is synced stays synced
pub disk_same : (a b : Seen) → Goes Stays a b → IsTrue a.honest → b.disk ≡ a.disk
disk_same a b goes honest = (goes honest).reads

-- a call of which it is known what a power cut may leave as it begins
pub widen_from : (R T : Disk → Disk → Type 0) (Q : Disk → Type 0) (a b : Seen) → Goes R a b
    → (IsTrue a.honest → Q a.disk) → (IsTrue a.honest → (left : Disk) → a.may_leave left → Q left)
    → ((x y : Disk) → Q x → R x y → T x y) → Goes T a b
widen_from R T Q a b goes now lefts wide = λ honest.
    let f = goes honest in
    record {
      honest = f.honest;
      reads = wide a.disk b.disk (now honest) f.reads;
      leaves = λ left may. let x = f.leaves left may in (x.0, x.1, wide x.0 left (lefts honest x.0 x.1) x.2);
      later = f.later;
      meanwhile = λ since left le had. ⊎_elim (λ h. inl h) (λ x. inr (x.0, x.1, wide x.0 left (lefts honest x.0 x.1) x.2)) (f.meanwhile since left le had);
      keeps = f.keeps;
    }

-- what follows of what a call that succeeded makes
pub on_ok : {T E : Type 0} (result : Result T E) (P Q : Type 0) → (P → Q) → OnOk result P → OnOk result Q
on_ok (Ok v) P Q follows holds = follows holds
on_ok (Err e) P Q follows holds = holds

pub on_err : {T E : Type 0} (result : Result T E) (P Q : Type 0) → (P → Q) → OnErr result P → OnErr result Q
on_err (Ok v) P Q follows holds = holds
on_err (Err e) P Q follows holds = follows holds
