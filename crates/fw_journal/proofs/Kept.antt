-- What the calls of a device in memory leave of it, and of its past.
use Rattle.std.proofs.Common.{◌≡◌, ◌⊎◌, inl, inr, ⊎_elim, ℕ, zero, suc, ◌≤◌, List, [], ◌∷◌, ◌++◌, length, take, drop, refl, sym, ◌∙◌, ap, subst, arith, append_assoc, length-append}
use Rattle.fw_journal.specs.Device.{splice, IsTorn, IsShortened, Elapses, LeavesOnly}
use Rattle.fw_journal.specs.Past.{Held, LeavesOf, LeavesOfAll, MayLeave, MightHaveLeft, only_now}
use Rattle.fw_journal.specs.Fuse.{half_torn}
use Rattle.fw_journal.specs.Memory.{held_of, past_of, leaves, left_since}
use Rattle.fw_journal.specs.declared.disk.Change.{Change}
use Rattle.fw_journal.specs.declared.disk.Change.TheVariants.{Write, Shorten}
use Rattle.fw_journal.specs.declared.memory.MemoryDevice.{MemoryDevice}
use Rattle.fw_journal.proofs.Splices.{torn_refl, torn_splice, shortened_refl, shortened_take, length-half_torn}

keeps : (past : List Held) (d : Held) (c : List ℕ) → MightHaveLeft past c → MightHaveLeft (past ++ d ∷ []) c
keeps [] d c had = absurd had
keeps (p ∷ past) d c (inl here) = inl here
keeps (p ∷ past) d c (inr there) = inr (keeps past d c there)

adds : (past : List Held) (d : Held) (c : List ℕ) → MightHaveLeft (past ++ d ∷ []) c → MightHaveLeft past c ⊎ MayLeave d c
adds [] d c (inl here) = inr here
adds [] d c (inr none) = absurd none
adds (p ∷ past) d c (inl here) = inl (inl here)
adds (p ∷ past) d c (inr there) = ⊎_elim (λ had. inl (inr had)) (λ new. inr new) (adds past d c there)

newest : (past : List Held) (d : Held) (c : List ℕ) → MayLeave d c → MightHaveLeft (past ++ d ∷ []) c
newest [] d c is = inl is
newest (p ∷ past) d c is = inr (newest past d c is)

drop_push : (t : ℕ) (past : List Held) (d : Held) → t ≤ length past → drop t (past ++ d ∷ []) ≡ drop t past ++ d ∷ []
drop_push zero past d le = refl
drop_push (suc t) [] d le = absurd (omega arith)
drop_push (suc t) (p ∷ past) d le = drop_push t past d (omega arith)

-- the past with one moment more, since a moment
module _ (past later : List Held) (d : Held) (pushed : later ≡ past ++ d ∷ []) (t : ℕ) (le : t ≤ length past) where
  since : drop t later ≡ drop t past ++ d ∷ []
  since = ap (λ (l : List Held). drop t l) pushed ∙ drop_push t past d le

  was : (c : List ℕ) → MightHaveLeft (drop t later) c → MightHaveLeft (drop t past) c ⊎ MayLeave d c
  was c had = adds (drop t past) d c (subst (λ (l : List Held). MightHaveLeft l c) since had)

  stays : (c : List ℕ) → MightHaveLeft (drop t past) c → MightHaveLeft (drop t later) c
  stays c had = subst (λ (l : List Held). MightHaveLeft l c) (sym since) (keeps (drop t past) d c had)

  added : (c : List ℕ) → MayLeave d c → MightHaveLeft (drop t later) c
  added c is = subst (λ (l : List Held). MightHaveLeft l c) (sym since) (newest (drop t past) d c is)

-- what it held joins the past
pub elapses : (old new : MemoryDevice) → past_of new ≡ past_of old ++ held_of old ∷ [] → Elapses (λ m. length (past_of m)) left_since leaves old new
elapses old new pushed = record {
  later = omega (arith, ap length pushed, length-append (past_of old) (held_of old ∷ []));
  nothing_else = λ t c le some. ⊎_elim (λ now. inr now) (λ had. inl (⊎_elim (λ earlier. inr earlier) (λ is. inl is) (was (past_of old) (past_of new) (held_of old) pushed t le c had))) some;
  keeps = λ t c le some. ⊎_elim (λ now. inr (added (past_of old) (past_of new) (held_of old) pushed t le c now)) (λ had. inr (stays (past_of old) (past_of new) (held_of old) pushed t le c had)) some;
}

-- what may be left of the last change
last_change : (changes : List Change) (change : Change) (old new : List ℕ) → LeavesOfAll (changes ++ change ∷ []) old new
    → (between : List ℕ) × LeavesOfAll changes old between × LeavesOf change between new
last_change [] change old new left = (old, refl, subst (λ (l : List ℕ). LeavesOf change old l) (sym left.2) left.1)
last_change (c ∷ changes) change old new left =
    let last = last_change changes change left.0 new left.2 in
    (last.0, (left.0, left.1, last.1), last.2)

-- what may be left is made, by such a step, of what might have been left before
abbrev pub By : (List ℕ → List ℕ → Type 0) → Held → Held → Type 0
By Step old new = (left : List ℕ) → MayLeave new left → (earlier : List ℕ) × MayLeave old earlier × Step earlier left

by : (change : Change) (old : Held) (bytes : List ℕ) → LeavesOf change old.bytes bytes → By (LeavesOf change) old (record { bytes = bytes; synced = old.synced; changes = old.changes ++ change ∷ [] })
by change old bytes first = λ left now.
    ⊎_elim (λ e. (old.bytes, inl refl, subst (λ (l : List ℕ). LeavesOf change old.bytes l) (sym e) first))
    (λ had. let last = last_change old.changes change old.synced left had in (last.0, inr last.1, last.2)) now

pub written : (at : ℕ) (old new : Held) (bytes : List ℕ) → new ≡ record { bytes = splice old.bytes at bytes; synced = old.synced; changes = old.changes ++ Write at (length bytes) ∷ [] } → at ≤ length old.bytes → By (IsTorn at (length bytes)) old new
written at old new bytes is within =
    subst (λ (h : Held). By (IsTorn at (length bytes)) old h) (sym is) (by (Write at (length bytes)) old (splice old.bytes at bytes) (torn_splice at old.bytes bytes within))

pub half_written : (at torn : ℕ) (old new : Held) (bytes half : List ℕ) → half ≡ half_torn bytes torn → new ≡ record { bytes = splice old.bytes at half; synced = old.synced; changes = old.changes ++ Write at (length half) ∷ [] } → at ≤ length old.bytes → By (IsTorn at (length bytes)) old new
half_written at torn old new bytes half torn_is is within =
    subst (λ (n : ℕ). By (IsTorn at n) old new) (ap (λ (l : List ℕ). length l) torn_is ∙ length-half_torn bytes torn) (written at old new half is within)

pub shortened : (len : ℕ) (old new : Held) (bytes : List ℕ) → new ≡ record { bytes = bytes; synced = old.synced; changes = old.changes ++ Shorten len ∷ [] } → bytes ≡ take len old.bytes → By (IsShortened len) old new
shortened len old new bytes is cut =
    subst (λ (h : Held). By (IsShortened len) old h) (sym is)
    (by (Shorten len) old bytes (subst (λ (l : List ℕ). IsShortened len old.bytes l) (sym cut) (shortened_take len old.bytes)))

-- where nothing changed
pub not_written : (at count : ℕ) (old new : Held) → new ≡ old → By (IsTorn at count) old new
not_written at count old new same = λ left now. (left, subst (λ (h : Held). MayLeave h left) same now, torn_refl at count left)

pub not_shortened : (len : ℕ) (old new : Held) → new ≡ old → By (IsShortened len) old new
not_shortened len old new same = λ left now. (left, subst (λ (h : Held). MayLeave h left) same now, shortened_refl len left)

-- after a sync there is what is read
pub synced_leaves : (old new : Held) → new ≡ record { bytes = old.bytes; synced = old.bytes; changes = [] } → (left : List ℕ) → MayLeave new left → left ≡ old.bytes
synced_leaves old new is left now = ⊎_elim (λ e. e) (λ e. e) (subst (λ (h : Held). MayLeave h left) is now)

-- ---- bytes that are replaced

might_either : (past more : List Held) (c : List ℕ) → MightHaveLeft (past ++ more) c → MightHaveLeft past c ⊎ MightHaveLeft more c
might_either [] more c had = inr had
might_either (p ∷ past) more c (inl here) = inl (inl here)
might_either (p ∷ past) more c (inr there) = ⊎_elim (λ had. inl (inr had)) (λ new. inr new) (might_either past more c there)

drop_grown : (t : ℕ) (past more : List Held) → t ≤ length past → drop t (past ++ more) ≡ drop t past ++ more
drop_grown zero past more le = refl
drop_grown (suc t) [] more le = absurd (omega arith)
drop_grown (suc t) (p ∷ past) more le = drop_grown t past more (omega arith)

-- the past with what was held and then these
module _ (old new : MemoryDevice) (mids : List Held) (P : List ℕ → Type 0) (grown : past_of new ≡ past_of old ++ (held_of old ∷ mids))
    (before : (left : List ℕ) → leaves old left → P left) (between : (left : List ℕ) → MightHaveLeft mids left → P left) (after : (left : List ℕ) → leaves new left → P left) where
  since_old : (t : ℕ) (left : List ℕ) → t ≤ length (past_of old) → left_since new t left → left_since old t left ⊎ P left
  since_old t left le some =
      let rest : drop t (past_of new) ≡ drop t (past_of old) ++ (held_of old ∷ mids) = ap (λ (l : List Held). drop t l) grown ∙ drop_grown t (past_of old) (held_of old ∷ mids) le in
      ⊎_elim (λ now. inr (after left now))
      (λ had. ⊎_elim (λ earlier. inl (inr earlier)) (λ later. ⊎_elim (λ is. inl (inl is)) (λ mid. inr (between left mid)) later)
      (might_either (drop t (past_of old)) (held_of old ∷ mids) left (subst (λ (l : List Held). MightHaveLeft l left) rest had))) some

  pub grown_leaves : LeavesOnly (λ m. length (past_of m)) left_since old new P
  grown_leaves = record {
    later = omega (arith, ap length grown, length-append (past_of old) (held_of old ∷ mids));
    each = λ left now. ⊎_elim (λ is. before left (only_now (past_of old) (held_of old) left is)) (λ is. is) (since_old (length (past_of old)) left (omega arith) now);
    before = λ t left le now. since_old t left le now;
  }

-- what it may leave, or these bytes
abbrev pub LeftOr : Held → List ℕ → List ℕ → Type 0
LeftOr old bytes left = MayLeave old left ⊎ (left ≡ bytes)

named_leaves : (old named : Held) (bytes left : List ℕ) → named ≡ record { bytes = bytes; synced = old.synced; changes = old.changes } → MayLeave named left → LeftOr old bytes left
named_leaves old named bytes left is now = ⊎_elim (λ new. inr new) (λ was. inl (inr was)) (subst (λ (h : Held). MayLeave h left) is now)

-- the new bytes have the name of the old ones
pub renamed_leaves : (old new : MemoryDevice) (bytes : List ℕ) → held_of new ≡ record { bytes = bytes; synced = (held_of old).synced; changes = (held_of old).changes } → past_of new ≡ past_of old ++ held_of old ∷ []
    → LeavesOnly (λ m. length (past_of m)) left_since old new (LeftOr (held_of old) bytes)
renamed_leaves old new bytes is pushed =
    grown_leaves old new [] (LeftOr (held_of old) bytes) pushed (λ left was. inl was) (λ left none. absurd none) (λ left now. named_leaves (held_of old) (held_of new) bytes left is now)

-- and that is synced
pub replaced_leaves : (old new : MemoryDevice) (named : Held) (bytes : List ℕ) → named ≡ record { bytes = bytes; synced = (held_of old).synced; changes = (held_of old).changes } → held_of new ≡ record { bytes = named.bytes; synced = named.bytes; changes = [] }
    → past_of new ≡ (past_of old ++ held_of old ∷ []) ++ named ∷ [] → LeavesOnly (λ m. length (past_of m)) left_since old new (LeftOr (held_of old) bytes)
replaced_leaves old new named bytes is synced pushed =
    grown_leaves old new (named ∷ []) (LeftOr (held_of old) bytes) (pushed ∙ append_assoc (past_of old) (held_of old ∷ []) (named ∷ []))
    (λ left was. inl was) (λ left mid. ⊎_elim (λ here. named_leaves (held_of old) named bytes left is here) (λ none. absurd none) mid)
    (λ left now. inr (⊎_elim (λ e. e) (λ e. e) (subst (λ (h : Held). MayLeave h left) synced now) ∙ ap (λ (h : Held). h.bytes) is))
