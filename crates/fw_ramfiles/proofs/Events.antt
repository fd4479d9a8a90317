-- What is read after an event of files in memory, and what a power cut leaves of it.
use Rattle.std.proofs.Common.{◌≡◌, inl, inr, ⊎_elim, ℕ, ◌+◌, ◌-◌, ◌≤◌, min, List, [], ◌∷◌, ◌++◌, reverse, length, take, drop, slice_range, refl, sym, ◌∙◌, ap, subst, arith, Ok, Err, Result, OnOk, OnErr}
use Rattle.std.proofs.lemmas.Bool.{cases_lt}
use Rattle.std.proofs.lemmas.List.{reverse-append, length-append, length-take, length-drop, take-append-le, take_all}
use Rattle.std.specs.Global.{Vec}
use Rattle.fw_cuts.specs.Sectors.{in_sector}
use Rattle.fw_cuts.specs.Both.{Both, of, On}
use Rattle.fw_cuts.specs.Cuts.{Seen, Goes, splice, Cuts, Writes, Resizes, IsSynced}
use Rattle.fw_cuts.specs.declared.files.Part.{Part}
use Rattle.fw_cuts.specs.declared.files.Part.TheVariants.{Store, Journal}
use Rattle.fw_cuts.proofs.Splices.{splice_same}
use Rattle.fw_ramfiles.specs.declared.past.Event.{Event}
use Rattle.fw_ramfiles.specs.declared.past.Event.TheVariants as event
use Rattle.fw_ramfiles.specs.Past.{fitting, bytes_of, held_after, Step, Leaves, seen_after}
use Rattle.fw_ramfiles.specs.PastLaws.{step_made}

-- ---- nothing of an event

-- no sector of a write is there
cut_none : (at : ℕ) (bytes old : List ℕ) → Cuts at bytes old old
cut_none at bytes old =
    let count : ℕ = min (length bytes) (length old - at) in
    let part : List ℕ = slice_range old at (at + count) in
    let size : length part ≡ count = omega (arith, length-take (at + count - at) (drop at old), length-drop at old) in
    let there : slice_range old at (at + length part) ≡ part = ap (λ (n : ℕ). slice_range old at (at + n)) size in
    record {
      part = part;
      size = size;
      cut = λ k. inl (ap (λ (l : List ℕ). in_sector at k l) (sym there));
      stands = sym (splice_same old at part there);
    }

step_none : (e : Event) (x : Both) → Step e x x
step_none (event.Write Store at bytes) x = (cut_none at bytes.items x.store, refl)
step_none (event.Write Journal at bytes) x = (cut_none at bytes.items x.journal, refl)
step_none (event.Resize Store len) x = (inl refl, refl)
step_none (event.Resize Journal len) x = (inl refl, refl)
step_none (event.Sync part) x = refl

none_written : (part : Part) (at : ℕ) (bytes : List ℕ) (x : Both) → On part (Cuts at bytes) x x
none_written Store at bytes x = (cut_none at bytes x.store, refl)
none_written Journal at bytes x = (cut_none at bytes x.journal, refl)

-- a write that was not begun
pub unwritten : (part : Part) (at : ℕ) (bytes : List ℕ) (a : Seen) → Goes (On part (Cuts at bytes)) a a
unwritten part at bytes a = record {
  reads = none_written part at bytes a.held;
  leaves = λ left may. (left, may, none_written part at bytes left);
  later = omega arith;
  meanwhile = λ since left le had. inl had;
  keeps = λ since left le had. had;
}

-- ---- an event more

module _ (start : Both) (events later : List Event) (e : Event) (pushed : later ≡ events ++ e ∷ []) where
  pub is_past : reverse later ≡ e ∷ reverse events
  is_past = ap (λ (l : List Event). reverse l) pushed ∙ reverse-append events (e ∷ [])

  size : length later ≡ length events + 1
  size = ap (λ (l : List Event). length l) pushed ∙ length-append events (e ∷ [])

  same_moment : (moment : ℕ) → moment ≤ length events → take moment later ≡ take moment events
  same_moment moment le = ap (λ (l : List Event). take moment l) pushed ∙ take-append-le moment events (e ∷ []) le

  pushed_goes : Goes (Step e) (seen_after start events) (seen_after start later)
  pushed_goes = record {
    reads = subst (λ (l : List Event). Step e (held_after start (reverse events)) (held_after start l)) (sym is_past) (step_made e start (reverse events));
    leaves = λ left may. (subst (λ (l : List Event). Leaves start l left) is_past may).0;
    later = omega (arith, size);
    meanwhile = λ since left le had. ⊎_elim
        (λ short. inl (had.0, had.1, omega (arith, short), subst (λ (l : List Event). Leaves start (reverse l) left) (same_moment had.0 (omega (arith, short))) had.3))
        (λ long. inr (subst (λ (l : List Event). Leaves start l left) (ap (λ (l : List Event). reverse l) (take_all had.0 later (omega (arith, long, size))) ∙ is_past) had.3).0)
        (cases_lt had.0 (length events + 1));
    keeps = λ since left le had. (had.0, had.1, omega (arith, had.2, size), subst (λ (l : List Event). Leaves start (reverse l) left) (sym (same_moment had.0 had.2)) had.3);
  }

not_pushed_goes : (start : Both) (events later : List Event) (e : Event) → later ≡ events → Goes (Step e) (seen_after start events) (seen_after start later)
not_pushed_goes start events later e same = subst (λ (l : List Event). Goes (Step e) (seen_after start events) (seen_after start l)) (sym same) (record {
  reads = step_none e (held_after start (reverse events));
  leaves = λ left may. (left, may, step_none e left);
  later = omega arith;
  meanwhile = λ since left le had. inl had;
  keeps = λ since left le had. had;
})

either : {T E : Type 0} (result : Result T E) (P Q R : Type 0) → OnOk result P → OnErr result Q → (P → R) → (Q → R) → R
either (Ok v) P Q R ok err done undone = done ok
either (Err e) P Q R ok err done undone = undone err

-- it is added or not
pub add_goes : {T E : Type 0} (result : Result T E) (start : Both) (events later : List Event) (e : Event)
    → OnOk result (later ≡ events ++ e ∷ []) → OnErr result (later ≡ events) → Goes (Step e) (seen_after start events) (seen_after start later)
add_goes result start events later e ok err =
    either result (later ≡ events ++ e ∷ []) (later ≡ events) (Goes (Step e) (seen_after start events) (seen_after start later)) ok err
    (λ pushed. pushed_goes start events later e pushed) (λ same. not_pushed_goes start events later e same)

-- ---- what is done

resizes : (part : Part) (len : ℕ) (start : Both) (past : List Event) → On part (Resizes len) (held_after start past) (held_after start (event.Resize part len ∷ past))
resizes Store len start past = (refl, refl)
resizes Journal len start past = (refl, refl)

pub resized_so : (part : Part) (len : ℕ) (start : Both) (events later : List Event) → later ≡ events ++ event.Resize part len ∷ []
    → On part (Resizes len) (held_after start (reverse events)) (held_after start (reverse later))
resized_so part len start events later pushed =
    subst (λ (l : List Event). On part (Resizes len) (held_after start (reverse events)) (held_after start l)) (sym (is_past start events later (event.Resize part len) pushed))
    (resizes part len start (reverse events))

all_fits : (old : List ℕ) (at : ℕ) (bytes : List ℕ) → at + length bytes ≤ length old → splice old at (fitting old at bytes) ≡ splice old at bytes
all_fits old at bytes within =
    let few : length bytes ≤ length old - at = omega (arith, within) in
    ap (λ (l : List ℕ). splice old at l) (take_all (length old - at) bytes few)

writes : (part : Part) (at : ℕ) (bytes : Vec ℕ) (start : Both) (past : List Event) → at + length bytes.items ≤ length (of part (held_after start past))
    → On part (Writes at bytes.items) (held_after start past) (held_after start (event.Write part at bytes ∷ past))
writes Store at bytes start past within = (all_fits (bytes_of Store start.store past) at bytes.items within, refl)
writes Journal at bytes start past within = (all_fits (bytes_of Journal start.journal past) at bytes.items within, refl)

pub written_so : (part : Part) (at : ℕ) (bytes : Vec ℕ) (start : Both) (events later : List Event) → later ≡ events ++ event.Write part at bytes ∷ []
    → at + length bytes.items ≤ length (of part (held_after start (reverse events)))
    → On part (Writes at bytes.items) (held_after start (reverse events)) (held_after start (reverse later))
written_so part at bytes start events later pushed within =
    subst (λ (l : List Event). On part (Writes at bytes.items) (held_after start (reverse events)) (held_after start l)) (sym (is_past start events later (event.Write part at bytes) pushed))
    (writes part at bytes start (reverse events) within)

-- a sync brings what is read to the disk
pub synced_so : (part : Part) (start : Both) (events later : List Event) → later ≡ events ++ event.Sync part ∷ [] → IsSynced part (seen_after start later)
synced_so part start events later pushed left may =
    let past = is_past start events later (event.Sync part) pushed in
    (subst (λ (l : List Event). Leaves start l left) past may).1
    ∙ sym (ap (λ (l : List Event). of part (held_after start l)) past)
