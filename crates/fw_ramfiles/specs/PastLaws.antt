-- What the laws of files in memory rest on.
use Rattle.std.specs.Prelude.{◌≡◌, ℕ, ◌+◌, ◌-◌, ◌≤◌, List, [], ◌∷◌, length, take, reverse}
use Rattle.std.proofs.Common.{refl, sym, ◌∙◌, ap, subst, inl, inr, arith}
use Rattle.std.proofs.lemmas.List.{length-take, take_all, take_min}
use Rattle.fw_cuts.specs.Sectors.{in_sector}
use Rattle.fw_cuts.specs.Both.{Both}
use Rattle.fw_cuts.specs.Cuts.{splice, Cuts}
use Rattle.fw_cuts.specs.declared.files.Part.{Part}
use Rattle.fw_cuts.specs.declared.files.Part.TheVariants.{Store, Journal}
use Rattle.fw_ramfiles.specs.declared.past.Event.{Event}
use Rattle.fw_ramfiles.specs.declared.past.Event.TheVariants as event
use Rattle.fw_ramfiles.specs.Past.{fitting, bytes_of, held_after, Step, IsBrought, Leaves, LeavesSince}

-- ---- what is read may be left

-- a write of which all sectors are there
cut_all : (at : ℕ) (bytes old : List ℕ) → Cuts at bytes old (splice old at (fitting old at bytes))
cut_all at bytes old =
    let room : ℕ = length old - at in
    let same : take (length (take room bytes)) bytes ≡ take room bytes = ap (λ (n : ℕ). take n bytes) (length-take room bytes) ∙ take_min room bytes in
    record {
      part = take room bytes;
      size = omega (arith, length-take room bytes);
      cut = λ k. inr (ap (λ (l : List ℕ). in_sector at k l) (sym same));
      stands = refl;
    }

pub step_made : (e : Event) (start : Both) (past : List Event) → Step e (held_after start past) (held_after start (e ∷ past))
step_made (event.Write Store at bytes) start past = (cut_all at bytes.items (bytes_of Store start.store past), refl)
step_made (event.Write Journal at bytes) start past = (cut_all at bytes.items (bytes_of Journal start.journal past), refl)
step_made (event.Resize Store len) start past = (inr refl, refl)
step_made (event.Resize Journal len) start past = (inr refl, refl)
step_made (event.Sync part) start past = refl

brought_after : (e : Event) (start : Both) (past : List Event) → IsBrought e (held_after start past) (held_after start (e ∷ past))
brought_after (event.Write part at bytes) start past = tt
brought_after (event.Resize part len) start past = tt
brought_after (event.Sync part) start past = refl

pub held_left : (start : Both) (past : List Event) → Leaves start past (held_after start past)
held_left start [] = refl
held_left start (e ∷ past) = ((held_after start past, held_left start past, step_made e start past), brought_after e start past)

-- ---- the moments

pub counts_now : (start : Both) (events : List Event) (since : ℕ) (left : Both) → since ≤ length events → Leaves start (reverse events) left → LeavesSince start events since left
counts_now start events since left le now = (
  length events,
  le,
  omega arith,
  subst (λ (l : List Event). Leaves start (reverse l) left) (sym (take_all (length events) events (omega arith))) now,
)

pub only_now : (start : Both) (events : List Event) (left : Both) → LeavesSince start events (length events) left → Leaves start (reverse events) left
only_now start events left had =
    let late : length events ≤ had.0 = had.1 in
    subst (λ (l : List Event). Leaves start (reverse l) left) (take_all had.0 events late) had.3
