-- A meter is within the limits of its store.
use Rattle.std.proofs.Common.{◌≡◌, ℕ, zero, suc, ◌+◌, ◌-◌, ◌*◌, ◌≤◌, ◌<◌, min, Bool, List, [], ◌++◌, length, take, Some, None, Option, refl, sym, ap, subst, ◌∙◌, arith, length-append}
use Rattle.std.specs.Prelude.{IfSome}
use Rattle.std.specs.FinMap.{get}
use Rattle.std.proofs.lemmas.Grind.{div_ceil_times}
use Rattle.std.proofs.lemmas.List.{length-take-le}
use Rattle.fw_blocks.specs.Cuts.{block_start, block_end, block_count}
use Rattle.fw_blocks.specs.Laws.{CutSize}
use Rattle.fw_store.specs.Device.{Device, slot_bytes}
use Rattle.fw_store.specs.Slot.{other}
use Rattle.fw_store.specs.Header.{IsHeader, IsGoal}
use Rattle.fw_store.specs.Versions.{block_limit}
use Rattle.fw_store.specs.declared.slot.Slot.{Slot}
use Rattle.fw_store.specs.declared.header.Header.{Header}
use Rattle.fw_store.specs.declared.header.Goal.{Goal}
use Rattle.fw_verify.specs.Progress.{Progress}
use Rattle.fw_image.specs.Meter.{Cells, both, joined, goal_of}
use Rattle.fw_image.specs.Fits.{CellsFit, IsFit}
use Rattle.fw_image.specs.Stored.{phase_of, phase_at, blocks_below, cells_of, meter_at}
use Rattle.fw_image.proofs.Blocks.{block_there}
use Rattle.fw_image.proofs.Meters.{goal_again, goal_at}

-- ---- its blocks have their lengths

cell_size : CutSize → (b : ℕ) (marks : List Bool) (bytes : List ℕ) (n number : ℕ) (cell : List ℕ) → get (blocks_below b marks bytes n) number ≡ Some cell
    → length cell ≡ block_end b (length bytes) number - block_start b number
cell_size sizes b marks bytes n number cell there = ap length (sym (block_there b marks bytes n number cell there)) ∙ sizes b number bytes

cells_fit : CutSize → (capacity b : ℕ) (marks : List Bool) (spare : List ℕ) (goal : Goal) → length spare ≡ capacity → goal.size ≤ capacity → CellsFit b goal.size (cells_of b marks spare (Some goal))
cells_fit sizes capacity b marks spare goal sized fits number cell there =
    let size : length (take goal.size spare) ≡ goal.size = length-take-le goal.size spare (omega arith) in
    cell_size sizes b marks (take goal.size spare) (block_count b goal.size) number cell there ∙ ap (λ (n : ℕ). block_end b n number - block_start b number) size

pub fit_at : CutSize → (capacity : ℕ) (h : Header) (digesting : Option Progress) (d : Device) → IsHeader capacity h → ((slot : Slot) → length (slot_bytes d slot) ≡ capacity)
    → IsFit (meter_at capacity h digesting d)
fit_at sizes capacity h digesting d is sized = record {
  block_begins = is.block_size_begins;
  block_ends = is.block_size_ends;
  version = h.version;
  limited = refl;
  named = is.fields.running_name;
  goal = held;
  cells = λ goal e. subst (λ (g : Option Goal). CellsFit h.block_size goal.size (cells_of h.block_size h.marks (slot_bytes d (other h.running_slot)) g)) (sym (there goal e))
      (cells_fit sizes capacity h.block_size h.marks (slot_bytes d (other h.running_slot)) goal (sized (other h.running_slot)) (held goal e).fits);
}
  where
    there : (goal : Goal) → goal_of (phase_at digesting (phase_of h.status h.goal)) ≡ Some goal → h.goal ≡ Some goal
    there goal e = sym (goal_again h.status h.goal is.goal_by_status) ∙ sym (goal_at digesting (phase_of h.status h.goal)) ∙ e

    held : (goal : Goal) → goal_of (phase_at digesting (phase_of h.status h.goal)) ≡ Some goal → IsGoal (block_limit h.version) capacity h.block_size h.running_name.release goal
    held goal e = subst (λ (g : Option Goal). IfSome g (IsGoal (block_limit h.version) capacity h.block_size h.running_name.release)) (there goal e) is.goal

-- ---- together they have the image's size

one_more : (n b size : ℕ) → min (n * b) size + (min ((n + 1) * b) size - n * b) ≡ min (suc n * b) size
one_more n b size = omega arith

length-joined : (b size : ℕ) (cells : Cells) → CellsFit b size cells → (n : ℕ) (x : List ℕ) → joined cells n ≡ Some x → length x ≡ min (n * b) size
length-joined b size cells fit zero x e = let none : [] ≡ x = cc in let l = ap length none in omega arith
length-joined b size cells fit (suc n) x e = go (joined cells n) refl (get cells n) refl (length-joined b size cells fit n) e
  where
    go : (front : Option (List ℕ)) → joined cells n ≡ front → (cell : Option (List ℕ)) → get cells n ≡ cell
        → ((y : List ℕ) → joined cells n ≡ Some y → length y ≡ min (n * b) size) → both front cell ≡ Some x → length x ≡ min (suc n * b) size
    go (Some y) p (Some z) q h j =
        let parts : y ++ z ≡ x = cc in
        let l = ap length parts in
        let sum = length-append y z in
        let front = h y p in
        let last = fit n z q in
        let more = one_more n b size in
        omega arith
    go (Some y) p None q h j = cc
    go None p cell q h j = cc

pub joined_size : (b size : ℕ) (cells : Cells) (x : List ℕ) → 1 ≤ b → CellsFit b size cells → joined cells (block_count b size) ≡ Some x → length x ≡ size
joined_size b size cells x some fit e =
    let j = length-joined b size cells fit (block_count b size) x e in
    let first : 0 < b = omega arith in
    let covered : size ≤ block_count b size * b = (div_ceil_times size b first).0 in
    omega arith
