-- Writes of a block are the steps of a meter.
use Rattle.std.proofs.Common.{cond, ◌≡◌, ◌≢◌, ℕ, ◌+◌, ◌*◌, ◌<◌, ◌≤◌, ◌||◌, ◌==◌, Bool, true, false, IsTrue, List, length, take, drop, slice_range, Some, None, Option, ◌⊎◌, inl, inr, refl, sym, ap, subst, ◌∙◌, arith}
use Rattle.std.specs.Prelude.{IfSome, is_some}
use Rattle.std.specs.FinMap.{insert, get}
use Rattle.std.proofs.lemmas.List.{length-take-le}
use Rattle.sha2.specs.Sha256.{sha256}
use Rattle.fw_blocks.specs.Cuts.{cut, block_start, block_end, block_count}
use Rattle.fw_blocks.specs.Members.{has}
use Rattle.fw_blocks.specs.Laws.{OtherBlocksStay, BeginsWithin}
use Rattle.fw_store.specs.Device.{Device, slot_bytes, written, splice, Torn}
use Rattle.fw_store.specs.Faults.{Keeps}
use Rattle.fw_store.specs.Fuse.{half_torn}
use Rattle.fw_store.specs.Layout.{header_bytes}
use Rattle.fw_store.specs.StoreLaws.{SpliceStands, TornSize}
use Rattle.fw_store.specs.Slot.{other}
use Rattle.fw_store.specs.Header.{IsHeader, IsGoal, FieldsFit, goal_count, is_verified}
use Rattle.fw_store.specs.Versions.{block_limit}
use Rattle.fw_store.specs.declared.header.StoredStatus.TheVariants as kept
use Rattle.fw_image.specs.declared.status.TransferStatus.TheVariants.{Initiated, VerificationSuccessful}
use Rattle.std.proofs.lemmas.Bool.Decides.{nat_tests}
use Rattle.fw_store.specs.declared.slot.Slot.{Slot}
use Rattle.fw_store.specs.declared.slot.Slot.TheVariants.{First, Second}
use Rattle.fw_store.specs.declared.header.Header.{Header}
use Rattle.fw_store.specs.Known.{Known}
use Rattle.fw_store.specs.declared.header.Goal.{Goal}
use Rattle.fw_image.specs.Meter.{Meter, Phase, receiving, status_of}
use Rattle.fw_image.specs.Calls.{calls_for, left_by_fault}
use Rattle.fw_image.specs.Shown.{shown_of}
use Rattle.fw_image.specs.Step.{IsBlock, Admits, Serves, Leaves, Tears, block, with_cell}
use Rattle.fw_verify.specs.Progress.{Progress}
use Rattle.fw_image.specs.Stored.{phase_of, cells_of, blocks_below, meter_of, seen, IsHeld, IsHolding}
use Rattle.fw_image.specs.Moves.{IsPlace}
use Rattle.fw_image.proofs.Blocks.{blocks_put, blocks_kept, get_marked, is_some-get, mark_again}
use Rattle.fw_image.proofs.Meters.{SameSlots, shown_is, seen_real, status_kept}
use Rattle.fw_image.proofs.Moves.{leaves}

-- ---- the cuts of an image into which a block was written

pub record Cuts (b size number start : ℕ) (bytes value : List ℕ) : Type 0 where
  pub some : 1 ≤ b
  pub size_is : length bytes ≡ size
  pub is_block : IsBlock b size number value
  pub begins : start ≡ block_start b number

block_ends : BeginsWithin → (b size number start : ℕ) (bytes value : List ℕ) → Cuts b size number start bytes value → start + length value ≡ block_end b size number
block_ends law b size number start bytes value is =
    let within : number * b < size = (law b number size is.some).0 is.is_block.below in
    let next : (number + 1) * b ≡ number * b + b = omega arith in
    omega (arith, is.is_block.long, is.begins)

block_fits : BeginsWithin → (b size number start : ℕ) (bytes value : List ℕ) → Cuts b size number start bytes value → start + length value ≤ length bytes
block_fits law b size number start bytes value is = omega (arith, block_ends law b size number start bytes value is, is.size_is)

cut_here : BeginsWithin → SpliceStands → (b size number start : ℕ) (bytes value : List ℕ) → Cuts b size number start bytes value → cut b (splice bytes start value) number ≡ value
cut_here law stand b size number start bytes value is =
    let fits = block_fits law b size number start bytes value is in
    let ends = block_ends law b size number start bytes value is in
    let same : length (splice bytes start value) ≡ size = (stand bytes start value fits).size ∙ is.size_is in
    let to : block_end b (length (splice bytes start value)) number ≡ start + length value = ap (λ (n : ℕ). block_end b n number) same ∙ sym ends in
    ap (λ (from : ℕ). slice_range (splice bytes start value) from (block_end b (length (splice bytes start value)) number)) (sym is.begins)
    ∙ ap (slice_range (splice bytes start value) start) to
    ∙ (stand bytes start value fits).there

cut_elsewhere : OtherBlocksStay → BeginsWithin → SpliceStands → (b size number start : ℕ) (bytes value : List ℕ) → Cuts b size number start bytes value
    → (k : ℕ) → k ≢ number → cut b (splice bytes start value) k ≡ cut b bytes k
cut_elsewhere stay law stand b size number start bytes value is k apart =
    let fits = block_fits law b size number start bytes value is in
    let ends = block_ends law b size number start bytes value is in
    let to : block_end b (length bytes) number ≡ start + length value = ap (λ (n : ℕ). block_end b n number) is.size_is ∙ sym ends in
    let before : take (block_start b number) (splice bytes start value) ≡ take (block_start b number) bytes =
    ap (λ (n : ℕ). take n (splice bytes start value)) (sym is.begins) ∙ (stand bytes start value fits).before ∙ ap (λ (n : ℕ). take n bytes) is.begins in
    let behind : drop (block_end b (length bytes) number) (splice bytes start value) ≡ drop (block_end b (length bytes) number) bytes =
    rw to (stand bytes start value fits).behind in
    stay b number k bytes (splice bytes start value) before behind apart

-- ---- the cells of a slot into which it was written

-- a block of this goal, and a slot that it fits
pub record Put (capacity : ℕ) (h : Header) (spare : List ℕ) (goal : Goal) (number start : ℕ) (value : List ℕ) : Type 0 where
  pub valid : IsHeader capacity h
  pub there : h.goal ≡ Some goal
  pub is_goal : IsGoal (block_limit h.version) capacity h.block_size h.running_name.release goal
  pub room : length spare ≡ capacity
  pub is_block : IsBlock h.block_size goal.size number value
  pub begins : start ≡ block_start h.block_size number

pub is_put : (capacity : ℕ) (h : Header) (spare : List ℕ) (number start : ℕ) (value : List ℕ) → IsHeader capacity h → length spare ≡ capacity → (place : IsPlace h number value start) → Put capacity h spare place.goal number start value
is_put capacity h spare number start value valid room place = record {
  valid = valid;
  there = place.there;
  is_goal = subst (λ (g : Option Goal). IfSome g (IsGoal (block_limit h.version) capacity h.block_size h.running_name.release)) place.there valid.goal;
  room = room;
  is_block = place.is_block;
  begins = place.begins;
}

front_cuts : (capacity : ℕ) (h : Header) (spare : List ℕ) (goal : Goal) (number start : ℕ) (value : List ℕ) → Put capacity h spare goal number start value
    → Cuts h.block_size goal.size number start (take goal.size spare) value
front_cuts capacity h spare goal number start value put =
    let fits : goal.size ≤ capacity = put.is_goal.fits in
    record { some = put.valid.block_size_begins; size_is = length-take-le goal.size spare (omega (arith, put.room)); is_block = put.is_block; begins = put.begins }

front_after : BeginsWithin → SpliceStands → (capacity : ℕ) (h : Header) (spare : List ℕ) (goal : Goal) (number start : ℕ) (value : List ℕ) → Put capacity h spare goal number start value
    → take goal.size (splice spare start value) ≡ splice (take goal.size spare) start value
front_after law stand capacity h spare goal number start value put =
    let cuts = front_cuts capacity h spare goal number start value put in
    let fits : goal.size ≤ capacity = put.is_goal.fits in
    let within : start + length value ≤ length (take goal.size spare) = block_fits law h.block_size goal.size number start (take goal.size spare) value cuts in
    let inside : start + length value ≤ length spare = omega (arith, cuts.size_is, put.room) in
    (stand spare start value inside).front goal.size (omega (arith, cuts.size_is)) (omega (arith, put.room))

pub slot_fits : BeginsWithin → (capacity : ℕ) (h : Header) (spare : List ℕ) (goal : Goal) (number start : ℕ) (value : List ℕ) → Put capacity h spare goal number start value → start + length value ≤ capacity
slot_fits law capacity h spare goal number start value put =
    let cuts = front_cuts capacity h spare goal number start value put in
    let fits : goal.size ≤ capacity = put.is_goal.fits in
    let within : start + length value ≤ length (take goal.size spare) = block_fits law h.block_size goal.size number start (take goal.size spare) value cuts in
    omega (arith, cuts.size_is)

cells_put : OtherBlocksStay → BeginsWithin → SpliceStands → (capacity : ℕ) (h : Header) (spare : List ℕ) (goal : Goal) (number start : ℕ) (value : List ℕ) (marks : List Bool) → Put capacity h spare goal number start value
    → ((k : ℕ) → has marks k ≡ ((k == number) || has h.marks k)) → cells_of h.block_size marks (splice spare start value) (Some goal) ≡ insert (cells_of h.block_size h.marks spare (Some goal)) number value
cells_put stay law stand capacity h spare goal number start value marks put marked =
    let b = h.block_size in
    let cuts = front_cuts capacity h spare goal number start value put in
    ap (λ (l : List ℕ). blocks_below b marks l (block_count b goal.size)) (front_after law stand capacity h spare goal number start value put)
    ∙ blocks_put b number (block_count b goal.size) h.marks marks (take goal.size spare) (splice (take goal.size spare) start value) value put.is_block.below marked
    (cut_here law stand b goal.size number start (take goal.size spare) value cuts) (cut_elsewhere stay law stand b goal.size number start (take goal.size spare) value cuts)

cells_kept : OtherBlocksStay → BeginsWithin → SpliceStands → (capacity : ℕ) (h : Header) (spare : List ℕ) (goal : Goal) (number start : ℕ) (value : List ℕ) → Put capacity h spare goal number start value
    → has h.marks number ≡ false → cells_of h.block_size h.marks (splice spare start value) (Some goal) ≡ cells_of h.block_size h.marks spare (Some goal)
cells_kept stay law stand capacity h spare goal number start value put unmarked =
    let b = h.block_size in
    let cuts = front_cuts capacity h spare goal number start value put in
    ap (λ (l : List ℕ). blocks_below b h.marks l (block_count b goal.size)) (front_after law stand capacity h spare goal number start value put)
    ∙ blocks_kept b number (block_count b goal.size) h.marks (take goal.size spare) (splice (take goal.size spare) start value) unmarked (cut_elsewhere stay law stand b goal.size number start (take goal.size spare) value cuts)

-- ---- the meter of a device into whose spare slot it was written

-- the slots of a device after the write
pub record Wrote (h : Header) (start : ℕ) (value : List ℕ) (d d' : Device) : Type 0 where
  pub spare : slot_bytes d' (other h.running_slot) ≡ splice (slot_bytes d (other h.running_slot)) start value
  pub running : slot_bytes d' h.running_slot ≡ slot_bytes d h.running_slot

written_there : (d : Device) (slot : Slot) (at : ℕ) (bytes : List ℕ) → slot_bytes (written d slot at bytes) slot ≡ splice (slot_bytes d slot) at bytes
written_there d First at bytes = refl
written_there d Second at bytes = refl

written_elsewhere : (d : Device) (slot : Slot) (at : ℕ) (bytes : List ℕ) → slot_bytes (written d (other slot) at bytes) slot ≡ slot_bytes d slot
written_elsewhere d First at bytes = refl
written_elsewhere d Second at bytes = refl

pub wrote : (h : Header) (slot : Slot) (start : ℕ) (value : List ℕ) (d d' : Device) → slot ≡ other h.running_slot → d' ≡ written d slot start value → Wrote h start value d d'
wrote h slot start value d d' turned e = record {
  spare = rw (e, turned) (written_there d (other h.running_slot) start value);
  running = rw (e, turned) (written_elsewhere d h.running_slot start value);
}

pub wrote_then : (h : Header) (start : ℕ) (value : List ℕ) (d d' d'' : Device) → Wrote h start value d d' → SameSlots d' d'' → Wrote h start value d d''
wrote_then h start value d d' d'' is same = record { spare = same (other h.running_slot) ∙ is.spare; running = same h.running_slot ∙ is.running }

abbrev meter_with : (capacity : ℕ) → Header → Meter → List ℕ → Option Goal → List Bool → List ℕ → Meter
meter_with capacity h m running goal marks spare = record {
  block_size = h.block_size;
  capacity = capacity;
  limit = block_limit h.version;
  enabled = h.enabled;
  phase = phase_of h.status h.goal;
  cells = cells_of h.block_size marks spare goal;
  running = record { name = h.running_name; bytes = take h.running_size running };
}

pub meter_put : OtherBlocksStay → BeginsWithin → SpliceStands → (capacity : ℕ) (h : Header) (d d' : Device) (goal : Goal) (number start : ℕ) (value : List ℕ) (marks : List Bool)
    → Put capacity h (slot_bytes d (other h.running_slot)) goal number start value → ((k : ℕ) → has marks k ≡ ((k == number) || has h.marks k)) → Wrote h start value d d'
    → meter_of capacity (record h { marks = marks }) d' ≡ with_cell (meter_of capacity h d) number value
meter_put stay law stand capacity h d d' goal number start value marks put marked is =
    let spare = slot_bytes d (other h.running_slot) in
    let cells : cells_of h.block_size marks (slot_bytes d' (other h.running_slot)) h.goal ≡ insert (cells_of h.block_size h.marks spare h.goal) number value =
    ap (λ (l : List ℕ). cells_of h.block_size marks l h.goal) is.spare
    ∙ ap (cells_of h.block_size marks (splice spare start value)) put.there
    ∙ cells_put stay law stand capacity h spare goal number start value marks put marked
    ∙ sym (ap (λ (g : Option Goal). insert (cells_of h.block_size h.marks spare g) number value) put.there) in
    λ i. record {
      block_size = h.block_size;
      capacity = capacity;
      limit = block_limit h.version;
      enabled = h.enabled;
      phase = phase_of h.status h.goal;
      cells = cells i;
      running = record { name = h.running_name; bytes = take h.running_size (is.running i) };
    }

pub meter_kept : OtherBlocksStay → BeginsWithin → SpliceStands → (capacity : ℕ) (h : Header) (d d' : Device) (goal : Goal) (number start : ℕ) (value : List ℕ)
    → Put capacity h (slot_bytes d (other h.running_slot)) goal number start value → has h.marks number ≡ false → Wrote h start value d d'
    → meter_of capacity h d' ≡ meter_of capacity h d
meter_kept stay law stand capacity h d d' goal number start value put unmarked is =
    let spare = slot_bytes d (other h.running_slot) in
    let cells : cells_of h.block_size h.marks (slot_bytes d' (other h.running_slot)) h.goal ≡ cells_of h.block_size h.marks spare h.goal =
    ap (λ (l : List ℕ). cells_of h.block_size h.marks l h.goal) is.spare
    ∙ ap (cells_of h.block_size h.marks (splice spare start value)) put.there
    ∙ cells_kept stay law stand capacity h spare goal number start value put unmarked
    ∙ sym (ap (cells_of h.block_size h.marks spare) put.there) in
    λ i. record {
      block_size = h.block_size;
      capacity = capacity;
      limit = block_limit h.version;
      enabled = h.enabled;
      phase = phase_of h.status h.goal;
      cells = cells i;
      running = record { name = h.running_name; bytes = take h.running_size (is.running i) };
    }

-- ---- what a meter over a store that is honest or not does

sized_written : SpliceStands → (capacity : ℕ) (d : Device) (at : ℕ) (slot : Slot) (bytes : List ℕ) → ((s : Slot) → length (slot_bytes d s) ≡ capacity) → at + length bytes ≤ capacity → (s : Slot) → length (slot_bytes (written d slot at bytes) s) ≡ capacity
sized_written stand capacity d at First bytes sized fits First = (stand d.first at bytes (omega (arith, sized First))).size ∙ sized First
sized_written stand capacity d at First bytes sized fits Second = sized Second
sized_written stand capacity d at Second bytes sized fits First = sized First
sized_written stand capacity d at Second bytes sized fits Second = (stand d.second at bytes (omega (arith, sized Second))).size ∙ sized Second

-- the block is there
pub leaves_put : OtherBlocksStay → BeginsWithin → SpliceStands → (honest : Bool) (capacity : ℕ) (h : Header) (d d' : Device) (number start : ℕ) (value : List ℕ) (marks : List Bool)
    → IsHeader capacity h → IsHeader capacity (record h { marks = marks }) → ((s : Slot) → length (slot_bytes (seen honest capacity d) s) ≡ capacity) → ((s : Slot) → length (slot_bytes (seen honest capacity d') s) ≡ capacity)
    → IsPlace h number value start → ((k : ℕ) → has marks k ≡ ((k == number) || has h.marks k)) → (IsTrue honest → Wrote h start value d d')
    → Leaves honest (with_cell (meter_of capacity h (seen honest capacity d)) number value) (meter_of capacity (record h { marks = marks }) (seen honest capacity d'))
leaves_put stay law stand honest capacity h d d' number start value marks valid valid' sized sized' place marked is =
    let old = seen honest capacity d in
    let new = seen honest capacity d' in
    let virtual = written old (other h.running_slot) start value in
    let put = is_put capacity h (slot_bytes old (other h.running_slot)) number start value valid (sized (other h.running_slot)) place in
    let fits = slot_fits law capacity h (slot_bytes old (other h.running_slot)) place.goal number start value put in
    let stands = meter_put stay law stand capacity h old virtual place.goal number start value marks put marked (wrote h (other h.running_slot) start value old virtual refl refl) in
    let shown : shown_of (meter_of capacity (record h { marks = marks }) new) ≡ shown_of (meter_of capacity (record h { marks = marks }) virtual) =
    shown_is capacity (record h { marks = marks }) new valid' sized' ∙ sym (shown_is capacity (record h { marks = marks }) virtual valid' (sized_written stand capacity old start (other h.running_slot) value sized fits)) in
    record {
      shows = shown ∙ ap shown_of stands;
      is = λ b.
          let there : Wrote h start value old new = rw (seen_real honest capacity d b, seen_real honest capacity d' b) (is b) in
          meter_put stay law stand capacity h old new place.goal number start value marks put marked there;
    }

mark_or_not : (mark : Bool) → (mark ≡ true) ⊎ (mark ≡ false)
mark_or_not true = inl refl
mark_or_not false = inr refl

-- any bytes may be there
pub tears_put : OtherBlocksStay → BeginsWithin → SpliceStands → (honest : Bool) (capacity : ℕ) (h : Header) (d d' : Device) (slot : Slot) (number start : ℕ) (value : List ℕ)
    → IsHeader capacity h → ((s : Slot) → length (slot_bytes (seen honest capacity d) s) ≡ capacity) → IsPlace h number value start → slot ≡ other h.running_slot → (IsTrue honest → Torn d slot start (length value) d')
    → Tears honest (meter_of capacity h (seen honest capacity d)) number value (meter_of capacity h (seen honest capacity d'))
tears_put stay law stand false capacity h d d' slot number start value valid sized place turned torn = inl (leaves false _ _ refl)
tears_put stay law stand true capacity h d d' slot number start value valid sized place turned torn =
    let is = torn refl in
    let spare = slot_bytes d (other h.running_slot) in
    let place' : IsPlace h number is.left start = record {
      goal = place.goal;
      there = place.there;
      is_block = record { below = place.is_block.below; long = is.size ∙ place.is_block.long };
      begins = place.begins;
    } in
    let put = is_put capacity h spare number start is.left valid (sized (other h.running_slot)) place' in
    let there = wrote h slot start is.left d d' turned is.stands in
    elim (mark_or_not (has h.marks number)) [
      | inl marked ↦
          let cell = ap (λ (g : Option Goal). get (cells_of h.block_size h.marks spare g) number) place.there
          ∙ get_marked h.block_size h.marks (take place.goal.size spare) (block_count h.block_size place.goal.size) number place.is_block.below marked in
          inr (
            cut h.block_size (take place.goal.size spare) number,
            is.left,
            cell,
            is.size,
            leaves true _ _ (meter_put stay law stand capacity h d d' place.goal number start is.left h.marks put (mark_again h.marks number marked) there),
          )
      | inr unmarked ↦ inl (leaves true _ _ (meter_kept stay law stand capacity h d d' place.goal number start is.left put unmarked there))
    ]

-- its mark says whether the block is there
there_by_mark : (capacity : ℕ) (h : Header) (d : Device) (number start : ℕ) (value : List ℕ) → IsPlace h number value start
    → is_some (get (meter_of capacity h d).cells number) ≡ has h.marks number
there_by_mark capacity h d number start value place =
    let spare = slot_bytes d (other h.running_slot) in
    ap (λ (g : Option Goal). is_some (get (cells_of h.block_size h.marks spare g) number)) place.there
    ∙ is_some-get h.block_size h.marks (take place.goal.size spare) (block_count h.block_size place.goal.size) number place.is_block.below

-- what a write of a block left that failed half way
pub left_torn : OtherBlocksStay → BeginsWithin → SpliceStands → TornSize → (honest : Bool) (capacity : ℕ) (h : Header) (d d' : Device) (slot : Slot) (number start : ℕ) (value : List ℕ) (torn : ℕ)
    → IsHeader capacity h → ((s : Slot) → length (slot_bytes (seen honest capacity d) s) ≡ capacity) → IsPlace h number value start → slot ≡ other h.running_slot → IsTrue honest
    → d' ≡ written d slot start (half_torn value torn)
    → meter_of capacity h (seen honest capacity d') ≡ left_by_fault torn (meter_of capacity h (seen honest capacity d)) (block number value)
left_torn stay law stand half_size false capacity h d d' slot number start value torn valid sized place turned b e = absurd cc
left_torn stay law stand half_size true capacity h d d' slot number start value torn valid sized place turned b e =
    let spare = slot_bytes d (other h.running_slot) in
    let m = meter_of capacity h d in
    let place' : IsPlace h number (half_torn value torn) start = record {
      goal = place.goal;
      there = place.there;
      is_block = record { below = place.is_block.below; long = half_size value torn ∙ place.is_block.long };
      begins = place.begins;
    } in
    let put = is_put capacity h spare number start (half_torn value torn) valid (sized (other h.running_slot)) place' in
    let there = wrote h slot start (half_torn value torn) d d' turned e in
    let at = there_by_mark capacity h d number start value place in
    elim (mark_or_not (has h.marks number)) [
      | inl marked ↦
          meter_put stay law stand capacity h d d' place.goal number start (half_torn value torn) h.marks put (mark_again h.marks number marked) there
          ∙ sym (ap (λ (b : Bool). cond b (with_cell m number (half_torn value torn)) m) (at ∙ marked))
      | inr unmarked ↦
          meter_kept stay law stand capacity h d d' place.goal number start (half_torn value torn) put unmarked there
          ∙ sym (ap (λ (b : Bool). cond b (with_cell m number (half_torn value torn)) m) (at ∙ unmarked))
    ]

-- what is left where the block was written and not marked
pub left_unmarked : OtherBlocksStay → BeginsWithin → SpliceStands → (honest : Bool) (capacity : ℕ) (h : Header) (d d' : Device) (slot : Slot) (number start : ℕ) (value : List ℕ) (torn : ℕ)
    → IsHeader capacity h → ((s : Slot) → length (slot_bytes (seen honest capacity d) s) ≡ capacity) → IsPlace h number value start → slot ≡ other h.running_slot → IsTrue honest
    → has h.marks number ≡ false → d' ≡ written d slot start value
    → meter_of capacity h (seen honest capacity d') ≡ left_by_fault torn (meter_of capacity h (seen honest capacity d)) (block number value)
left_unmarked stay law stand false capacity h d d' slot number start value torn valid sized place turned b unmarked e = absurd cc
left_unmarked stay law stand true capacity h d d' slot number start value torn valid sized place turned b unmarked e =
    let m = meter_of capacity h d in
    let put = is_put capacity h (slot_bytes d (other h.running_slot)) number start value valid (sized (other h.running_slot)) place in
    meter_kept stay law stand capacity h d d' place.goal number start value put unmarked (wrote h slot start value d d' turned e)
    ∙ sym (ap (λ (b : Bool). cond b (with_cell m number (half_torn value torn)) m) (there_by_mark capacity h d number start value place ∙ unmarked))

pub served_block : (m : Meter) (goal : Goal) (number : ℕ) (value : List ℕ) → m.enabled ≡ true → m.phase ≡ receiving goal → IsBlock m.block_size goal.size number value → Serves m (block number value)
served_block m goal number value on phase is =
    let admits : Admits m (receiving goal) (block number value) = is in
    (on, subst (λ (p : Phase). Admits m p (block number value)) (sym phase) admits)

-- a block takes a second call if it is not marked
pub calls_put : (capacity : ℕ) (h : Header) (d : Device) (number start : ℕ) (value : List ℕ) → IsPlace h number value start
    → calls_for (meter_of capacity h d) (block number value) ≡ cond (has h.marks number) 1 2
calls_put capacity h d number start value place = ap (λ (b : Bool). cond b 1 2) (there_by_mark capacity h d number start value place)

pub one_or_two : (b : Bool) → 1 ≤ cond b 1 2
one_or_two true = omega arith
one_or_two false = omega arith

pub marks_in : (capacity : ℕ) (h : Header) (number start : ℕ) (value : List ℕ) → IsHeader capacity h → IsPlace h number value start → number < length h.marks
marks_in capacity h number start value valid place =
    let is_goal : IsGoal (block_limit h.version) capacity h.block_size h.running_name.release place.goal = subst (λ (g : Option Goal). IfSome g (IsGoal (block_limit h.version) capacity h.block_size h.running_name.release)) place.there valid.goal in
    let few : block_count h.block_size place.goal.size ≤ block_limit h.version = is_goal.most in
    let below : number < block_count h.block_size place.goal.size = place.is_block.below in
    let count : length h.marks ≡ block_limit h.version = valid.fields.marks in
    omega arith

beyond : (k number count : ℕ) (mark was : Bool) → mark ≡ ((k == number) || was) → number < count → count ≤ k → was ≡ false → mark ≡ false
beyond k number count mark was e below past none = grind (arith, nat_tests)

pub valid_marked : (capacity : ℕ) (h : Header) (number start : ℕ) (value : List ℕ) (marks : List Bool) → IsHeader capacity h → status_of (phase_of h.status h.goal) ≡ Initiated → IsPlace h number value start
    → ((k : ℕ) → has marks k ≡ ((k == number) || has h.marks k)) → FieldsFit (record h { marks = marks }) → IsHeader capacity (record h { marks = marks })
valid_marked capacity h number start value marks valid status place marked fits =
    let count : goal_count h.block_size h.goal ≡ block_count h.block_size place.goal.size = ap (goal_count h.block_size) place.there in
    let below : number < goal_count h.block_size h.goal = omega (arith, count, place.is_block.below) in
    let is : h.status ≡ kept.Initiated = status_kept h.status h.goal Initiated valid.goal_by_status status in
    record {
      fields = fits;
      block_size_begins = valid.block_size_begins;
      block_size_ends = valid.block_size_ends;
      running_size_begins = valid.running_size_begins;
      running_size_fits = valid.running_size_fits;
      goal_by_status = valid.goal_by_status;
      goal = valid.goal;
      unmarked = λ k past. beyond k number (goal_count h.block_size h.goal) (has marks k) (has h.marks k) (marked k) below past (valid.unmarked k past);
      marked = λ verified. let not : is_verified h.status ≡ false = ap is_verified is in absurd cc;
    }

-- ---- what is held

written_head : (d : Device) (slot : Slot) (at : ℕ) (bytes : List ℕ) → (written d slot at bytes).head ≡ d.head
written_head d First at bytes = refl
written_head d Second at bytes = refl

-- a write into a slot leaves the header
pub wrote_head : (d d' : Device) (slot : Slot) (at : ℕ) (bytes : List ℕ) → d' ≡ written d slot at bytes → d'.head ≡ d.head
wrote_head d d' slot at bytes e = ap (λ (x : Device). x.head) e ∙ written_head d slot at bytes

not_verified : (p : Phase) → status_of p ≡ Initiated → status_of p ≡ VerificationSuccessful → ⊥
not_verified p receives verified = let bad : Initiated ≡ VerificationSuccessful = sym receives ∙ verified in cc

-- while blocks are received, what is held stays so, whatever stands in the spare slot
pub holding_put : (s s' : Known) (h : Header) (marks : List Bool) (digesting : Option Progress) → digesting ≡ None → status_of (phase_of h.status h.goal) ≡ Initiated
    → Keeps s s' → IsHeader s.capacity (record h { marks = marks })
    → (IsTrue s.honest → header_bytes (record h { marks = marks }) ≡ s'.device.head)
    → (IsTrue s.honest → slot_bytes s'.device h.running_slot ≡ slot_bytes s.device h.running_slot)
    → IsHeld s h → IsHolding s' (record h { marks = marks }) digesting
holding_put s s' h marks digesting none status kept valid stored same held =
    let still : IsTrue s'.honest → IsTrue s.honest = λ b. sym kept.honesty ∙ b in
    rw none (record {
      held = record {
        valid = rw kept.size valid;
        stored = λ b. stored (still b);
        trusted = λ b. record {
          running = ap (λ (bytes : List ℕ). sha256 (take h.running_size bytes)) (same (still b)) ∙ (held.trusted (still b)).running;
          verified = λ verified. absurd (not_verified (phase_of h.status h.goal) status verified);
        };
      };
      digested = tt;
    })
