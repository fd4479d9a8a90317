-- What an opening finds of a header write that was cut.
use Rattle.std.proofs.Common.{◌≡◌, ◌⊎◌, ◌+◌, ◌≤◌, inl, inr, ⊎_elim, ℕ, List, length, take, drop, sym, ap, subst, ◌∙◌, arith, length-drop}
use Rattle.std.proofs.lemmas.List.{length-take-le, take-append-drop}
use Rattle.fw_cuts.specs.Sectors.{after_of}
use Rattle.fw_cuts.specs.Both.{Both}
use Rattle.fw_cuts.specs.Cuts.{Seen, Goes}
use Rattle.fw_cuts.specs.Rest.{write_on, IsAtRest, IsChance, IsOldOrNew, IsRecovered}
use Rattle.fw_store.specs.Device.{with_head}
use Rattle.fw_store.specs.StoreBytes.{IsStore, device_at, old_store_size}
use Rattle.fw_store.specs.Versions.{header_size}
use Rattle.fw_store.specs.declared.version.HeaderVersion.{HeaderVersion}
use Rattle.fw_whole.specs.Whole.{header_write, IsResting, IsWhole, IsFoundWhole}
use Rattle.fw_whole.proofs.Stores.{store_within, some_behind, device_headed, store_headed, store_left, head_left}

-- an opening leaves what a cut left of files at rest
pub quiet_left : (from to : ℕ) (seen : Seen) (left : Both) (made : List ℕ) → IsAtRest from to seen → seen.may_leave left → IsRecovered left.journal left.store made
    → made ≡ left.store
quiet_left from to seen left made rest may found =
    rest.quiet left.store made (rest.outside left may) (subst (λ (l : List ℕ). IsRecovered l left.store made) (rest.journal left may) found)

-- so it finds the header
pub header_stays : (capacity : ℕ) (now : Seen) (left : Both) (made : List ℕ) → IsResting capacity now → now.may_leave left → IsRecovered left.journal left.store made
    → IsStore made capacity × ((device_at capacity made).head ≡ (device_at capacity now.held.store).head)
header_stays capacity now left made is may found =
    let same = quiet_left 618 (old_store_size capacity) now left made is.rest may found in
    let outside = is.rest.outside left may in (
      subst (λ (l : List ℕ). IsStore l capacity) (sym same) (store_left capacity now.held.store left.store outside is.is),
      ap (λ (l : List ℕ). (device_at capacity l).head) same ∙ head_left capacity now.held.store left.store outside,
    )

-- ---- a header write

-- nothing of it
pub as_before : (capacity : ℕ) (header : List ℕ) (old : Seen) (left : Both) (made : List ℕ) → IsResting capacity old → old.may_leave left → made ≡ left.store
    → IsWhole capacity header old made
as_before capacity header old left made is may same =
    let outside = is.rest.outside left may in
    record {
      is = subst (λ (l : List ℕ). IsStore l capacity) (sym same) (store_left capacity old.held.store left.store outside is.is);
      device = inl (record {
        earlier = left;
        left = may;
        same = same;
        head = ap (λ (l : List ℕ). (device_at capacity l).head) same ∙ head_left capacity old.held.store left.store outside;
      });
    }

-- all of it
pub new_device : (version : HeaderVersion) (capacity : ℕ) (header store made : List ℕ) → length header ≡ header_size version → IsStore store capacity
    → made ≡ after_of (header_write capacity header store) store → device_at capacity made ≡ with_head (device_at capacity store) header
new_device version capacity header store made size is new =
    let some = some_behind version (length header) size in
    let front : length (take 614 header) ≡ 614 = length-take-le 614 header (omega arith) in
    let behind = length-drop 614 header in
    ap (device_at capacity) new
    ∙ device_headed capacity store (take 614 header) (drop 614 header) front (omega arith) (store_within capacity store is)
    ∙ ap (with_head (device_at capacity store)) (take-append-drop 614 header)

pub new_store : (version : HeaderVersion) (capacity : ℕ) (header store made : List ℕ) → length header ≡ header_size version → IsStore store capacity
    → made ≡ after_of (header_write capacity header store) store → IsStore made capacity
new_store version capacity header store made size is new =
    let some = some_behind version (length header) size in
    let front : length (take 614 header) ≡ 614 = length-take-le 614 header (omega arith) in
    let behind = length-drop 614 header in
    let all : 614 + length (drop 614 header) ≡ header_size version = omega arith in
    subst (λ (l : List ℕ). IsStore l capacity) (sym new) (store_headed version capacity store (take 614 header) (drop 614 header) front all is)

pub as_after : (version : HeaderVersion) (capacity : ℕ) (header : List ℕ) (old : Seen) (made : List ℕ) → length header ≡ header_size version → IsResting capacity old
    → made ≡ after_of (header_write capacity header old.held.store) old.held.store → IsWhole capacity header old made
as_after version capacity header old made size is new = record {
  is = new_store version capacity header old.held.store made size is.is new;
  device = inr (new_device version capacity header old.held.store made size is.is new);
}

stepped : (version : HeaderVersion) (capacity : ℕ) (header : List ℕ) (old : Seen) (earlier left : Both) (made : List ℕ) → length header ≡ header_size version → IsResting capacity old
    → old.may_leave earlier
    → (made ≡ earlier.store) ⊎ (made ≡ after_of (header_write capacity header old.held.store) old.held.store) ⊎ IsChance old.held.journal (header_write capacity header old.held.store) left.journal
    → IsFoundWhole capacity header old left made
stepped version capacity header old earlier left made size is may step = elim step [
  | inl same ↦ inl (as_before capacity header old earlier made is may same)
  | inr other ↦ elim other [
    | inl new ↦ inl (as_after version capacity header old made size is new)
    | inr chance ↦ inr chance
  ]
]

pub each_cut : (version : HeaderVersion) (capacity : ℕ) (header : List ℕ) (old new : Seen) (left : Both) (made : List ℕ) → length header ≡ header_size version → IsResting capacity old
    → ((left : Both) → old.left_since old.moment left → old.may_leave left)
    → Goes (IsOldOrNew old.held (header_write capacity header old.held.store)) old new → new.left_since old.moment left → IsRecovered left.journal left.store made
    → IsFoundWhole capacity header old left made
each_cut version capacity header old new left made size is only goes since found =
    let now : old.moment ≤ old.moment = omega arith in
    ⊎_elim
    (λ had. inl (as_before capacity header old left made is (only left had) (quiet_left 618 (old_store_size capacity) old left made is.rest (only left had) found)))
    (λ x. stepped version capacity header old x.0 left made size is x.1 (x.2 made found))
    (goes.meanwhile old.moment left now since)

-- the write that is made of the bytes of a header
pub same_write : (capacity : ℕ) (header bytes front last store : List ℕ) (at : ℕ) → front ≡ take 614 bytes → last ≡ drop 614 bytes → bytes ≡ header → at ≡ old_store_size capacity
    → write_on store 4 front at last ≡ header_write capacity header store
same_write capacity header bytes front last store at begins ends whole here =
    let first : front ≡ take 614 header = begins ∙ ap (take 614) whole in
    let behind : last ≡ drop 614 header = ends ∙ ap (drop 614) whole in
    λ i. write_on store 4 (first i) (here i) (behind i)
