-- Public vocabulary: the laws of header writes over files that may be cut.
use Rattle.std.specs.Prelude.{◌≡◌, ℕ, List, length}
use Rattle.fw_cuts.specs.Both.{Both}
use Rattle.fw_cuts.specs.Cuts.{Seen, Goes}
use Rattle.fw_cuts.specs.Rest.{IsOldOrNew, IsRecovered}
use Rattle.fw_store.specs.StoreBytes.{IsStore, device_at}
use Rattle.fw_store.specs.Versions.{header_size}
use Rattle.fw_store.specs.declared.version.HeaderVersion.{HeaderVersion}
use Rattle.fw_whole.specs.Whole.{header_write, IsResting, IsFoundWhole}

-- of files that make a header write of a store, from rest: whatever a cut left at some moment from the first one of the write on, what an
-- opening makes of it is the store as before the write, or with all of the new header and the slots as they were read, unless by chance
abbrev pub EachCutIsWhole : {F : Type 0} → (F → Seen) → Type 0
EachCutIsWhole {F} seen =
    (version : HeaderVersion) (capacity : ℕ) (header : List ℕ) (old new : F) (left : Both) (made : List ℕ) → length header ≡ header_size version
    → IsResting capacity (seen old) → Goes (IsOldOrNew (seen old).held (header_write capacity header (seen old).held.store)) (seen old) (seen new)
    → (seen new).left_since (seen old).moment left → IsRecovered left.journal left.store made
    → IsFoundWhole capacity header (seen old) left made

-- of files at rest: whatever a cut leaves, what an opening makes of it is a store with the header that is read, all of it
abbrev pub HeaderStaysAtRest : {F : Type 0} → (F → Seen) → Type 0
HeaderStaysAtRest {F} seen =
    (capacity : ℕ) (now : F) (left : Both) (made : List ℕ) → IsResting capacity (seen now) → (seen now).may_leave left → IsRecovered left.journal left.store made
    → IsStore made capacity × ((device_at capacity made).head ≡ (device_at capacity (seen now).held.store).head)
