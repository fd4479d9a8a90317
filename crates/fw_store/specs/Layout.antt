-- Public vocabulary: the bytes of a header (own format, versions 1 and 2). Numbers have the high byte first.
use Rattle.std.specs.Prelude.{ℕ, List, [], ◌∷◌, ◌++◌, Bool, if◌then◌else◌, Option, Some, None, is_some, replicate, take, drop}
use Rattle.std.specs.Int.{w32, to_be_bytes}
use Rattle.fw_axdr.specs.Bits.{packed}
use Rattle.fw_names.specs.Name.{Name, campaign_bytes}
use Rattle.fw_store.specs.Versions.{first_limit}
use Rattle.fw_store.specs.declared.slot.Slot.{Slot}
use Rattle.fw_store.specs.declared.slot.Slot.TheVariants.{First, Second}
use Rattle.fw_store.specs.declared.header.StoredStatus.{StoredStatus}
use Rattle.fw_store.specs.declared.header.StoredStatus.TheVariants.{NotInitiated, Initiated, VerificationSuccessful, VerificationFailed, ActivationSuccessful}
use Rattle.fw_store.specs.declared.version.HeaderVersion.{HeaderVersion}
use Rattle.fw_store.specs.declared.version.HeaderVersion.TheVariants.{One, Two}
use Rattle.fw_store.specs.declared.header.Goal.{Goal}
use Rattle.fw_store.specs.declared.header.Header.{Header}

-- `FWH1` or `FWH2`, which a header of this version begins with
abbrev pub form : HeaderVersion → List ℕ
form One = 0x46 ∷ 0x57 ∷ 0x48 ∷ 0x31 ∷ []
form Two = 0x46 ∷ 0x57 ∷ 0x48 ∷ 0x32 ∷ []

-- the byte of a flag
abbrev pub flag : Bool → ℕ
flag is_set = if is_set then 1 else 0

-- the byte of a slot
abbrev pub slot_number : Slot → ℕ
slot_number First = 0
slot_number Second = 1

-- the byte of a status: its number in the standard (IEC 62056-6-2, Image transfer: image_transfer_status)
abbrev pub status_number : StoredStatus → ℕ
status_number NotInitiated = 0
status_number Initiated = 1
status_number VerificationSuccessful = 3
status_number VerificationFailed = 4
status_number ActivationSuccessful = 6

-- the 41 bytes of a name, whatever its release: 01, its campaign, and its digest
abbrev pub stored_name_bytes : Name → List ℕ
stored_name_bytes name = 1 ∷ (campaign_bytes name.campaign ++ name.digest)

-- a goal: its size in four bytes, and its name in 41; zeros if there is none
abbrev pub goal_bytes : Option Goal → List ℕ
goal_bytes None = replicate 45 0
goal_bytes (Some goal) = to_be_bytes w32 goal.size ++ stored_name_bytes goal.name

-- the release of a goal, 0 if there is none
abbrev pub goal_release : Option Goal → ℕ
goal_release None = 0
goal_release (Some goal) = goal.name.release

-- the bytes of a header, 622 in version 1 and 2,158 in version 2: the form; whether transfer is enabled, the running slot, the status and
-- whether there is a goal, a byte each; the block size and the running size in four bytes each; the running name; the goal; a bit for each
-- of the first 4,096 blocks, number 0 first; the releases of the running name and of the goal, in four bytes each; and a bit for each other
-- block, of which version 1 has none
unfoldable pub header_bytes : Header → List ℕ
header_bytes h =
    form h.version
    ++ (flag h.enabled ∷ slot_number h.running_slot ∷ status_number h.status ∷ flag (is_some h.goal) ∷ [])
    ++ to_be_bytes w32 h.block_size
    ++ to_be_bytes w32 h.running_size
    ++ stored_name_bytes h.running_name
    ++ goal_bytes h.goal
    ++ packed (take first_limit h.marks)
    ++ to_be_bytes w32 h.running_name.release
    ++ to_be_bytes w32 (goal_release h.goal)
    ++ packed (drop first_limit h.marks)
