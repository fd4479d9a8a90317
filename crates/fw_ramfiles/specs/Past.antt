-- Public vocabulary: what was done to files in memory, newest first, and what is read, or left by a power cut, after it.
use Rattle.std.specs.Prelude.{◌≡◌, ℕ, ◌≤◌, ◌-◌, Bool, true, false, if◌then◌else◌, List, [], ◌∷◌, length, take, reverse, ⊤}
use Rattle.fw_cuts.specs.Sectors.{resized}
use Rattle.fw_cuts.specs.Both.{Both, of, On}
use Rattle.fw_cuts.specs.Cuts.{Seen, Stays, splice, Cuts, MayResize}
use Rattle.fw_cuts.specs.declared.files.Part.{Part}
use Rattle.fw_cuts.specs.declared.files.Part.TheVariants.{Store, Journal}
use Rattle.fw_ramfiles.specs.declared.past.Event.{Event}
use Rattle.fw_ramfiles.specs.declared.past.Event.TheVariants as event

-- ---- what is read

abbrev pub same_part : Part → Part → Bool
same_part Store Store = true
same_part Store Journal = false
same_part Journal Store = false
same_part Journal Journal = true

-- the bytes of a write, as far as the file goes
abbrev pub fitting : List ℕ → ℕ → List ℕ → List ℕ
fitting old at bytes = take (length old - at) bytes

-- what an event makes of the bytes of a file
abbrev pub bytes_by : Event → Part → List ℕ → List ℕ
bytes_by (event.Write of at bytes) part old = if same_part of part then splice old at (fitting old at bytes.items) else old
bytes_by (event.Resize of len) part old = if same_part of part then resized old len else old
bytes_by (event.Sync of) part old = old

abbrev pub bytes_of : Part → List ℕ → List Event → List ℕ
bytes_of part first [] = first
bytes_of part first (event ∷ past) = bytes_by event part (bytes_of part first past)

abbrev pub held_after : Both → List Event → Both
held_after start past = record { store = bytes_of Store start.store past; journal = bytes_of Journal start.journal past }

-- ---- what a power cut leaves

-- what an event makes of what was left before it
abbrev pub Step : Event → Both → Both → Type 0
Step (event.Write part at bytes) = On part (Cuts at bytes.items)
Step (event.Resize part len) = On part (MayResize len)
Step (event.Sync part) = Stays

-- a sync leaves the bytes of the file that are read
abbrev pub IsBrought : Event → Both → Both → Type 0
IsBrought (event.Sync part) held left = of part left ≡ of part held
IsBrought _ held left = ⊤

abbrev pub Leaves : Both → List Event → Both → Type 0
Leaves start [] left = left ≡ start
Leaves start (event ∷ past) left = ((earlier : Both) × Leaves start past earlier × Step event earlier left) × IsBrought event (held_after start past) left

-- ---- the files, of which the events are given oldest first

-- at some moment from that one on
abbrev pub LeavesSince : Both → List Event → ℕ → Both → Type 0
LeavesSince start events since left = (moment : ℕ) × (since ≤ moment) × (moment ≤ length events) × Leaves start (reverse (take moment events)) left

abbrev pub seen_after : Both → List Event → Seen
seen_after start events = record {
  held = held_after start (reverse events);
  may_leave = λ left. Leaves start (reverse events) left;
  lost = λ part i. ⊥;
  moment = length events;
  left_since = λ since left. LeavesSince start events since left;
}
