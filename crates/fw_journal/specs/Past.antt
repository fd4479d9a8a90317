-- Public vocabulary: what a device in memory holds, and what a power cut may leave of it.
use Rattle.std.specs.Prelude.{◌≡◌, ◌⊎◌, ◌+◌, ◌<◌, ℕ, List, [], ◌∷◌, All, cond, nat_lt, min, length, take, drop}
use mathlib.Core.Logic.{inl, inr}
use Rattle.fw_journal.specs.Device.{splice, IsTorn, IsShortened}
use Rattle.fw_journal.specs.declared.disk.Change.{Change}
use Rattle.fw_journal.specs.declared.disk.Change.TheVariants.{Write, Shorten}

-- what reads give, what they gave at the last sync, and how that was changed since then
pub record Held : Type 0 where
  pub bytes : List ℕ
  pub synced : List ℕ
  pub changes : List Change

-- what may be left of one change
abbrev pub LeavesOf : Change → List ℕ → List ℕ → Type 0
LeavesOf (Write at size) old new = IsTorn at size old new
LeavesOf (Shorten len) old new = IsShortened len old new

-- what may be left of several, in their order
abbrev pub LeavesOfAll : List Change → List ℕ → List ℕ → Type 0
LeavesOfAll [] old new = new ≡ old
LeavesOfAll (change ∷ changes) old new = (between : List ℕ) × LeavesOf change old between × LeavesOfAll changes between new

-- a power cut leaves what is read, or what may be left of the changes since the last sync
abbrev pub MayLeave : Held → List ℕ → Type 0
MayLeave held left = (left ≡ held.bytes) ⊎ LeavesOfAll held.changes held.synced left

-- ---- what is left by a choice

-- What is left of a change that has this fate: of a write the first bytes of it, in the front of its range, and what was there in the
-- rest; of a shortening as many bytes past its length as it has. A write after the end leaves what was there.
abbrev pub fated : Change → List ℕ → List ℕ → List ℕ
fated (Write at size) fate old = cond (nat_lt (length old) at) old (splice old at (take size fate))
fated (Shorten len) fate old = take (min len (length old) + length fate) old

-- the first fate, which is empty if there is none
abbrev pub first_fate : List (List ℕ) → List ℕ
first_fate [] = []
first_fate (fate ∷ fates) = fate

-- what is left of several changes, of which each has the next fate
abbrev pub fated_all : List Change → List (List ℕ) → List ℕ → List ℕ
fated_all [] fates old = old
fated_all (change ∷ changes) fates old = fated_all changes (drop 1 fates) (fated change (first_fate fates) old)

-- what a power cut leaves of the changes since the last sync where they have these fates
abbrev pub cut_of : Held → List (List ℕ) → List ℕ
cut_of held fates = fated_all held.changes fates held.synced

-- each is a byte
abbrev pub AreBytes : List ℕ → Type 0
AreBytes bytes = All (λ b. b < 256) bytes

-- the changes since the last sync have fates of which a power cut leaves these bytes
pub record IsCut (held : Held) (left : List ℕ) : Type 0 where
  pub fates : List (List ℕ)
  pub are_bytes : All AreBytes fates
  pub left_is : left ≡ cut_of held fates

-- ---- since when

-- at one of these moments a power cut might have left this
abbrev pub MightHaveLeft : List Held → List ℕ → Type 0
MightHaveLeft [] left = ⊥
MightHaveLeft (held ∷ past) left = MayLeave held left ⊎ MightHaveLeft past left

-- it may leave this now, or might have at one of the past moments from this one on
abbrev pub IsSince : List Held → Held → ℕ → List ℕ → Type 0
IsSince past held since left = MayLeave held left ⊎ MightHaveLeft (drop since past) left

none_left : (past : List Held) (c : List ℕ) → MightHaveLeft (drop (length past) past) c → ⊥
none_left [] c had = had
none_left (v ∷ past) c had = none_left past c had

-- since the last of the past moments there is this one alone
pub only_now : (past : List Held) (held : Held) (c : List ℕ) → IsSince past held (length past) c → MayLeave held c
only_now past held c (inl now) = now
only_now past held c (inr had) = absurd (none_left past c had)
