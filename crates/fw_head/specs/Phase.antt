-- Public vocabulary: the table of a row's phases. What a tick asks in each phase, and where a matched answer leads
-- (IEC 62056-6-2, Image transfer, procedure; the phases are own).
use Rattle.std.specs.Prelude.{◌≡◌, ℕ, ◌==◌, ◌<◌, ◌≤◌, ◌⊎◌, Bool, true, false, List, [], ◌∷◌, map, length, replicate, Some, if◌then◌else◌}
use Rattle.fw_names.specs.Name.{Name}
use Rattle.fw_blocks.specs.Cuts.{Partition, cut, block_count, IsWithinLimits}
use Rattle.fw_blocks.specs.Members.{first_missing, window}
use Rattle.fw_apdu.specs.Cosem.{success, temporary_failure, transfer_initiated, verification_initiated, verification_successful}
use Rattle.fw_client.specs.Ask as ask
use Rattle.fw_client.specs.declared.ask.Asked.TheVariants as asked
use Rattle.fw_client.specs.declared.heard.Heard.{Heard}
use Rattle.fw_client.specs.declared.heard.Heard.TheVariants as heard
use Rattle.fw_book.specs.declared.phase.Phase.{Phase}
use Rattle.fw_book.specs.declared.phase.Phase.TheVariants as phase
use Rattle.fw_head.specs.declared.stage.Stage.{Stage}
use Rattle.fw_head.specs.declared.stage.Stage.TheVariants.{Size, Enable, Start, Blocks, Check, Gaps, Verify, Poll, Info, Activate, Confirm, Done, Failed}
use Rattle.fw_head.specs.declared.answers.Step.{Step}
use Rattle.fw_head.specs.declared.answers.Step.TheVariants.{Stay, Took, Move, Return, Fail}

-- the phase without what is known in it
abbrev pub phase_of : Stage → Phase
phase_of Size = phase.Size
phase_of (Enable g) = phase.Enable
phase_of (Start g) = phase.Start
phase_of (Blocks g known) = phase.Blocks
phase_of (Check g) = phase.Check
phase_of (Gaps g) = phase.Gaps
phase_of (Verify g) = phase.Verify
phase_of (Poll g) = phase.Poll
phase_of (Info g) = phase.Info
phase_of (Activate g) = phase.Activate
phase_of (Confirm g) = phase.Confirm
phase_of (Done claim) = phase.Done
phase_of (Failed why) = phase.Failed

-- the row has not ended
abbrev pub IsLive : Stage → Type 0
IsLive (Done claim) = ⊥
IsLive (Failed why) = ⊥
IsLive stage = Unit {0}

-- the row is done, or was given up
abbrev pub has_ended : Stage → Bool
has_ended (Done claim) = true
has_ended (Failed why) = true
has_ended stage = false

-- whether a tick asks to activate the image: in no other phase it does
abbrev pub activates : Stage → Bool
activates (Activate g) = true
activates stage = false

-- ---- what a tick asks

-- the transfer of a block
abbrev pub block_ask : List ℕ → Partition → ℕ → ask.Ask
block_ask image g number = ask.block number (cut g.block_size image number)

-- one thing in each phase, in Blocks the next window of blocks, and nothing once the row ended
abbrev pub asks_in : Name → ℕ → List ℕ → ℕ → Stage → List ask.Ask
asks_in name size image width Size = ask.block_size ∷ []
asks_in name size image width (Enable g) = ask.enable ∷ []
asks_in name size image width (Start g) = ask.initiate name size ∷ []
asks_in name size image width (Blocks g known) = map (block_ask image g) (window known width)
asks_in name size image width (Check g) = ask.first_missing ∷ []
asks_in name size image width (Gaps g) = ask.blocks ∷ []
asks_in name size image width (Verify g) = ask.verify ∷ []
asks_in name size image width (Poll g) = ask.status ∷ []
asks_in name size image width (Info g) = ask.info ∷ []
asks_in name size image width (Activate g) = ask.activate ∷ []
asks_in name size image width (Confirm g) = ask.active_name ∷ []
asks_in name size image width (Done claim) = []
asks_in name size image width (Failed why) = []

-- A row that asks first which image runs asks at once which blocks the meter has, since what runs may have no name by which it is heard.
abbrev pub asks_first_in : Name → ℕ → List ℕ → ℕ → Stage → Bool → List ask.Ask
asks_first_in name size image width (Confirm g) true = ask.active_name ∷ ask.blocks ∷ []
asks_first_in name size image width stage asks_first = asks_in name size image width stage

-- ---- where an answer leads

-- how many blocks the image has
abbrev pub count : Partition → ℕ
count g = block_count g.block_size g.size

-- no block is known
abbrev pub none_known : Partition → List Bool
none_known g = replicate (count g) false

-- the stage of a row that knows these blocks: if none is missing, the meter is asked whether it has them all
abbrev pub with_known : Partition → List Bool → Stage
with_known g known = if first_missing known == length known then Check g else Blocks g known

-- The table: in this phase, where this is heard and the fact holds, the answer leads there.
abbrev pub rows : Name → ℕ → Stage → Heard → List ((Type 0) × Step)
rows name size Size (heard.Number n) =
    (IsWithinLimits n size, Move (Enable (record { block_size = n; size = size }))) ∷ []
rows name size (Enable g) (heard.Code a c) =
    (c ≡ success, Move (Start g)) ∷ []
rows name size (Start g) (heard.Code a c) =
    (c ≡ success, Move (Blocks g (none_known g)))
    ∷ (c ≡ temporary_failure, Stay) ∷ []
rows name size (Blocks g known) (heard.Code (asked.Block number) c) =
    (c ≡ success, Took number) ∷ []
rows name size (Check g) (heard.Number n) =
    (count g ≤ n, Move (Verify g))
    ∷ (n < count g, Move (Gaps g)) ∷ []
rows name size (Gaps g) (heard.BitSet known) =
    (length known ≡ count g, Move (with_known g known)) ∷ []
rows name size (Verify g) (heard.Code a c) =
    (c ≡ success, Move (Info g))
    ∷ (c ≡ temporary_failure, Move (Poll g)) ∷ []
rows name size (Poll g) (heard.Status s) =
    (s ≡ verification_successful, Move (Info g))
    ∷ (s ≡ verification_initiated, Stay)
    ∷ (s ≡ transfer_initiated, Move (Check g)) ∷ []
rows name size (Info g) (heard.Info told) =
    (told ≡ Some name, Move (Activate g)) ∷ []
rows name size (Confirm g) (heard.Active claim) =
    (claim.name ≡ name, Move (Done claim)) ∷ []
rows name size stage h = []

-- where any other answer leads
abbrev pub otherwise : Stage → Step
otherwise Size = Fail
otherwise (Enable g) = Fail
otherwise (Start g) = Fail
otherwise (Blocks g known) = Return g
otherwise (Check g) = Return g
otherwise (Gaps g) = Return g
otherwise (Verify g) = Return g
otherwise (Poll g) = Return g
otherwise (Info g) = Return g
otherwise (Activate g) = Move (Confirm g)
otherwise (Confirm g) = Return g
otherwise (Done claim) = Stay
otherwise (Failed why) = Stay

-- the first row whose fact holds, or the last step if none does
abbrev pub First : List ((Type 0) × Step) → Step → Step → Type 0
First [] last step = step ≡ last
First (row ∷ rows) last step = (row.0 × (step ≡ row.1)) ⊎ ((¬ row.0) × First rows last step)

-- from this phase of the row of this image, what was heard leads to this step
abbrev pub Leads : Name → ℕ → Stage → Heard → Step → Type 0
Leads name size stage h step = First (rows name size stage h) (otherwise stage) step

-- Only a list of known blocks takes memory: none of them at first, and then the meter's own.
abbrev pub TakesMemory : Stage → Heard → Type 0
TakesMemory (Start g) (heard.Code a c) = c ≡ success
TakesMemory (Gaps g) (heard.BitSet known) = length known ≡ count g
TakesMemory stage h = ⊥
