-- A row that doesn't activate asks its meter for something else.
use Rattle.std.proofs.Common.{◌≡◌, ℕ, Bool, true, false, List, [], ◌∷◌, All, slice_index_or, refl, sym}
use Rattle.std.proofs.lemmas.Bool.{false≢true}
use Rattle.std.proofs.lemmas.List.Elements.{All-nil, All-cons, All-contains, All-map}
use Rattle.fw_names.specs.Name.{Name}
use Rattle.fw_blocks.specs.Cuts.{Partition, cut}
use Rattle.fw_blocks.specs.Members.{window}
use Rattle.fw_client.specs.Ask as ask
use Rattle.fw_client.specs.Ask.{Ask}
use Rattle.fw_head.specs.Phase.{activates, asks_in, asks_first_in, block_ask}
use Rattle.fw_head.specs.Row.{tick_asks}
use Rattle.fw_head.specs.declared.stage.Stage.{Stage}
use Rattle.fw_head.specs.declared.stage.Stage.TheVariants.{Size, Enable, Start, Blocks, Check, Gaps, Verify, Poll, Info, Activate, Confirm, Done, Failed}
use Rattle.fw_rollout.specs.Laws.{OthersNeverActivate}

-- another request than that
abbrev IsOther : Ask → Type 0
IsOther asked = asked ≡ ask.activate → ⊥

one : (asked : Ask) → IsOther asked → All IsOther (asked ∷ [])
one asked other = All-cons IsOther asked [] other (All-nil IsOther)

block_other : (image : List ℕ) (g : Partition) (number : ℕ) → IsOther (block_ask image g number)
block_other image g number = λ (is : ask.block number (cut g.block_size image number) ≡ ask.activate). cc

others_in : (name : Name) (size : ℕ) (image : List ℕ) (width : ℕ) (stage : Stage) → activates stage ≡ false → All IsOther (asks_in name size image width stage)
others_in name size image width Size e = one ask.block_size (λ is. cc)
others_in name size image width (Enable g) e = one ask.enable (λ is. cc)
others_in name size image width (Start g) e = one (ask.initiate name size) (λ is. cc)
others_in name size image width (Blocks g known) e =
    All-map IsOther (block_ask image g) (window known width) (λ k d within. block_other image g (slice_index_or (window known width) k d))
others_in name size image width (Check g) e = one ask.first_missing (λ is. cc)
others_in name size image width (Gaps g) e = one ask.blocks (λ is. cc)
others_in name size image width (Verify g) e = one ask.verify (λ is. cc)
others_in name size image width (Poll g) e = one ask.status (λ is. cc)
others_in name size image width (Info g) e = one ask.info (λ is. cc)
others_in name size image width (Activate g) e = absurd (false≢true (sym e))
others_in name size image width (Confirm g) e = one ask.active_name (λ is. cc)
others_in name size image width (Done claim) e = All-nil IsOther
others_in name size image width (Failed why) e = All-nil IsOther

others_first : (name : Name) (size : ℕ) (image : List ℕ) (width : ℕ) (stage : Stage) (asks_first : Bool) → activates stage ≡ false → All IsOther (asks_first_in name size image width stage asks_first)
others_first name size image width (Confirm g) true e = All-cons IsOther ask.active_name (ask.blocks ∷ []) (λ is. cc) (one ask.blocks (λ is. cc))
others_first name size image width (Confirm g) false e = others_in name size image width (Confirm g) e
others_first name size image width Size asks_first e = others_in name size image width Size e
others_first name size image width (Enable g) asks_first e = others_in name size image width (Enable g) e
others_first name size image width (Start g) asks_first e = others_in name size image width (Start g) e
others_first name size image width (Blocks g known) asks_first e = others_in name size image width (Blocks g known) e
others_first name size image width (Check g) asks_first e = others_in name size image width (Check g) e
others_first name size image width (Gaps g) asks_first e = others_in name size image width (Gaps g) e
others_first name size image width (Verify g) asks_first e = others_in name size image width (Verify g) e
others_first name size image width (Poll g) asks_first e = others_in name size image width (Poll g) e
others_first name size image width (Info g) asks_first e = others_in name size image width (Info g) e
others_first name size image width (Activate g) asks_first e = others_in name size image width (Activate g) e
others_first name size image width (Done claim) asks_first e = others_in name size image width (Done claim) e
others_first name size image width (Failed why) asks_first e = others_in name size image width (Failed why) e

pub others_never_activate : OthersNeverActivate
others_never_activate row image width other = λ has.
    All-contains IsOther (tick_asks row image width) ask.activate (others_first row.name row.size image width row.stage row.asks_first other) has refl
