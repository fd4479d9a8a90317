-- A row that asks first goes to no phase in which it would send a block, or initiate.
use Rattle.std.proofs.Common.{◌≡◌, ℕ, inl, inr, List, [], ◌∷◌, sym, subst}
use Rattle.fw_names.specs.Name.{Name}
use Rattle.fw_client.specs.declared.heard.Heard.{Heard}
use Rattle.fw_client.specs.declared.heard.Heard.TheVariants as heard
use Rattle.fw_head.specs.declared.stage.Stage.{Stage}
use Rattle.fw_head.specs.declared.stage.Stage.TheVariants.{Size, Enable, Start, Blocks, Check, Gaps, Verify, Poll, Info, Activate, Confirm, Done, Failed}
use Rattle.fw_head.specs.declared.answers.Step.{Step}
use Rattle.fw_head.specs.Phase.{rows, otherwise, First, Leads}
use Rattle.fw_head.specs.Private.{IsAsking, IsAskingStep}

-- each row of a list leads to such a step
abbrev RowsAsk : List ((Type 0) × Step) → Type 0
RowsAsk [] = Unit {0}
RowsAsk (row ∷ rows) = IsAskingStep row.1 × RowsAsk rows

same_step : (step other : Step) → step ≡ other → IsAskingStep other → IsAskingStep step
same_step step other e asks = subst (λ (s : Step). IsAskingStep s) (sym e) asks

by_first : (rows : List ((Type 0) × Step)) (last step : Step) → RowsAsk rows → IsAskingStep last → First rows last step → IsAskingStep step
by_first [] last step asks other leads = same_step step last leads other
by_first (row ∷ rows) last step asks other (inl l) = same_step step row.1 l.1 asks.0
by_first (row ∷ rows) last step asks other (inr r) = by_first rows last step asks.1 other r.1

rows_ask : (n : Name) (size : ℕ) (stage : Stage) (h : Heard) → IsAsking stage → RowsAsk (rows n size stage h)
rows_ask n size Size (heard.Number b) asks = (tt, tt)
rows_ask n size (Enable g) (heard.Code a c) asks = (tt, tt)
rows_ask n size (Confirm g) (heard.Active claim) asks = (tt, tt)
rows_ask n size (Start g) h asks = absurd asks
rows_ask n size (Blocks g k) h asks = absurd asks
rows_ask n size (Check g) h asks = absurd asks
rows_ask n size (Gaps g) h asks = absurd asks
rows_ask n size (Verify g) h asks = absurd asks
rows_ask n size (Poll g) h asks = absurd asks
rows_ask n size (Info g) h asks = absurd asks
rows_ask n size (Activate g) h asks = absurd asks
rows_ask n size _ h asks = tt

otherwise_asks : (stage : Stage) → IsAsking stage → IsAskingStep (otherwise stage)
otherwise_asks Size asks = tt
otherwise_asks (Enable g) asks = tt
otherwise_asks (Confirm g) asks = tt
otherwise_asks (Done claim) asks = tt
otherwise_asks (Failed why) asks = tt
otherwise_asks _ asks = absurd asks

pub asking_step : (n : Name) (size : ℕ) (stage : Stage) (h : Heard) (step : Step) → IsAsking stage → Leads n size stage h step → IsAskingStep step
asking_step n size stage h step asks leads = by_first (rows n size stage h) (otherwise stage) step (rows_ask n size stage h asks) (otherwise_asks stage asks) leads
