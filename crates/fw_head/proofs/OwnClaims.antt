-- What a step leads to: a cut of the row's image within the limits, with a mark known of each block; and once the row is done, a claim of
-- its own meter under its own name.
use Rattle.std.proofs.Common.{◌≡◌, ℕ, ◌==◌, inl, inr, Bool, true, false, List, [], ◌∷◌, length, slice_set, if◌then◌else◌, refl, sym, subst, ◌∙◌}
use Rattle.std.proofs.lemmas.List.{length-replicate, length-set}
use Rattle.fw_names.specs.Name.{Name}
use Rattle.fw_blocks.specs.Cuts.{Partition, IsWithinLimits}
use Rattle.fw_blocks.specs.Members.{first_missing}
use Rattle.fw_client.specs.Claim.{Claim}
use Rattle.fw_client.specs.declared.ask.Asked.TheVariants as asked
use Rattle.fw_client.specs.declared.heard.Heard.{Heard}
use Rattle.fw_client.specs.declared.heard.Heard.TheVariants as heard
use Rattle.fw_book.specs.declared.phase.Phase.TheVariants as phase
use Rattle.fw_head.specs.declared.stage.Stage.{Stage}
use Rattle.fw_head.specs.declared.stage.Stage.TheVariants.{Size, Enable, Start, Blocks, Check, Gaps, Verify, Poll, Info, Activate, Confirm, Done, Failed}
use Rattle.fw_head.specs.declared.answers.Step.{Step}
use Rattle.fw_head.specs.Phase.{count, phase_of, rows, otherwise, First, Leads}
use Rattle.fw_head.specs.Private.{StageHolds, StepHolds, IsCutOf, IsOwn, IsOwnStep, IsOwnNews}
use Rattle.fw_head.specs.declared.news.RowNews.{RowNews}
use Rattle.fw_head.specs.Row.{IsClaimOf, news_in, with_block}

abbrev Cuts : Type 1
Cuts = Partition → Type 0

abbrev Ends : Type 1
Ends = Claim → Type 0

same_step : (C : Cuts) (E : Ends) (step other : Step) → step ≡ other → StepHolds C E other → StepHolds C E step
same_step C E step other e holds =
    let P : Step → Type 0 = λ s. StepHolds C E s in
    subst P (sym e) holds

known : (C : Cuts) (E : Ends) (g : Partition) (k : List Bool) (b : Bool) → C g → length k ≡ count g → StageHolds C E (if b then Check g else Blocks g k)
known C E g k true cut all = cut
known C E g k false cut all = (cut, all)

-- if its fact holds, each row of a list leads to such a step
abbrev RowsHold : Cuts → Ends → List ((Type 0) × Step) → Type 0
RowsHold C E [] = Unit {0}
RowsHold C E (row ∷ rows) = (row.0 → StepHolds C E row.1) × RowsHold C E rows

by_first : (C : Cuts) (E : Ends) (rows : List ((Type 0) × Step)) (last step : Step) → RowsHold C E rows → StepHolds C E last → First rows last step → StepHolds C E step
by_first C E [] last step holds other leads = same_step C E step last leads other
by_first C E (row ∷ rows) last step holds other (inl l) = same_step C E step row.1 l.1 (holds.0 l.0)
by_first C E (row ∷ rows) last step holds other (inr r) = by_first C E rows last step holds.1 other r.1

-- this of a stage's cut alone
abbrev CutHolds : Cuts → Stage → Type 0
CutHolds C (Enable g) = C g
CutHolds C (Start g) = C g
CutHolds C (Blocks g k) = C g
CutHolds C (Check g) = C g
CutHolds C (Gaps g) = C g
CutHolds C (Verify g) = C g
CutHolds C (Poll g) = C g
CutHolds C (Info g) = C g
CutHolds C (Activate g) = C g
CutHolds C (Confirm g) = C g
CutHolds C stage = Unit {0}

cut_of : (C : Cuts) (E : Ends) (stage : Stage) → StageHolds C E stage → CutHolds C stage
cut_of C E (Blocks g k) holds = holds.0
cut_of C E (Done claim) holds = tt
cut_of C E _ holds = holds

no_cut : (stage : Stage) → CutHolds (λ g. Unit {0}) stage
no_cut Size = tt
no_cut _ = tt

-- The cut that a stage has goes on, and the first one is within the limits. Only a claim of the name, heard in Confirm, ends a row.
rows_hold : (C : Cuts) (E : Ends) (n : Name) (size : ℕ) (stage : Stage) (h : Heard) → ((b : ℕ) → IsWithinLimits b size → C (record { block_size = b; size = size })) → ((claim : Claim) → phase_of stage ≡ phase.Confirm → h ≡ heard.Active claim → claim.name ≡ n → E claim) → CutHolds C stage → RowsHold C E (rows n size stage h)
rows_hold C E n size Size (heard.Number b) begins ends cut = (begins b, tt)
rows_hold C E n size (Enable g) (heard.Code a c) begins ends cut = (λ is. cut, tt)
rows_hold C E n size (Start g) (heard.Code a c) begins ends cut = (λ is. (cut, length-replicate (count g) false), (λ is. tt, tt))
rows_hold C E n size (Blocks g k) (heard.Code (asked.Block i) c) begins ends cut = (λ is. tt, tt)
rows_hold C E n size (Check g) (heard.Number i) begins ends cut = (λ is. cut, (λ is. cut, tt))
rows_hold C E n size (Gaps g) (heard.BitSet k) begins ends cut = (λ all. known C E g k (first_missing k == length k) cut all, tt)
rows_hold C E n size (Verify g) (heard.Code a c) begins ends cut = (λ is. cut, (λ is. cut, tt))
rows_hold C E n size (Poll g) (heard.Status s) begins ends cut = (λ is. cut, (λ is. tt, (λ is. cut, tt)))
rows_hold C E n size (Info g) (heard.Info told) begins ends cut = (λ is. cut, tt)
rows_hold C E n size (Confirm g) (heard.Active claim) begins ends cut = (λ same. ends claim refl refl same, tt)
rows_hold C E n size _ h begins ends cut = tt

otherwise_holds : (C : Cuts) (E : Ends) (stage : Stage) → CutHolds C stage → StepHolds C E (otherwise stage)
otherwise_holds C E Size cut = tt
otherwise_holds C E (Enable g) cut = tt
otherwise_holds C E (Start g) cut = tt
otherwise_holds C E (Done claim) cut = tt
otherwise_holds C E (Failed why) cut = tt
otherwise_holds C E _ cut = cut

by_leads : (C : Cuts) (E : Ends) (n : Name) (size : ℕ) (stage : Stage) (h : Heard) (step : Step) → ((b : ℕ) → IsWithinLimits b size → C (record { block_size = b; size = size })) → ((claim : Claim) → phase_of stage ≡ phase.Confirm → h ≡ heard.Active claim → claim.name ≡ n → E claim) → CutHolds C stage → Leads n size stage h step → StepHolds C E step
by_leads C E n size stage h step begins ends cut leads =
    by_first C E (rows n size stage h) (otherwise stage) step (rows_hold C E n size stage h begins ends cut) (otherwise_holds C E stage cut) leads

-- what is heard is a claim of this meter, if it is a claim
abbrev pub IsOf : ℕ → Heard → Type 0
IsOf m (heard.Active claim) = claim.meter ≡ m
IsOf m h = Unit {0}

of_claim : (m : ℕ) (h : Heard) (claim : Claim) → IsOf m h → h ≡ heard.Active claim → claim.meter ≡ m
of_claim m h claim of is =
    let P : Heard → Type 0 = λ x. IsOf m x in
    subst P is of

-- a stage of the row goes on to another of it
pub own_step : (m : ℕ) (n : Name) (size : ℕ) (stage : Stage) (h : Heard) (step : Step) → IsOwn m n size stage → IsOf m h → Leads n size stage h step → IsOwnStep m n size step
own_step m n size stage h step own of leads =
    by_leads (IsCutOf size) (IsClaimOf m n) n size stage h step
    (λ b within. record { within = within; sized = refl })
    (λ claim confirms is same. record { by = of_claim m h claim of is; named = same })
    (cut_of (IsCutOf size) (IsClaimOf m n) stage own) leads

-- of a stage that a step goes to: what ended the row, if it did
pub record Ended (n : Name) (stage : Stage) (h : Heard) (claim : Claim) : Type 0 where
  pub confirms : phase_of stage ≡ phase.Confirm
  pub heard_is : h ≡ heard.Active claim
  pub named : claim.name ≡ n

-- only a claim of the name in Confirm ends a row
pub ended_step : (n : Name) (size : ℕ) (stage : Stage) (h : Heard) (step : Step) → Leads n size stage h step → StepHolds (λ g. Unit {0}) (Ended n stage h) step
ended_step n size stage h step leads =
    by_leads (λ g. Unit {0}) (Ended n stage h) n size stage h step (λ b within. tt)
    (λ claim confirms is same. record { confirms = confirms; heard_is = is; named = same })
    (no_cut stage) leads

-- a block that the meter took leaves as many
pub own_block : (m : ℕ) (n : Name) (size : ℕ) (stage : Stage) (number : ℕ) → IsOwn m n size stage → IsOwn m n size (with_block stage number)
own_block m n size (Blocks g k) number own =
    known (IsCutOf size) (IsClaimOf m n) g (slice_set k number true) (first_missing (slice_set k number true) == length (slice_set k number true)) own.0
    (length-set k number true ∙ own.1)
own_block m n size _ number own = own

own_at : (m : ℕ) (n : Name) (size : ℕ) (stage : Stage) → IsOwn m n size stage → IsOwnNews m n (news_in stage)
own_at m n size (Done claim) own = (own.by, own.named)
own_at m n size _ own = tt

-- what a row reports of its stage
pub own_news : (m k : ℕ) (n o : Name) (size : ℕ) (stage : Stage) (told : RowNews) → m ≡ k → n ≡ o → told ≡ news_in stage → IsOwn m n size stage → IsOwnNews k o told
own_news m k n o size stage told same_meter same_name is own =
    let P : ℕ → Type 0 = λ x. IsOwnNews x n told in
    let Q : Name → Type 0 = λ x. IsOwnNews k x told in
    let R : RowNews → Type 0 = λ x. IsOwnNews m n x in
    subst Q same_name (subst P same_meter (subst R (sym is) (own_at m n size stage own)))

-- ---- what leads somewhere from a stage, if it is known which

pub at_stage : (n : Name) (size : ℕ) (stage : Stage) {other : Stage} (h : Heard) (step : Step) → stage ≡ other → Leads n size other h step → Leads n size stage h step
at_stage n size stage h step same leads = subst (λ (s : Stage). Leads n size s h step) (sym same) leads

pub at_blocks : (n : Name) (size : ℕ) (stage : Stage) {g : Partition} {known : List Bool} (h : Heard) (step : Step) → stage ≡ Blocks g known → ((k : List Bool) → Leads n size (Blocks g k) h step) → Leads n size stage h step
at_blocks n size stage {known = known} h step same leads = at_stage n size stage h step same (leads known)
