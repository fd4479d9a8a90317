-- The laws of a row.
use Rattle.std.proofs.Common.{◌≡◌, ℕ, ◌+◌, nat_lt, ◌==◌, Bool, true, false, List, [], ◌∷◌, length, slice_set, Option, Some, if◌then◌else◌, inl, inr, refl, sym, ap, subst, ◌∙◌}
use Rattle.fw_names.specs.Name.{Name}
use Rattle.fw_blocks.specs.Cuts.{Partition}
use Rattle.fw_blocks.specs.Members.{first_missing}
use Rattle.fw_client.specs.Claim.{Claim}
use Rattle.fw_client.specs.State.{State}
use Rattle.fw_client.specs.Laws.{OneHearing, OnlyClaimed}
use Rattle.fw_client.specs.declared.heard.Heard.{Heard}
use Rattle.fw_client.specs.declared.heard.Heard.TheVariants as heard
use Rattle.fw_book.specs.declared.phase.Phase.{Phase}
use Rattle.fw_book.specs.declared.phase.Phase.TheVariants as phase
use Rattle.fw_book.specs.declared.notes.Answer.{Answer}
use Rattle.fw_book.specs.declared.notes.Reason.{Reason}
use Rattle.fw_head.specs.declared.stage.Stage.{Stage}
use Rattle.fw_head.specs.declared.stage.Stage.TheVariants.{Start, Blocks, Check, Confirm, Done, Failed}
use Rattle.fw_head.specs.declared.answers.Step.{Step}
use Rattle.fw_head.specs.declared.answers.Step.TheVariants.{Stay, Took, Move, Return, Fail}
use Rattle.fw_head.specs.declared.news.RowNews.{RowNews}
use Rattle.fw_head.specs.declared.news.RowNews.TheVariants as news
use Rattle.fw_head.specs.Phase.{phase_of, rows, otherwise, First, Leads}
use Rattle.fw_head.specs.Reason.{answer_of, reason_at}
use Rattle.fw_head.specs.Row.{Row, RowTakes, RowIgnores, max_returns, moved, settled, went, confirm_first, asked_first, stepped, with_block, news_in}
use Rattle.fw_head.specs.Private.{StageHolds, StepHolds}
use Rattle.fw_head.specs.Laws.{OneRow, IsConfirmedBy, DoneByClaim}
use Rattle.fw_head.proofs.OwnClaims.{Ended, ended_step}

-- ---- one step

pub one_first : (rows : List ((Type 0) × Step)) (last step other : Step) → First rows last step → First rows last other → step ≡ other
one_first [] last step other a b = a ∙ sym b
one_first (row ∷ rows) last step other (inl a) (inl b) = a.1 ∙ sym b.1
one_first (row ∷ rows) last step other (inl a) (inr b) = absurd (b.0 a.0)
one_first (row ∷ rows) last step other (inr a) (inl b) = absurd (a.0 b.0)
one_first (row ∷ rows) last step other (inr a) (inr b) = one_first rows last step other a.1 b.1

pub same_answer : (a b : Answer) → (let o : Option Answer = Some a in o ≡ Some b) → a ≡ b
same_answer a b e = cc

both : OneHearing → (old new other : Row) (datagram : List ℕ) (told also : RowNews) → RowTakes old datagram told new → RowTakes old datagram also other → (told ≡ also) × (new ≡ other)
both one old new other datagram told also a b =
    let same : (a.heard ≡ b.heard) × (a.client ≡ b.client) = one old.client a.client b.client datagram a.heard b.heard (inl a.takes) (inl b.takes) in
    let P : Heard → Type 0 = λ h. Leads old.name old.size old.stage h b.step in
    let step : a.step ≡ b.step = one_first (rows old.name old.size old.stage a.heard) (otherwise old.stage) a.step b.step a.leads (subst P (sym same.0) b.leads) in
    let answer : a.answer ≡ b.answer = same_answer a.answer b.answer (sym a.answered ∙ ap answer_of same.0 ∙ b.answered) in
    let row : new ≡ other =
    a.new_is
    ∙ ap (λ (c : State). stepped (record old { client = c }) a.step (reason_at old.stage a.answer)) same.1
    ∙ ap (λ (s : Step). stepped (record old { client = b.client }) s (reason_at old.stage a.answer)) step
    ∙ ap (λ (x : Answer). stepped (record old { client = b.client }) b.step (reason_at old.stage x)) answer
    ∙ sym b.new_is in
    (a.told_is ∙ ap (λ (r : Row). news_in r.stage) row ∙ sym b.told_is, row)

pub one_row : OneHearing → OneRow
one_row one old new other datagram told also (inl a) (inl b) = both one old new other datagram told also a b
one_row one old new other datagram told also (inl a) (inr b) = absurd (b.0 a.takes.0 a.heard a.takes.1)
one_row one old new other datagram told also (inr a) (inl b) = absurd (a.0 b.takes.0 b.heard b.takes.1)
one_row one old new other datagram told also (inr a) (inr b) = (a.1 ∙ sym b.1, a.2 ∙ sym b.2)

-- ---- a row that becomes done

nothing_done : (claim : Claim) → (let told : RowNews = news.Nothing in told ≡ news.Done claim) → ⊥
nothing_done claim e = cc

moved_done : (claim : Claim) → (let told : RowNews = news.Moved in told ≡ news.Done claim) → ⊥
moved_done claim e = cc

failed_done : (why : Reason) (claim : Claim) → (let told : RowNews = news.Failed why in told ≡ news.Done claim) → ⊥
failed_done why claim e = cc

same_claim : (a b : Claim) → (let told : RowNews = news.Done a in told ≡ news.Done b) → a ≡ b
same_claim a b e = cc

not_done : (stage : Stage) (claim : Claim) → news_in stage ≡ news.Done claim → phase_of stage ≡ phase.Done
not_done (Done other) claim e = refl
not_done (Failed why) claim e = absurd (failed_done why claim e)
not_done _ claim e = absurd (moved_done claim e)

known_done : (g : Partition) (k : List Bool) (claim : Claim) (b : Bool) → news_in (if b then Check g else Blocks g k) ≡ news.Done claim → ⊥
known_done g k claim true e = moved_done claim e
known_done g k claim false e = moved_done claim e

block_done : (stage : Stage) (number : ℕ) (claim : Claim) → news_in (with_block stage number) ≡ news.Done claim → phase_of stage ≡ phase.Done
block_done (Blocks g k) number claim e = absurd (known_done g (slice_set k number true) claim (first_missing (slice_set k number true) == length (slice_set k number true)) e)
block_done stage number claim e = not_done stage claim e

pub settled_stage : (row : Row) (stage : Stage) → (settled row stage).stage ≡ stage
settled_stage row (Blocks g k) = refl
settled_stage row _ = refl

return_done : (row : Row) (g : Partition) (why : Reason) (claim : Claim) (b : Bool) → news_in (let new : Row = if b then record (moved row (Start g)) { returns = row.returns + 1 } else moved row (Failed why) in new.stage) ≡ news.Done claim → ⊥
return_done row g why claim true e = moved_done claim e
return_done row g why claim false e = failed_done why claim e

ended_stage : (E : Claim → Type 0) (stage : Stage) (claim : Claim) → StageHolds (λ g. Unit {0}) E stage → news_in stage ≡ news.Done claim → E claim
ended_stage E (Done other) claim ends e = subst E (same_claim other claim e) ends
ended_stage E (Failed why) claim ends e = absurd (failed_done why claim e)
ended_stage E _ claim ends e = absurd (moved_done claim e)

ended_went : (E : Claim → Type 0) (row : Row) (step : Step) (why : Reason) (claim : Claim) → ¬ (phase_of row.stage ≡ phase.Done) → StepHolds (λ g. Unit {0}) E step → news_in (went row step why).stage ≡ news.Done claim → E claim
ended_went E row Stay why claim live ends e = absurd (live (not_done row.stage claim e))
ended_went E row (Took number) why claim live ends e = absurd (live (block_done row.stage number claim (sym (ap news_in (settled_stage row (with_block row.stage number))) ∙ e)))
ended_went E row (Move stage) why claim live ends e = ended_stage E stage claim ends e
ended_went E row (Return g) why claim live ends e = absurd (return_done row g why claim (nat_lt (row.returns + 1) max_returns) e)
ended_went E row Fail why claim live ends e = absurd (failed_done why claim e)

ended_first : (E : Claim → Type 0) (stage : Stage) (claim : Claim) → StageHolds (λ g. Unit {0}) E stage → news_in (confirm_first stage) ≡ news.Done claim → E claim
ended_first E (Start g) claim ends e = absurd (moved_done claim e)
ended_first E stage claim ends e = ended_stage E stage claim ends e

ended_asking : (E : Claim → Type 0) (row : Row) (step : Step) (why : Reason) (claim : Claim) → ¬ (phase_of row.stage ≡ phase.Done) → StepHolds (λ g. Unit {0}) E step → news_in (asked_first row step why).stage ≡ news.Done claim → E claim
ended_asking E row (Move stage) why claim live ends e = ended_first E stage claim ends e
ended_asking E row (Return g) why claim live ends e = absurd (moved_done claim e)
ended_asking E row step why claim live ends e = ended_went E row step why claim live ends e

ended_by : (E : Claim → Type 0) (row : Row) (step : Step) (why : Reason) (claim : Claim) → ¬ (phase_of row.stage ≡ phase.Done) → StepHolds (λ g. Unit {0}) E step → news_in (stepped row step why).stage ≡ news.Done claim → E claim
ended_by E row step why claim live ends e = go row.asks_first e
  where
    go : (b : Bool) → news_in (let new : Row = if b then asked_first row step why else went row step why in new.stage) ≡ news.Done claim → E claim
    go true e = ended_asking E row step why claim live ends e
    go false e = ended_went E row step why claim live ends e

done_by : (row : Row) (why : Reason) (claim : Claim) → news_in (stepped row (Move (Done claim)) why).stage ≡ news.Done claim
done_by row why claim = go row.asks_first
  where
    go : (b : Bool) → news_in (let new : Row = if b then asked_first row (Move (Done claim)) why else went row (Move (Done claim)) why in new.stage) ≡ news.Done claim
    go true = refl
    go false = refl

-- then it waited for the claim that it heard
confirms : OnlyClaimed → (old new : Row) (datagram : List ℕ) (told : RowNews) (claim : Claim) → ¬ (phase_of old.stage ≡ phase.Done) → RowTakes old datagram told new → told ≡ news.Done claim → IsConfirmedBy old datagram claim
confirms only old new datagram told claim live takes done =
    let told_so = sym (ap (λ (r : Row). news_in r.stage) takes.new_is) ∙ sym takes.told_is ∙ done in
    let ended = ended_by (Ended old.name old.stage takes.heard) (record old { client = takes.client }) takes.step (reason_at old.stage takes.answer) claim live (ended_step old.name old.size old.stage takes.heard takes.step takes.leads) told_so in
    record {
      waits = ended.confirms;
      claimed = (only old.client takes.client datagram takes.heard claim (inl takes.takes)).0 ended.heard_is;
      named = ended.named;
    }

abbrev IsConfirm : Phase → Type 0
IsConfirm phase.Confirm = Unit {0}
IsConfirm p = ⊥

confirmed_step : (n : Name) (size : ℕ) (stage : Stage) (claim : Claim) (step : Step) → phase_of stage ≡ phase.Confirm → claim.name ≡ n → Leads n size stage (heard.Active claim) step → step ≡ Move (Done claim)
confirmed_step n size (Confirm g) claim step waits named (inl here) = here.1
confirmed_step n size (Confirm g) claim step waits named (inr other) = absurd (other.0 named)
confirmed_step n size _ claim step waits named leads = absurd (subst IsConfirm (sym waits) tt)

-- and such a claim ends it
done : OnlyClaimed → (old new : Row) (datagram : List ℕ) (told : RowNews) (claim : Claim) → RowTakes old datagram told new → IsConfirmedBy old datagram claim → told ≡ news.Done claim
done only old new datagram told claim takes confirms =
    let heard_is = (only old.client takes.client datagram takes.heard claim (inl takes.takes)).1 confirms.claimed in
    let P : Heard → Type 0 = λ h. Leads old.name old.size old.stage h takes.step in
    let step = confirmed_step old.name old.size old.stage claim takes.step confirms.waits confirms.named (subst P heard_is takes.leads) in
    let why : Reason = reason_at old.stage takes.answer in
    takes.told_is
    ∙ ap (λ (r : Row). news_in r.stage) takes.new_is
    ∙ ap (λ (s : Step). news_in (stepped (record old { client = takes.client }) s why).stage) step
    ∙ done_by (record old { client = takes.client }) why claim

stranger_active : (claim : Claim) → (let h : Heard = heard.Stranger in h ≡ heard.Active claim) → ⊥
stranger_active claim e = cc

unheard : OnlyClaimed → (old new : Row) (datagram : List ℕ) (told : RowNews) (claim : Claim) → RowIgnores old datagram told new → IsConfirmedBy old datagram claim → ⊥
unheard only old new datagram told claim ignores confirms =
    stranger_active claim ((only old.client old.client datagram heard.Stranger claim (inr (ignores.0, refl, refl))).1 confirms.claimed)

pub done_by_claim : OnlyClaimed → DoneByClaim
done_by_claim only old new datagram told claim live (inl takes) = (λ is. confirms only old new datagram told claim live takes is, λ is. done only old new datagram told claim takes is)
done_by_claim only old new datagram told claim live (inr ignores) = (λ is. absurd (nothing_done claim (sym ignores.1 ∙ is)), λ is. absurd (unheard only old new datagram told claim ignores is))
