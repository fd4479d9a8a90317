-- When a row fails, and why.
use Rattle.std.proofs.Common.{◌≡◌, ℕ, ◌+◌, nat_lt, ◌==◌, Bool, true, false, List, [], ◌∷◌, length, slice_set, Option, Some, if◌then◌else◌, inl, inr, refl, sym, ap, subst, ◌∙◌, ⊎_elim, le-ltb}
use Rattle.std.proofs.lemmas.Bool.{cases_Bool, cond-true, cond-false, ltb-false}
use Rattle.fw_names.specs.Name.{Name}
use Rattle.fw_blocks.specs.Cuts.{Partition}
use Rattle.fw_blocks.specs.Members.{first_missing}
use Rattle.fw_client.specs.Claim.{Claim}
use Rattle.fw_client.specs.State.{State}
use Rattle.fw_client.specs.Laws.{OneHearing}
use Rattle.fw_client.specs.declared.ask.Asked.TheVariants as asked
use Rattle.fw_client.specs.declared.heard.Heard.{Heard}
use Rattle.fw_client.specs.declared.heard.Heard.TheVariants as heard
use Rattle.fw_book.specs.declared.phase.Phase.TheVariants as phase
use Rattle.fw_book.specs.declared.notes.Answer.{Answer}
use Rattle.fw_book.specs.declared.notes.Reason.{Reason}
use Rattle.fw_head.specs.declared.stage.Stage.{Stage}
use Rattle.fw_head.specs.declared.stage.Stage.TheVariants.{Size, Enable, Start, Blocks, Check, Gaps, Verify, Poll, Info, Confirm, Done, Failed}
use Rattle.fw_head.specs.declared.answers.Step.{Step}
use Rattle.fw_head.specs.declared.answers.Step.TheVariants.{Stay, Took, Move, Return, Fail}
use Rattle.fw_head.specs.declared.news.RowNews.{RowNews}
use Rattle.fw_head.specs.declared.news.RowNews.TheVariants as news
use Rattle.fw_head.specs.Phase.{phase_of, rows, otherwise, First, Leads}
use Rattle.fw_head.specs.Reason.{answer_of, reason_at}
use Rattle.fw_head.specs.Row.{Row, RowTakes, max_returns, moved, settled, went, confirm_first, asked_first, stepped, with_block, news_in, FailsAt, IsFailedBy}
use Rattle.fw_head.specs.Laws.{FailedByAnswer}
use Rattle.fw_head.proofs.RowLaws.{one_first, same_answer, settled_stage}

-- ---- the table leads to no stage that has failed

abbrev GoesTo : Stage → Type 0
GoesTo (Failed why) = ⊥
GoesTo stage = Unit {0}

abbrev GoesBy : Step → Type 0
GoesBy (Move stage) = GoesTo stage
GoesBy step = Unit {0}

abbrev AllGo : List ((Type 0) × Step) → Type 0
AllGo [] = Unit {0}
AllGo (row ∷ rows) = GoesBy row.1 × AllGo rows

same_goes : (step other : Step) → step ≡ other → GoesBy other → GoesBy step
same_goes step other e goes = subst (λ (s : Step). GoesBy s) (sym e) goes

by_first : (rows : List ((Type 0) × Step)) (last step : Step) → AllGo rows → GoesBy last → First rows last step → GoesBy step
by_first [] last step all other leads = same_goes step last leads other
by_first (row ∷ rows) last step all other (inl l) = same_goes step row.1 l.1 all.0
by_first (row ∷ rows) last step all other (inr r) = by_first rows last step all.1 other r.1

known_goes : (g : Partition) (k : List Bool) (b : Bool) → GoesTo (if b then Check g else Blocks g k)
known_goes g k true = tt
known_goes g k false = tt

rows_go : (n : Name) (size : ℕ) (stage : Stage) (h : Heard) → AllGo (rows n size stage h)
rows_go n size Size (heard.Number b) = (tt, tt)
rows_go n size (Enable g) (heard.Code a c) = (tt, tt)
rows_go n size (Start g) (heard.Code a c) = (tt, (tt, tt))
rows_go n size (Blocks g k) (heard.Code (asked.Block i) c) = (tt, tt)
rows_go n size (Check g) (heard.Number i) = (tt, (tt, tt))
rows_go n size (Gaps g) (heard.BitSet k) = (known_goes g k (first_missing k == length k), tt)
rows_go n size (Verify g) (heard.Code a c) = (tt, (tt, tt))
rows_go n size (Poll g) (heard.Status s) = (tt, (tt, (tt, tt)))
rows_go n size (Info g) (heard.Info told) = (tt, tt)
rows_go n size (Confirm g) (heard.Active claim) = (tt, tt)
rows_go n size _ h = tt

otherwise_goes : (stage : Stage) → GoesBy (otherwise stage)
otherwise_goes Size = tt
otherwise_goes _ = tt

leads_on : (n : Name) (size : ℕ) (stage : Stage) (h : Heard) (step : Step) → Leads n size stage h step → GoesBy step
leads_on n size stage h step leads = by_first (rows n size stage h) (otherwise stage) step (rows_go n size stage h) (otherwise_goes stage) leads

-- ---- what is reported

nothing_failed : (why : Reason) → (let told : RowNews = news.Nothing in told ≡ news.Failed why) → ⊥
nothing_failed why e = cc

moved_failed : (why : Reason) → (let told : RowNews = news.Moved in told ≡ news.Failed why) → ⊥
moved_failed why e = cc

done_failed : (claim : Claim) (why : Reason) → (let told : RowNews = news.Done claim in told ≡ news.Failed why) → ⊥
done_failed claim why e = cc

pub same_reason : (a b : Reason) → (let told : RowNews = news.Failed a in told ≡ news.Failed b) → a ≡ b
same_reason a b e = cc

-- a stage that is reported as failed has failed
has_failed : (stage : Stage) (why : Reason) → news_in stage ≡ news.Failed why → phase_of stage ≡ phase.Failed
has_failed (Failed other) why e = refl
has_failed (Done claim) why e = absurd (done_failed claim why e)
has_failed _ why e = absurd (moved_failed why e)

-- a stage that hasn't failed isn't reported so
going_failed : (stage : Stage) (why : Reason) → GoesTo stage → news_in stage ≡ news.Failed why → ⊥
going_failed (Failed other) why goes e = goes
going_failed (Done claim) why goes e = done_failed claim why e
going_failed _ why goes e = moved_failed why e

-- nor does the stage in which it is asked first
first_failed : (stage : Stage) (why : Reason) → GoesTo stage → news_in (confirm_first stage) ≡ news.Failed why → ⊥
first_failed (Start g) why goes e = moved_failed why e
first_failed stage why goes e = going_failed stage why goes e

known_failed : (g : Partition) (k : List Bool) (why : Reason) (b : Bool) → news_in (if b then Check g else Blocks g k) ≡ news.Failed why → ⊥
known_failed g k why true e = moved_failed why e
known_failed g k why false e = moved_failed why e

block_failed : (stage : Stage) (number : ℕ) (why : Reason) → news_in (with_block stage number) ≡ news.Failed why → phase_of stage ≡ phase.Failed
block_failed (Blocks g k) number why e = absurd (known_failed g (slice_set k number true) why (first_missing (slice_set k number true) == length (slice_set k number true)) e)
block_failed stage number why e = has_failed stage why e

-- ---- the step that ends a row

-- what is reported neither of a row that asks first nor of one that doesn't
either : (row : Row) (step : Step) (by : Reason) (told : RowNews) → (news_in (asked_first row step by).stage ≡ told → ⊥) → (news_in (went row step by).stage ≡ told → ⊥) → news_in (stepped row step by).stage ≡ told → ⊥
either row step by told asks goes e =
    let X : Row = asked_first row step by in
    let Y : Row = went row step by in
    ⊎_elim
    (λ first. asks (sym (ap (λ (x : Row). news_in x.stage) (cond-true row.asks_first X Y first)) ∙ e))
    (λ other. goes (sym (ap (λ (x : Row). news_in x.stage) (cond-false row.asks_first X Y other)) ∙ e))
    (cases_Bool row.asks_first)

-- the row that a return makes failed
returned_failed : (row : Row) (g : Partition) (by why : Reason) → news_in (stepped row (Return g) by).stage ≡ news.Failed why → (by ≡ why) × FailsAt row (Return g)
returned_failed row g by why e =
    let X : Row = asked_first row (Return g) by in
    let Y : Row = went row (Return g) by in
    let A : Row = record (moved row (Start g)) { returns = row.returns + 1 } in
    let B : Row = moved row (Failed by) in
    let more : Bool = nat_lt (row.returns + 1) max_returns in
    ⊎_elim
    (λ first. absurd (moved_failed why (sym (ap (λ (x : Row). news_in x.stage) (cond-true row.asks_first X Y first)) ∙ e)))
    (λ other.
    let at : news_in Y.stage ≡ news.Failed why = sym (ap (λ (x : Row). news_in x.stage) (cond-false row.asks_first X Y other)) ∙ e in
    ⊎_elim
    (λ again. absurd (moved_failed why (sym (ap (λ (x : Row). news_in x.stage) (cond-true more A B again)) ∙ at)))
    (λ last. (
      same_reason by why (sym (ap (λ (x : Row). news_in x.stage) (cond-false more A B last)) ∙ at),
      (other, ltb-false (row.returns + 1) max_returns last),
    ))
    (cases_Bool more))
    (cases_Bool row.asks_first)

fail_told : (row : Row) (by : Reason) → news_in (stepped row Fail by).stage ≡ news.Failed by
fail_told row by = go row.asks_first
  where
    go : (b : Bool) → news_in (let new : Row = if b then asked_first row Fail by else went row Fail by in new.stage) ≡ news.Failed by
    go true = refl
    go false = refl

return_told : (row : Row) (g : Partition) (by : Reason) → FailsAt row (Return g) → news_in (stepped row (Return g) by).stage ≡ news.Failed by
return_told row g by fails =
    let X : Row = asked_first row (Return g) by in
    let Y : Row = went row (Return g) by in
    let A : Row = record (moved row (Start g)) { returns = row.returns + 1 } in
    let B : Row = moved row (Failed by) in
    ap (λ (x : Row). news_in x.stage) (cond-false row.asks_first X Y fails.0)
    ∙ ap (λ (x : Row). news_in x.stage) (cond-false (nat_lt (row.returns + 1) max_returns) A B (le-ltb (row.returns + 1) max_returns fails.1))

-- the step ends the row, and this is the reason
ends_row : (row : Row) (step : Step) (by why : Reason) → ¬ (phase_of row.stage ≡ phase.Failed) → GoesBy step → news_in (stepped row step by).stage ≡ news.Failed why → (by ≡ why) × FailsAt row step
ends_row row Stay by why live goes e =
    absurd (either row Stay by (news.Failed why) (λ at. live (has_failed row.stage why at)) (λ at. live (has_failed row.stage why at)) e)
ends_row row (Took number) by why live goes e =
    let never : news_in (settled row (with_block row.stage number)).stage ≡ news.Failed why → ⊥ = λ at.
    live (block_failed row.stage number why (sym (ap news_in (settled_stage row (with_block row.stage number))) ∙ at)) in
    absurd (either row (Took number) by (news.Failed why) never never e)
ends_row row (Move stage) by why live goes e =
    absurd (either row (Move stage) by (news.Failed why) (first_failed stage why goes) (going_failed stage why goes) e)
ends_row row (Return g) by why live goes e = returned_failed row g by why e
ends_row row Fail by why live goes e = (same_reason by why (sym (fail_told row by) ∙ e), tt)

told_by : (row : Row) (step : Step) (by : Reason) → FailsAt row step → news_in (stepped row step by).stage ≡ news.Failed by
told_by row Fail by fails = fail_told row by
told_by row (Return g) by fails = return_told row g by fails
told_by row _ by fails = absurd fails

-- whatever its client
fails_before : (row : Row) (c : State) (step : Step) → FailsAt (record row { client = c }) step → FailsAt row step
fails_before row c (Return g) fails = fails
fails_before row c Fail fails = tt
fails_before row c _ fails = absurd fails

fails_after : (row : Row) (c : State) (step : Step) → FailsAt row step → FailsAt (record row { client = c }) step
fails_after row c (Return g) fails = fails
fails_after row c Fail fails = tt
fails_after row c _ fails = absurd fails

-- ---- the law

only_failed : (old new : Row) (datagram : List ℕ) (told : RowNews) (why : Reason) → ¬ (phase_of old.stage ≡ phase.Failed) → RowTakes old datagram told new → told ≡ news.Failed why → IsFailedBy old datagram why
only_failed old new datagram told why live takes failed =
    let between : Row = record old { client = takes.client } in
    let by : Reason = reason_at old.stage takes.answer in
    let told_so = sym (ap (λ (r : Row). news_in r.stage) takes.new_is) ∙ sym takes.told_is ∙ failed in
    let ends = ends_row between takes.step by why live (leads_on old.name old.size old.stage takes.heard takes.step takes.leads) told_so in
    record {
      heard = takes.heard;
      client = takes.client;
      step = takes.step;
      takes = takes.takes;
      answered = takes.answered ∙ ap (λ (r : Reason). (let o : Option Answer = Some r.answer in o)) ends.0;
      in_phase = ap (λ (r : Reason). r.phase) ends.0;
      leads = takes.leads;
      fails = fails_before old takes.client takes.step ends.1;
    }

is_failed : OneHearing → (old new : Row) (datagram : List ℕ) (told : RowNews) (why : Reason) → RowTakes old datagram told new → IsFailedBy old datagram why → told ≡ news.Failed why
is_failed one old new datagram told why a b =
    let same : (a.heard ≡ b.heard) × (a.client ≡ b.client) = one old.client a.client b.client datagram a.heard b.heard (inl a.takes) (inl b.takes) in
    let P : Heard → Type 0 = λ h. Leads old.name old.size old.stage h b.step in
    let step : a.step ≡ b.step = one_first (rows old.name old.size old.stage a.heard) (otherwise old.stage) a.step b.step a.leads (subst P (sym same.0) b.leads) in
    let answer : a.answer ≡ why.answer = same_answer a.answer why.answer (sym a.answered ∙ ap answer_of same.0 ∙ b.answered) in
    let by : Reason = reason_at old.stage a.answer in
    let between : Row = record old { client = a.client } in
    let reason : by ≡ why =
    ap (λ (x : Answer). reason_at old.stage x) answer ∙ ap (λ p. (let r : Reason = record { phase = p; answer = why.answer } in r)) b.in_phase in
    a.told_is
    ∙ ap (λ (r : Row). news_in r.stage) a.new_is
    ∙ ap (λ (s : Step). news_in (stepped between s by).stage) step
    ∙ told_by between b.step by (fails_after old a.client b.step b.fails)
    ∙ ap (λ (r : Reason). (let n : RowNews = news.Failed r in n)) reason

pub failed_by_answer : OneHearing → FailedByAnswer
failed_by_answer one old new datagram told why live (inl takes) = (only_failed old new datagram told why live takes, is_failed one old new datagram told why takes)
failed_by_answer one old new datagram told why live (inr ignores) = (
  λ failed. absurd (nothing_failed why (sym ignores.1 ∙ failed)),
  λ is. absurd (ignores.0 is.takes.0 is.heard is.takes.1),
)
