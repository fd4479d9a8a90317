-- When a head end reports that a meter failed, and why.
use Rattle.std.proofs.Common.{◌≡◌, ℕ, List, Option, Some, None, inl, inr, refl, sym, ap, subst, ◌∙◌}
use Rattle.fw_names.specs.Name.{Campaign}
use Rattle.fw_book.specs.declared.phase.Phase.TheVariants as phase
use Rattle.fw_book.specs.declared.notes.Reason.{Reason}
use Rattle.fw_head.specs.declared.stage.Stage.{Stage}
use Rattle.fw_head.specs.declared.stage.Stage.TheVariants.{Size, Enable, Start, Blocks, Check, Gaps, Verify, Poll, Info, Activate, Confirm, Done, Failed}
use Rattle.fw_head.specs.declared.news.News.{News}
use Rattle.fw_head.specs.declared.news.News.TheVariants as news
use Rattle.fw_head.specs.declared.news.RowNews.{RowNews}
use Rattle.fw_head.specs.declared.news.RowNews.TheVariants as by
use Rattle.fw_head.specs.Phase.{phase_of, IsLive}
use Rattle.fw_head.specs.Row.{Row, reason_of, IsFailedBy}
use Rattle.fw_head.specs.Head.{Head, Rows, RowsHear, HeadHears, IsHead, IsGivenUp, IsGivenUpBy, TellsReason, row_of, news_of}
use Rattle.fw_head.specs.Laws.{FailedByAnswer, ReportedByAnswer}
use Rattle.fw_head.proofs.LiveRows.{some_row, same_found}

-- a live row has not failed
not_failed : (stage : Stage) → IsLive stage → phase_of stage ≡ phase.Failed → ⊥
not_failed Size live e = cc
not_failed (Enable g) live e = cc
not_failed (Start g) live e = cc
not_failed (Blocks g known) live e = cc
not_failed (Check g) live e = cc
not_failed (Gaps g) live e = cc
not_failed (Verify g) live e = cc
not_failed (Poll g) live e = cc
not_failed (Info g) live e = cc
not_failed (Activate g) live e = cc
not_failed (Confirm g) live e = cc
not_failed (Done claim) live e = live
not_failed (Failed why) live e = live

-- only a row that is given up leads to that report
told_failed : (heard : RowNews) (c d : Campaign) (from meter : ℕ) → news_of c from heard ≡ news.Failed d meter → (why : Reason) × (heard ≡ by.Failed why) × (c ≡ d) × (from ≡ meter)
told_failed by.Nothing c d from meter e = absurd (nothing e)
  where
    nothing : news.Nothing ≡ news.Failed d meter → ⊥
    nothing e = cc
told_failed by.Moved c d from meter e = absurd (moved e)
  where
    moved : news.Moved ≡ news.Failed d meter → ⊥
    moved e = cc
told_failed (by.Done claim) c d from meter e = absurd (done e)
  where
    done : news.Done c from ≡ news.Failed d meter → ⊥
    done e = cc
told_failed (by.Failed why) c d from meter e = (why, refl, campaigns e, meters e)
  where
    campaigns : news.Failed c from ≡ news.Failed d meter → c ≡ d
    campaigns e = cc

    meters : news.Failed c from ≡ news.Failed d meter → from ≡ meter
    meters e = cc

none_row : (row : Row) → (let o : Option Row = None in o ≡ Some row) → ⊥
none_row row e = cc

module _ (law : FailedByAnswer) (head : Head) (is : IsHead head) where
  only_failed : (from : ℕ) (datagram : List ℕ) (told : News) (new : Head) → HeadHears head from datagram told new
      → (campaign : Campaign) (meter : ℕ) → told ≡ news.Failed campaign meter → (meter ≡ from) × IsGivenUp head meter datagram campaign
  only_failed from datagram told new (inl takes) campaign meter failed =
      let parts = told_failed takes.heard takes.row.name.campaign campaign from meter (sym takes.told_is ∙ failed) in
      let row = is.of_book from takes.row takes.found in
      let by_answer = (law takes.row takes.next datagram takes.heard parts.0 (not_failed takes.row.stage row.going) takes.hears).0 parts.1 in
      let P : ℕ → Type 0 = λ m. IsGivenUpBy head m datagram campaign parts.0 in
      (sym parts.3, (parts.0, subst P parts.3 (record { row = takes.row; found = takes.found; of = parts.2; failed = by_answer })))
  only_failed from datagram told new (inr ignores) campaign meter failed = absurd (nothing (sym ignores.1 ∙ failed))
    where
      nothing : news.Nothing ≡ news.Failed campaign meter → ⊥
      nothing e = cc

  is_failed : (from : ℕ) (datagram : List ℕ) (told : News) (new : Head) → HeadHears head from datagram told new
      → (campaign : Campaign) (meter : ℕ) → meter ≡ from → IsGivenUp head meter datagram campaign → told ≡ news.Failed campaign meter
  is_failed from datagram told new (inl takes) campaign meter same given =
      let up = given.1 in
      let found : row_of head.rows from ≡ Some up.row = ap (λ m. row_of head.rows m) (sym same) ∙ up.found in
      let row : up.row ≡ takes.row = some_row up.row takes.row (sym found ∙ takes.found) in
      let C : Row → Type 0 = λ r. IsFailedBy r datagram given.0 in
      let live = (is.of_book from takes.row takes.found).going in
      let heard = (law takes.row takes.next datagram takes.heard given.0 (not_failed takes.row.stage live) takes.hears).1 (subst C row up.failed) in
      takes.told_is ∙ ap (λ h. news_of takes.row.name.campaign from h) heard
      ∙ ap (λ (r : Row). (let n : News = news.Failed r.name.campaign from in n)) (sym row)
      ∙ ap (λ (c : Campaign). (let n : News = news.Failed c from in n)) up.of
      ∙ ap (λ m. (let n : News = news.Failed campaign m in n)) (sym same)
  is_failed from datagram told new (inr ignores) campaign meter same given =
      absurd (none_row given.1.row (sym ignores.0 ∙ ap (λ m. row_of head.rows m) (sym same) ∙ given.1.found))

  -- ---- what is told beside the news

  reason_told : (meter : ℕ) (datagram : List ℕ) (rows : Rows) (row : Row) (campaign : Campaign) (heard : RowNews) → RowsHear head.rows meter datagram heard rows → row_of head.rows meter ≡ Some row → campaign ≡ row.name.campaign → TellsReason head meter datagram (news_of campaign meter heard) (reason_of heard)
  reason_told meter datagram rows row campaign by.Nothing hears found of = refl
  reason_told meter datagram rows row campaign by.Moved hears found of = refl
  reason_told meter datagram rows row campaign (by.Done claim) hears found of = refl
  reason_told meter datagram rows row campaign (by.Failed why) (inl x) found of =
      let it : x.0 ≡ row = same_found meter meter head.rows x.0 row refl x.2 found in
      let live = (is.of_book meter x.0 x.2).going in
      record {
        row = x.0;
        found = x.2;
        of = ap (λ (r : Row). r.name.campaign) it ∙ sym of;
        failed = (law x.0 x.1 datagram (by.Failed why) why (not_failed x.0.stage live) x.3).0 refl;
      }
  reason_told meter datagram rows row campaign (by.Failed why) (inr x) found of = absurd (none_row row (sym x.0 ∙ found))

  -- the same for news and a reason that equal these
  pub tells_reason : (meter : ℕ) (datagram : List ℕ) (rows : Rows) (row : Row) (campaign : Campaign) (heard : RowNews) (told : News) (reason : Option Reason) → RowsHear head.rows meter datagram heard rows → row_of head.rows meter ≡ Some row → campaign ≡ row.name.campaign → told ≡ news_of campaign meter heard → reason ≡ reason_of heard → TellsReason head meter datagram told reason
  tells_reason meter datagram rows row campaign heard told reason hears found of news_is reason_is =
      let P : News → Type 0 = λ n. TellsReason head meter datagram n (reason_of heard) in
      let Q : Option Reason → Type 0 = λ r. TellsReason head meter datagram told r in
      subst Q (sym reason_is) (subst P (sym news_is) (reason_told meter datagram rows row campaign heard hears found of))

pub reported_by_answer : FailedByAnswer → ReportedByAnswer
reported_by_answer law old new from datagram told campaign meter is hears = (
  only_failed law old is from datagram told new hears campaign meter,
  λ both. is_failed law old is from datagram told new hears campaign meter both.0 both.1,
)
