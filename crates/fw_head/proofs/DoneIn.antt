-- When a head end reports that a meter is done.
use Rattle.std.proofs.Common.{◌≡◌, ℕ, List, Option, Some, None, inl, inr, refl, sym, ap, subst, ◌∙◌}
use Rattle.fw_names.specs.Name.{Name, Campaign}
use Rattle.fw_client.specs.Claim.{Claim}
use Rattle.fw_book.specs.Contents.{name_in}
use Rattle.fw_book.specs.declared.phase.Phase.TheVariants as phase
use Rattle.fw_head.specs.declared.stage.Stage.{Stage}
use Rattle.fw_head.specs.declared.stage.Stage.TheVariants.{Size, Enable, Start, Blocks, Check, Gaps, Verify, Poll, Info, Activate, Confirm, Done, Failed}
use Rattle.fw_head.specs.declared.news.News.{News}
use Rattle.fw_head.specs.declared.news.News.TheVariants as news
use Rattle.fw_head.specs.declared.news.RowNews.{RowNews}
use Rattle.fw_head.specs.declared.news.RowNews.TheVariants as by
use Rattle.fw_head.specs.Phase.{phase_of, IsLive}
use Rattle.fw_head.specs.Row.{Row}
use Rattle.fw_head.specs.Head.{Head, HeadHears, IsHead, IsDoneBy, row_of, news_of}
use Rattle.fw_head.specs.Laws.{DoneByClaim, ReportedByClaim, IsConfirmedBy}
use Rattle.fw_head.proofs.LiveRows.{some_row}

-- a live row is not done
not_done : (stage : Stage) → IsLive stage → phase_of stage ≡ phase.Done → ⊥
not_done Size live e = cc
not_done (Enable g) live e = cc
not_done (Start g) live e = cc
not_done (Blocks g known) live e = cc
not_done (Check g) live e = cc
not_done (Gaps g) live e = cc
not_done (Verify g) live e = cc
not_done (Poll g) live e = cc
not_done (Info g) live e = cc
not_done (Activate g) live e = cc
not_done (Confirm g) live e = cc
not_done (Done claim) live e = live
not_done (Failed why) live e = cc

-- only a claim leads to that report
told_done : (heard : RowNews) (c d : Campaign) (from meter : ℕ) → news_of c from heard ≡ news.Done d meter → (claim : Claim) × (heard ≡ by.Done claim) × (c ≡ d) × (from ≡ meter)
told_done by.Nothing c d from meter e = absurd (nothing e)
  where
    nothing : news.Nothing ≡ news.Done d meter → ⊥
    nothing e = cc
told_done by.Moved c d from meter e = absurd (moved e)
  where
    moved : news.Moved ≡ news.Done d meter → ⊥
    moved e = cc
told_done (by.Done claim) c d from meter e = (claim, refl, campaigns e, meters e)
  where
    campaigns : news.Done c from ≡ news.Done d meter → c ≡ d
    campaigns e = cc

    meters : news.Done c from ≡ news.Done d meter → from ≡ meter
    meters e = cc
told_done (by.Failed why) c d from meter e = absurd (failed e)
  where
    failed : news.Failed c from ≡ news.Done d meter → ⊥
    failed e = cc

none_row : (row : Row) → (let o : Option Row = None in o ≡ Some row) → ⊥
none_row row e = cc

some_name : (a b : Name) → (let o : Option Name = Some a in o ≡ Some b) → a ≡ b
some_name a b e = cc

module _ (law : DoneByClaim) (head : Head) (is : IsHead head) where
  only_done : (from : ℕ) (datagram : List ℕ) (told : News) (new : Head) → HeadHears head from datagram told new
      → (campaign : Campaign) (meter : ℕ) → told ≡ news.Done campaign meter → (meter ≡ from) × IsDoneBy head meter datagram campaign
  only_done from datagram told new (inl takes) campaign meter done =
      let parts = told_done takes.heard takes.row.name.campaign campaign from meter (sym takes.told_is ∙ done) in
      let row = is.of_book from takes.row takes.found in
      let confirmed = (law takes.row takes.next datagram takes.heard parts.0 (not_done takes.row.stage row.going) takes.hears).0 parts.1 in
      let P : ℕ → Type 0 = λ m. IsDoneBy head m datagram campaign in (
        sym parts.3,
        subst P parts.3 (record {
          row = takes.row;
          claim = parts.0;
          found = takes.found;
          of = parts.2;
          waits = confirmed.waits;
          claimed = confirmed.claimed;
          named = ap (λ c. name_in head.book c) (sym parts.2) ∙ row.named ∙ ap (λ (n : Name). (let o : Option Name = Some n in o)) (sym confirmed.named);
        }),
      )
  only_done from datagram told new (inr ignores) campaign meter done = absurd (nothing (sym ignores.1 ∙ done))
    where
      nothing : news.Nothing ≡ news.Done campaign meter → ⊥
      nothing e = cc

  is_done : (from : ℕ) (datagram : List ℕ) (told : News) (new : Head) → HeadHears head from datagram told new
      → (campaign : Campaign) (meter : ℕ) → meter ≡ from → IsDoneBy head meter datagram campaign → told ≡ news.Done campaign meter
  is_done from datagram told new (inl takes) campaign meter same d =
      let found : row_of head.rows from ≡ Some d.row = ap (λ m. row_of head.rows m) (sym same) ∙ d.found in
      let row : d.row ≡ takes.row = some_row d.row takes.row (sym found ∙ takes.found) in
      let named = some_name d.claim.name d.row.name (sym d.named ∙ ap (λ c. name_in head.book c) (sym d.of) ∙ (is.of_book from d.row found).named) in
      let C : Row → Type 0 = λ r. IsConfirmedBy r datagram d.claim in
      let confirmed = subst C row (record { waits = d.waits; claimed = d.claimed; named = named }) in
      let live = (is.of_book from takes.row takes.found).going in
      let heard = (law takes.row takes.next datagram takes.heard d.claim (not_done takes.row.stage live) takes.hears).1 confirmed in
      takes.told_is ∙ ap (λ h. news_of takes.row.name.campaign from h) heard
      ∙ ap (λ (r : Row). (let n : News = news.Done r.name.campaign from in n)) (sym row)
      ∙ ap (λ (c : Campaign). (let n : News = news.Done c from in n)) d.of
      ∙ ap (λ m. (let n : News = news.Done campaign m in n)) (sym same)
  is_done from datagram told new (inr ignores) campaign meter same d =
      absurd (none_row d.row (sym ignores.0 ∙ ap (λ m. row_of head.rows m) (sym same) ∙ d.found))

pub reported_by_claim : DoneByClaim → ReportedByClaim
reported_by_claim law old new from datagram told campaign meter is hears = (
  only_done law old is from datagram told new hears campaign meter,
  λ both. is_done law old is from datagram told new hears campaign meter both.0 both.1,
)
