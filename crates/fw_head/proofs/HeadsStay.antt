-- The live rows stay those of the book.
use Rattle.std.proofs.Common.{◌≡◌, ℕ, ◌==◌, nat_eq, List, [], ◌++◌, length, Option, Some, None, inl, inr, refl, sym, ap, subst}
use Rattle.std.specs.List.{IsDistinct}
use Rattle.fw_names.specs.Name.{Campaign, Name, name_of}
use Rattle.fw_book.specs.declared.row.RowState.TheVariants as states
use Rattle.fw_book.specs.Contents.{Offered, state_in}
use Rattle.fw_book.specs.Changes.{empty_book, marked, opened, cancelled, opening_refusal}
use Rattle.fw_book.specs.Laws.{AdmittedOpens, ImagesStay, OpeningOffers, StatesFollowCalls}
use Rattle.fw_head.specs.declared.giving_up.GivenUp.{GivenUp}
use Rattle.fw_head.specs.declared.giving_up.WhyGivenUp.{WhyGivenUp}
use Rattle.fw_head.specs.declared.news.News.{News}
use Rattle.fw_head.specs.declared.news.RowNews.{RowNews}
use Rattle.fw_head.specs.declared.news.RowNews.TheVariants as by
use Rattle.fw_head.specs.Row.{Row, RowHears, ticked}
use Rattle.fw_head.specs.Head.{Head, GivesUpRow, HeadHears, IsHead, at_meter, cancelled_head, campaign_at, image_of, new_head, new_rows, opened_head, renewed, restarted, row_of, ticked_head, went_on, without_meter, without_serial}
use Rattle.fw_head.specs.Laws.{HeadsStay}
use Rattle.fw_head.proofs.Cancelling.{head_cancelled_by}
use Rattle.fw_head.proofs.Endings.{head_ended_by}
use Rattle.fw_head.proofs.Openings.{head_opened_by, none_row, offer_at}
use Rattle.fw_head.proofs.SameRows.{agree_at, agree_renewed, goal_heard, goes_ticked, head_heard, head_kept, keys_at, keys_renewed}

module _ (follow : StatesFollowCalls) (stay : ImagesStay) (offers : OpeningOffers) (opens : AdmittedOpens) where
  no_keys : IsDistinct nat_eq []
  unfolding IsDistinct
  no_keys = tt

  none_new : (number width : ℕ) → IsHead (new_head number width)
  none_new number width = record {
    of_book = λ meter row found. absurd (none_row row found);
    of_rows = λ campaign meter live. absurd (nothing campaign meter live);
    once = no_keys;
  }
    where
      none_offer : (offer : Offered) → (let o : Option Offered = None in o ≡ Some offer) → ⊥
      none_offer offer e = cc

      nothing : (campaign : Campaign) (meter : ℕ) → state_in (empty_book number) campaign meter ≡ Some states.Live → ⊥
      nothing campaign meter live =
          let at = offer_at meter states.Live (campaign.head == number) None live in
          absurd (none_offer at.1.0 at.1.1)

  went : (old : Head) (meter : ℕ) (datagram : List ℕ) (row next : Row) (heard : RowNews) → IsHead old → row_of old.rows meter ≡ Some row → RowHears row datagram heard next → IsHead (went_on old meter next heard)
  went old meter datagram row next by.Nothing is found hears = is
  went old meter datagram row next by.Moved is found hears =
      head_heard old.book old.width old.rows (at_meter meter (λ was. next) old.rows) meter datagram by.Moved (inl (row, next, found, hears, refl)) tt is
  went old meter datagram row next (by.Done claim) is found hears =
      let name = (goal_heard row next datagram (by.Done claim) hears).name in
      head_ended_by follow stay old.book (marked old.book next.name.campaign.serial meter states.Done) old.width old.rows (without_meter meter old.rows) meter row next.name.campaign.serial states.Done
      refl found (ap (λ (n : Name). n.campaign.serial) name) refl refl is
  went old meter datagram row next (by.Failed why) is found hears =
      let name = (goal_heard row next datagram (by.Failed why) hears).name in
      head_ended_by follow stay old.book (marked old.book next.name.campaign.serial meter states.Failed) old.width old.rows (without_meter meter old.rows) meter row next.name.campaign.serial states.Failed
      refl found (ap (λ (n : Name). n.campaign.serial) name) refl refl is

  heard : (old new : Head) (meter : ℕ) (datagram : List ℕ) (told : News) → IsHead old → HeadHears old meter datagram told new → IsHead new
  heard old new meter datagram told is (inl takes) =
      let P : Head → Type 0 = λ h. IsHead h in
      subst P (sym takes.new_is) (went old meter datagram takes.row takes.next takes.heard is takes.found takes.hears)
  heard old new meter datagram told is (inr ignores) =
      let P : Head → Type 0 = λ h. IsHead h in
      subst P (sym ignores.2) is

  gives_up : (old new : Head) (meter : ℕ) (why : WhyGivenUp) (given : GivenUp) → IsHead old → GivesUpRow old meter why given new → IsHead new
  gives_up old new meter why given is gives =
      let P : Head → Type 0 = λ h. IsHead h in
      let serial = gives.row.name.campaign.serial in
      subst P (sym gives.new_is)
      (head_ended_by follow stay old.book (marked old.book serial meter states.Failed) old.width old.rows (without_meter meter old.rows) meter gives.row serial states.Failed
      refl gives.found refl refl refl is)

  ticks : (head : Head) (meter : ℕ) → IsHead head → IsHead (ticked_head head meter)
  ticks head meter is =
      let change : Row → Row = λ row. ticked row (image_of head row) head.width in
      head_kept head.book head.width head.rows (at_meter meter change head.rows) (keys_at meter change head.rows)
      (agree_at meter change head.rows (λ row found. goes_ticked row (image_of head row) head.width)) is

  opening : (head : Head) (campaign : Campaign) (release : ℕ) (image meters : List ℕ) → IsHead head → opening_refusal head.book campaign image meters ≡ None
      → IsHead (opened_head head campaign.serial release image meters)
  opening head campaign release image meters is admitted =
      let o = (opens head.book campaign image meters).0 admitted in
      let whole : campaign ≡ campaign_at head campaign.serial = ap (λ n. (let c : Campaign = record { head = n; serial = campaign.serial } in c)) o.own in
      head_opened_by follow offers head.book (opened head.book campaign.serial release image meters) head.width head.rows
      (opened_head head campaign.serial release image meters).rows campaign release image meters o refl
      (ap (λ (c : Campaign). head.rows ++ new_rows (name_of c release image) (length image) meters) (sym whole)) is

  cancelling : (head : Head) (serial : ℕ) → IsHead head → IsHead (cancelled_head head serial)
  cancelling head serial is =
      head_cancelled_by follow stay head.book (cancelled head.book serial) head.width head.rows (without_serial serial head.rows) serial refl refl is

  again : (head : Head) → IsHead head → IsHead (restarted head)
  again head is = head_kept head.book head.width head.rows (renewed head.rows) (keys_renewed head.rows) (agree_renewed head.rows) is

  pub heads_stay : HeadsStay
  heads_stay = record { new = none_new; heard = heard; given_up = gives_up; ticked = ticks; opened = opening; cancelled = cancelling; restarted = again }
