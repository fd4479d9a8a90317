-- Public vocabulary: the laws of a row, and of a head end in parts.
use Rattle.std.specs.Prelude.{◌≡◌, ◌↔◌, List, ℕ, None, Some}
use Rattle.std.specs.Map.{values_of}
use Rattle.fw_names.specs.Name.{Campaign}
use Rattle.fw_client.specs.Claim.{Claim}
use Rattle.fw_client.specs.Hearing.{IsClaimed}
use Rattle.fw_book.specs.declared.row.RowState.{RowState}
use Rattle.fw_book.specs.declared.row.RowState.TheVariants as state
use Rattle.fw_book.specs.Contents.{Contents, image_in, name_in, state_in}
use Rattle.fw_book.specs.Changes.{opening_refusal}
use Rattle.fw_book.specs.declared.notes.Reason.{Reason}
use Rattle.fw_head.specs.declared.giving_up.GivenUp.{GivenUp}
use Rattle.fw_head.specs.declared.giving_up.WhyGivenUp.{WhyGivenUp}
use Rattle.fw_head.specs.declared.stage.Stage.{Stage}
use Rattle.fw_head.specs.declared.stage.Stage.TheVariants.{Done, Failed}
use Rattle.fw_head.specs.declared.news.News.{News}
use Rattle.fw_head.specs.declared.news.News.TheVariants as of_head
use Rattle.fw_book.specs.declared.phase.Phase.TheVariants as phase
use Rattle.fw_head.specs.declared.news.RowNews.{RowNews}
use Rattle.fw_head.specs.declared.news.RowNews.TheVariants as news
use Rattle.fw_head.specs.Phase.{phase_of}
use Rattle.fw_head.specs.Row.{Row, RowHears, IsFailedBy}
use Rattle.fw_head.specs.Head.{Head, GivesUpRow, HeadHears, IsDoneBy, IsGivenUp, IsHead, row_of, restarted, asking_first, BeginsWith, cancelled_head, new_head, opened_head, ticked_head}
use Rattle.fw_head.specs.Parts.{AreLiveRows, by_meter, with_ends, joined}

-- a row and a datagram determine what is reported, and the row afterwards
abbrev pub OneRow : Type 0
OneRow =
    (old new other : Row) (datagram : List ℕ) (told also : RowNews)
    → RowHears old datagram told new → RowHears old datagram also other → (told ≡ also) × (new ≡ other)

-- two rows of one meter, for one image
pub record IsOfSameGoal (a b : Row) : Type 0 where
  pub name : b.name ≡ a.name
  pub size : b.size ≡ a.size
  pub meter : b.client.meter ≡ a.client.meter

-- whatever a row hears, it stays a row of its meter, for its image
abbrev pub RowKeepsGoal : Type 0
RowKeepsGoal = (old new : Row) (datagram : List ℕ) (told : RowNews) → RowHears old datagram told new → IsOfSameGoal old new

-- a row in Confirm is answered by its meter's claim under the row's own name
pub record IsConfirmedBy (row : Row) (datagram : List ℕ) (claim : Claim) : Type 0 where
  pub waits : phase_of row.stage ≡ phase.Confirm
  pub claimed : IsClaimed row.client datagram claim
  pub named : claim.name ≡ row.name

-- a row becomes done exactly then
abbrev pub DoneByClaim : Type 0
DoneByClaim =
    (old new : Row) (datagram : List ℕ) (told : RowNews) (claim : Claim)
    → ¬ (phase_of old.stage ≡ phase.Done) → RowHears old datagram told new
    → (told ≡ news.Done claim) ↔ IsConfirmedBy old datagram claim

-- a row that hasn't failed becomes so exactly if its meter's answer ends it, and for that reason
abbrev pub FailedByAnswer : Type 0
FailedByAnswer =
    (old new : Row) (datagram : List ℕ) (told : RowNews) (why : Reason)
    → ¬ (phase_of old.stage ≡ phase.Failed) → RowHears old datagram told new
    → (told ≡ news.Failed why) ↔ IsFailedBy old datagram why

-- a meter is reported done exactly if its own answer claims what the campaign offers
abbrev pub ReportedByClaim : Type 0
ReportedByClaim =
    (old new : Head) (from : ℕ) (datagram : List ℕ) (told : News) (campaign : Campaign) (meter : ℕ)
    → IsHead old → HeadHears old from datagram told new
    → (told ≡ of_head.Done campaign meter) ↔ ((meter ≡ from) × IsDoneBy old meter datagram campaign)

-- a meter is reported failed exactly if its own answer ends its row
abbrev pub ReportedByAnswer : Type 0
ReportedByAnswer =
    (old new : Head) (from : ℕ) (datagram : List ℕ) (told : News) (campaign : Campaign) (meter : ℕ)
    → IsHead old → HeadHears old from datagram told new
    → (told ≡ of_head.Failed campaign meter) ↔ ((meter ≡ from) × IsGivenUp old meter datagram campaign)

-- ---- a head end that is parted and put together

-- the same head end, except for the order of its live rows
pub record IsAsBefore (before after : Head) : Type 0 where
  pub book : after.book ≡ before.book
  pub width : after.width ≡ before.width
  pub rows : (meter : ℕ) → row_of after.rows meter ≡ row_of before.rows meter

-- A head end that is put together of its own book, width and live rows is as before, in whatever order the rows come.
abbrev pub PutBack : Type 0
PutBack =
    (head : Head) (rows : List Row)
    → IsHead head → AreLiveRows head.book rows → ((meter : ℕ) → row_of (by_meter rows) meter ≡ row_of head.rows meter)
    → IsAsBefore head (joined head.book head.width rows)

-- and in their order it is that head end
abbrev pub PutBackInOrder : Type 0
PutBackInOrder = (head : Head) → IsHead head → joined head.book head.width (values_of head.rows) ≡ head

-- the state that a book has of a row in this stage
abbrev pub state_of_stage : Stage → RowState
state_of_stage (Done claim) = state.Done
state_of_stage (Failed why) = state.Failed
state_of_stage stage = state.Live

-- What the ends of its live rows make of a book. No image changes, and no name. Each of the rows has the state of its stage, and every
-- state that was not live is as it was.
pub record MarksEnds (before after : Contents) (rows : List Row) : Type 0 where
  pub images : (campaign : Campaign) → image_in after campaign ≡ image_in before campaign
  pub names : (campaign : Campaign) → name_in after campaign ≡ name_in before campaign
  pub own : (meter : ℕ) (row : Row) → row_of (by_meter rows) meter ≡ Some row → state_in after row.name.campaign meter ≡ Some (state_of_stage row.stage)
  pub others : (campaign : Campaign) (meter : ℕ) → ¬ (state_in before campaign meter ≡ Some state.Live) → state_in after campaign meter ≡ state_in before campaign meter

-- A head end that is put together marks the ends of its rows in the book, and nothing else.
abbrev pub EndsAreMarked : Type 0
EndsAreMarked = (book : Contents) (rows : List Row) → AreLiveRows book rows → MarksEnds book (with_ends book rows) rows

-- ---- a head end that begins with a book that was kept

-- It is the head end of this book and width once it has started again, except for the order of its live rows, and that each of them asks
-- first what its meter has.
abbrev pub BeginsRestarted : Type 0
BeginsRestarted = (head begun : Head) → IsHead head → BeginsWith head.book head.width begun → IsAsBefore (asking_first (restarted head)) begun

-- ---- the live rows stay those of the book, each meter's once

pub record HeadsStay : Type 0 where
  pub new : (number width : ℕ) → IsHead (new_head number width)
  pub heard : (old new : Head) (meter : ℕ) (datagram : List ℕ) (told : News) → IsHead old → HeadHears old meter datagram told new → IsHead new
  pub given_up : (old new : Head) (meter : ℕ) (why : WhyGivenUp) (given : GivenUp) → IsHead old → GivesUpRow old meter why given new → IsHead new
  pub ticked : (head : Head) (meter : ℕ) → IsHead head → IsHead (ticked_head head meter)
  pub opened : (head : Head) (campaign : Campaign) (release : ℕ) (image meters : List ℕ) → IsHead head → opening_refusal head.book campaign image meters ≡ None
      → IsHead (opened_head head campaign.serial release image meters)
  pub cancelled : (head : Head) (serial : ℕ) → IsHead head → IsHead (cancelled_head head serial)
  pub restarted : (head : Head) → IsHead head → IsHead (restarted head)
