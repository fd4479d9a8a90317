-- Public vocabulary: meters that are live in a campaign of a book.
use Rattle.std.specs.Prelude.{◌≡◌, ℕ, List, Some, find}
use Rattle.fw_book.specs.Contents.{Contents, is_busy, state_in}
use Rattle.fw_book.specs.declared.row.RowState.TheVariants.{Live}
use Rattle.fw_host.specs.declared.busy.BusyMeter.{BusyMeter}
use Rattle.fw_host.specs.Openings.{campaign_in}

-- the first of these meters that is live in a campaign of the book, and a campaign in which it is
pub record IsFirstBusy (book : Contents) (meters : List ℕ) (busy : BusyMeter) : Type 0 where
  pub first : find (λ meter. is_busy book.campaigns meter) meters ≡ Some busy.meter
  pub live : state_in book (campaign_in book busy.serial) busy.meter ≡ Some Live
