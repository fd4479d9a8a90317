-- Public vocabulary: the campaigns that are cancelled in a book and opened, and what it says of them.
use Rattle.std.specs.Prelude.{◌≡◌, ℕ, ◌≤◌, List, None, Some, map, Contains}
use Rattle.fw_book.specs.declared.error.BookError.{BookError}
use Rattle.fw_names.specs.Name.{Campaign}
use Rattle.fw_book.specs.Changes.{cancel_refusal, opening_refusal}
use Rattle.fw_book.specs.Contents.{Contents}
use Rattle.fw_plan.specs.declared.error.PlanError.{PlanError}
use Rattle.fw_plan.specs.declared.error.PlanError.TheVariants as plan
use Rattle.fw_plan.specs.declared.part.Part.{Part}
use Rattle.fw_plan.specs.Openings.{PartsRefused as NoParts}
use Rattle.fw_rollout.specs.declared.link.Listed.{Listed}
use Rattle.fw_host.specs.declared.error.CancelsError.{CancelsError}
use Rattle.fw_host.specs.declared.error.CancelsError.TheVariants as cancels

-- the meters of a list, in its order
abbrev pub listed_meters : List Listed → List ℕ
listed_meters list = map (λ (at : Listed). at.meter) list

-- the campaign of this serial number, of the head end whose book it is
abbrev pub campaign_in : Contents → ℕ → Campaign
campaign_in book serial = record { head = book.head; serial = serial }

-- ---- what is cancelled

-- the book lets this campaign be cancelled
abbrev pub IsCancelledBy : Contents → ℕ → Type 0
IsCancelledBy book serial = cancel_refusal book (campaign_in book serial) ≡ None

-- the book refuses it for this; it has no campaign of number 0
abbrev pub RefusesCancel : Contents → ℕ → BookError → Type 0
RefusesCancel book serial refusal = 1 ≤ serial → cancel_refusal book (campaign_in book serial) ≡ Some refusal

-- it refuses one of these for this
pub record RefusesOneCancel (book : Contents) (serials : List ℕ) (refusal : BookError) : Type 0 where
  pub serial : ℕ
  pub within : Contains serials serial
  pub refused : RefusesCancel book serial refusal

-- or memory ran out
abbrev pub CancelsRefused : Contents → List ℕ → CancelsError → Type 0
CancelsRefused book serials (cancels.Refused refusal) = RefusesOneCancel book serials refusal
CancelsRefused book serials cancels.OutOfMemory = Unit {0}

-- ---- what is opened

-- Why there are no campaigns for these meters: the first serial number is 0, or too few are free from it on; or memory ran out.
abbrev pub PartsRefused : Contents → ℕ → List ℕ → PlanError → Type 0
PartsRefused book serial meters plan.NoSerial = NoParts book serial meters plan.NoSerial
PartsRefused book serial meters plan.OutOfMemory = Unit {0}

-- the book takes this campaign
abbrev pub IsTakenBy : Contents → List ℕ → Part → Type 0
IsTakenBy book image part = opening_refusal book (campaign_in book part.serial) image part.meters.items ≡ None

-- the book's first refusal of this campaign
abbrev pub RefusesPart : Contents → List ℕ → Part → BookError → Type 0
RefusesPart book image part refusal = opening_refusal book (campaign_in book part.serial) image part.meters.items ≡ Some refusal

-- it refuses one of these for this
pub record RefusesOne (book : Contents) (image : List ℕ) (parts : List Part) (refusal : BookError) : Type 0 where
  pub part : Part
  pub within : Contains parts part
  pub refused : RefusesPart book image part refusal
