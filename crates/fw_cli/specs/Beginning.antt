-- Public vocabulary: what `head` cancels and opens before it leads, and which head end it leads, and how.
use Rattle.std.specs.Prelude.{◌≡◌, ◌≢◌, ℕ, List, [], ◌∷◌, Option, None, Some}
use Rattle.fw_book.specs.Contents.{Contents}
use Rattle.fw_head.specs.Head.{BeginsWith, Head, opened_head}
use Rattle.fw_journal.specs.declared.file.FileDevice.{FileDevice}
use Rattle.fw_kept.specs.Head.{book_of, head_of}
use Rattle.fw_kept.specs.declared.head.KeptHead.{KeptHead}
use Rattle.fw_plan.specs.Openings.{AreParts, lacking, unlisted}
use Rattle.fw_plan.specs.Ranges.{serials_of}
use Rattle.fw_plan.specs.declared.absent.UnlistedRow.{UnlistedRow}
use Rattle.fw_plan.specs.declared.part.Part.{Part}
use Rattle.fw_plan.specs.declared.ranges.SerialRange.{SerialRange}
use Rattle.fw_rollout.specs.Counting.{counted_of}
use Rattle.fw_rollout.specs.Daemon.{HasRunOut, kept_of, meters_of, timing_of}
use Rattle.fw_rollout.specs.declared.daemon.HeadDaemon.{HeadDaemon}
use Rattle.fw_rollout.specs.Plans.{plan_of}
use Rattle.fw_rollout.specs.declared.link.Listed.{Listed}
use Rattle.fw_rollout.specs.declared.plan.Plan.{Plan}
use Rattle.fw_rollout.specs.declared.timing.Timing.{Timing}
use Rattle.fw_host.specs.Lists.{SpellsList}
use Rattle.fw_host.specs.Openings.{listed_meters}
use Rattle.fw_host.specs.Waves.{listed_in}
use Rattle.fw_host.specs.declared.head_opening.Opening.{Opening}
use Rattle.fw_host.specs.declared.wave_list.Planned.{Planned}
use Rattle.fw_cli.specs.Cancelling.{cancelled_all}
use Rattle.fw_cli.specs.declared.beginning.Changes.{Changes}
use Rattle.fw_cli.specs.declared.beginning.Opened.{Opened}
use Rattle.fw_cli.specs.declared.head.HeadOptions.{HeadOptions}
use Rattle.fw_cli.specs.declared.head.LedOut.{LedOut}
use Rattle.fw_cli.specs.declared.head.LedOut.TheVariants as led

-- ---- what is asked of the book

-- what is opened is what the options ask for
abbrev pub IsOpeningOf : Option Opening → Option Opened → Type 0
IsOpeningOf None opened = opened ≡ None
IsOpeningOf (Some opening) opened =
    (them : Opened) × (opened ≡ Some them) × (them.serial ≡ opening.serial) × (them.release ≡ opening.release)

-- the campaigns of it that a book lacks for the meters of a list; none if nothing is opened
abbrev pub AreOpenings : Option Opened → List Listed → Contents → List Part → Type 0
AreOpenings None list book parts = parts ≡ []
AreOpenings (Some them) list book parts =
    AreParts book them.serial (lacking book them.serial them.release them.image.items (listed_meters list)) parts

-- what is cancelled in this book is what serial numbers and ranges name in it, and what is opened is what it lacks
pub record AreChanges (book : Contents) (named : List SerialRange) (opened : Option Opened) (list : List Listed) (changes : Changes) : Type 0 where
  pub cancels : changes.cancels.items ≡ serials_of book named
  pub openings : AreOpenings opened list book changes.parts.items

-- the head end once these campaigns are opened with an image of this release, one after the other
abbrev pub opened_all : ℕ → List ℕ → List Part → Head → Head
opened_all release image [] head = head
opened_all release image (part ∷ parts) head =
    opened_all release image parts (opened_head head part.serial release image part.meters.items)

abbrev pub OpensThem : Option Opened → List Part → Head → Head → Type 0
OpensThem None parts old new = new ≡ old
OpensThem (Some them) parts old new = new ≡ opened_all them.release them.image.items parts old

-- what is cancelled is cancelled first, and what is opened is opened then
abbrev pub Begins : Changes → Option Opened → Head → Head → Type 0
Begins changes opened old new = OpensThem opened changes.parts.items (cancelled_all changes.cancels.items old) new

-- ---- which head end is led

-- the daemon of this head end asks nobody yet, waits for answers so, and has this plan
pub record IsDaemonOf {D : Type 0} (kept : KeptHead D) (timing : Timing) (plan : Plan) (daemon : HeadDaemon D) : Type 0 where
  pub leads : kept_of daemon ≡ kept
  pub asks : meters_of daemon ≡ []
  pub waits : timing_of daemon ≡ timing
  pub planned : plan_of daemon ≡ plan

-- what is said of the rows, if these are live and their meters aren't in the list, and so many of those that are led failed
abbrev pub HasLedTo : List UnlistedRow → ℕ → LedOut → Type 0
HasLedTo rows failed led.NoneFailed = (rows ≡ []) × (failed ≡ 0)
HasLedTo rows failed led.SomeFailed = (rows ≡ []) × (failed ≢ 0)
HasLedTo rows failed led.SomeUnlisted = rows ≢ []

-- What `head` did with these options. The meters are those of a list, and the head end has the number and the width of the options and began
-- with a book. What the options cancel and open in it was cancelled and opened. A daemon was made of that which asks nobody yet, and waits and
-- has a plan as the options say. The code has it ask these meters wave after wave, and leads it to `last`, which asks all of them: no row of
-- theirs is live and none waits to be put on the device, and it counted whether rows failed. Whether rows of other meters are live, the book
-- says with which the daemon was made.
pub record HasLedOut (options : HeadOptions) (led : LedOut) : Type 0 where
  pub text : List ℕ
  pub list : List Planned
  pub spelled : SpellsList options.listen text list
  pub opened : Option Opened
  pub opening : IsOpeningOf options.opening opened
  pub found : KeptHead FileDevice
  pub number : (book_of found).head ≡ options.head
  pub width : BeginsWith (book_of found) options.width (head_of found)
  pub changes : Changes
  pub asked : AreChanges (book_of found) options.cancel.items opened (listed_in list) changes
  pub kept : KeptHead FileDevice
  pub begun : Begins changes opened (head_of found) (head_of kept)
  pub daemon : HeadDaemon FileDevice
  pub made : IsDaemonOf kept options.timing options.plan daemon
  pub last : HeadDaemon FileDevice
  pub asks : meters_of last ≡ listed_in list
  pub ran_out : HasRunOut last
  pub ended : HasLedTo (unlisted (listed_meters (listed_in list)) (book_of kept)) (counted_of last).failed led
