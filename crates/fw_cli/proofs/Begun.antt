-- What a head end cancelled and opened before it leads.
use Rattle.std.proofs.Common.{◌≡◌, ℕ, ◌+◌, ◌<◌, List, [], ◌∷◌, ◌++◌, ◌∙◌, Option, Some, None, take, length, refl, sym, subst, ap, arith}
use Rattle.std.specs.Prelude.{slice_index_or, ◌≢◌}
use Rattle.std.proofs.lemmas.List.{take_more}
use Rattle.fw_book.specs.Changes.{empty_book}
use Rattle.fw_book.specs.Contents.{Contents}
use Rattle.fw_head.specs.Head.{BeginsWith, Head, cancelled_head, new_head, opened_head}
use Rattle.fw_journal.specs.declared.file.FileDevice.{FileDevice}
use Rattle.fw_kept.specs.Head.{book_of, head_of}
use Rattle.fw_kept.specs.declared.head.KeptHead.{KeptHead}
use Rattle.fw_plan.specs.Openings.{AreParts, lacking, unlisted}
use Rattle.fw_plan.specs.Ranges.{serials_of}
use Rattle.fw_plan.specs.declared.absent.UnlistedRow.{UnlistedRow}
use Rattle.fw_plan.specs.declared.part.Part.{Part}
use Rattle.fw_plan.specs.declared.ranges.SerialRange.{SerialRange}
use Rattle.fw_rollout.specs.Counting.{counted_of}
use Rattle.fw_rollout.specs.Daemon.{HasRunOut, meters_of}
use Rattle.fw_rollout.specs.declared.daemon.HeadDaemon.{HeadDaemon}
use Rattle.fw_rollout.specs.declared.link.Listed.{Listed}
use Rattle.fw_host.specs.Lists.{SpellsList}
use Rattle.fw_host.specs.Openings.{listed_meters}
use Rattle.fw_host.specs.Waves.{listed_in}
use Rattle.fw_host.specs.declared.wave_list.Planned.{Planned}
use Rattle.fw_host.specs.declared.head_opening.Opening.{Opening}
use Rattle.fw_cli.specs.Beginning.{AreChanges, AreOpenings, Begins, HasLedOut, HasLedTo, IsDaemonOf, IsOpeningOf, OpensThem, opened_all}
use Rattle.fw_cli.specs.Cancelling.{cancelled_all}
use Rattle.fw_cli.specs.Judging.{AreTaken}
use Rattle.fw_cli.proofs.Cancels.{cancels_more}
use Rattle.fw_cli.specs.declared.beginning.Changes.{Changes}
use Rattle.fw_cli.specs.declared.beginning.Opened.{Opened}
use Rattle.fw_cli.specs.declared.head.HeadOptions.{HeadOptions}
use Rattle.fw_cli.specs.declared.head.LedOut.{LedOut}

-- the next of a list is cancelled
pub cancelled_next : (serials : List ℕ) (i serial : ℕ) (old middle new : Head) → i < length serials → middle ≡ cancelled_all (take i serials) old
    → new ≡ cancelled_head middle serial → slice_index_or serials i serial ≡ serial → new ≡ cancelled_all (take (i + 1) serials) old
cancelled_next serials i serial old middle new within so_far one at =
    one ∙ ap (λ (h : Head). cancelled_head h serial) so_far ∙ sym (cancels_more (take i serials) serial old)
    ∙ ap (λ (n : ℕ). cancelled_all (take i serials ++ n ∷ []) old) (sym at) ∙ ap (λ (l : List ℕ). cancelled_all l old) (sym (take_more serials i serial within))

-- one more is opened, after the others
opens_more : (release : ℕ) (image : List ℕ) (parts : List Part) (part : Part) (head : Head) → opened_all release image (parts ++ part ∷ []) head
    ≡ opened_head (opened_all release image parts head) part.serial release image part.meters.items
opens_more release image [] part head = refl
opens_more release image (first ∷ parts) part head =
    opens_more release image parts part (opened_head head first.serial release image first.meters.items)

-- the next of a list
pub opens_next : (release : ℕ) (image : List ℕ) (parts : List Part) (i : ℕ) (part : Part) (old middle new : Head) → i < length parts
    → middle ≡ opened_all release image (take i parts) old → new ≡ opened_head middle part.serial release image part.meters.items
    → slice_index_or parts i part ≡ part → new ≡ opened_all release image (take (i + 1) parts) old
opens_next release image parts i part old middle new within so_far one at =
    one ∙ ap (λ (h : Head). opened_head h part.serial release image part.meters.items) so_far ∙ sym (opens_more release image (take i parts) part old)
    ∙ ap (λ (p : Part). opened_all release image (take i parts ++ p ∷ []) old) (sym at)
    ∙ ap (λ (l : List Part). opened_all release image l old) (sym (take_more parts i part within))

-- what is cancelled is cancelled, and what is opened is opened then
pub begins_some : (changes : Changes) (asked : Option Opened) (them : Opened) (cancels : List ℕ) (parts : List Part) (old middle new : Head) → asked ≡ Some them
    → cancels ≡ changes.cancels.items → parts ≡ changes.parts.items → middle ≡ cancelled_all cancels old
    → new ≡ opened_all them.release them.image.items parts middle → Begins changes asked old new
begins_some changes asked them cancels parts old middle new is first then cancelled opened =
    subst (λ (o : Option Opened). OpensThem o changes.parts.items (cancelled_all changes.cancels.items old) new) (sym is)
    (opened ∙ ap (λ (l : List Part). opened_all them.release them.image.items l middle) then
    ∙ ap (opened_all them.release them.image.items changes.parts.items) (cancelled ∙ ap (λ (l : List ℕ). cancelled_all l old) first))

pub begins_none : (changes : Changes) (asked : Option Opened) (cancels : List ℕ) (old new : Head) → asked ≡ None → cancels ≡ changes.cancels.items
    → new ≡ cancelled_all cancels old → Begins changes asked old new
begins_none changes asked cancels old new none first cancelled =
    subst (λ (o : Option Opened). OpensThem o changes.parts.items (cancelled_all changes.cancels.items old) new) (sym none)
    (cancelled ∙ ap (λ (l : List ℕ). cancelled_all l old) first)

-- what is opened is what is asked for
pub opening_some : (asked : Option Opening) (opening : Opening) (opened : Opened) → asked ≡ Some opening → IsOpeningOf (Some opening) (Some opened)
    → IsOpeningOf asked (Some opened)
opening_some asked opening opened is opens = subst (λ (o : Option Opening). IsOpeningOf o (Some opened)) (sym is) opens

pub opening_none : (asked : Option Opening) → asked ≡ None → IsOpeningOf asked None
opening_none asked none = subst (λ (o : Option Opening). IsOpeningOf o None) (sym none) refl

-- the campaigns that a book lacks
pub openings_some : (asked : Option Opened) (them : Opened) (list meters : List Listed) (image : List ℕ) (book : Contents) (parts : List Part)
    → asked ≡ Some them → meters ≡ list → image ≡ them.image.items
    → AreParts book them.serial (lacking book them.serial them.release image (listed_meters meters)) parts → AreOpenings asked list book parts
openings_some asked them list meters image book parts is same bytes are =
    subst (λ (o : Option Opened). AreOpenings o list book parts) (sym is)
    (subst (λ (l : List Listed). AreParts book them.serial (lacking book them.serial them.release them.image.items (listed_meters l)) parts) same
    (subst (λ (bs : List ℕ). AreParts book them.serial (lacking book them.serial them.release bs (listed_meters meters)) parts) bytes are))

pub openings_none : (asked : Option Opened) (list : List Listed) (book : Contents) (parts : List Part) → asked ≡ None → parts ≡ [] → AreOpenings asked list book parts
openings_none asked list book parts none empty = subst (λ (o : Option Opened). AreOpenings o list book parts) (sym none) empty

-- a list that a loop is inside of has something
pub some_within : {X : Type 0} (xs : List X) (i : ℕ) → i < length xs → xs ≢ []
some_within {X} xs i within none = absurd (omega (arith, subst (λ (l : List X). i < length l) none within))

-- campaigns that are taken, by other names
pub taken_as : (book : Contents) (opened : Option Opened) (cancels mine : List ℕ) (parts yours : List Part) → cancels ≡ mine → parts ≡ yours
    → (cancels ≡ [] → AreTaken book opened parts) → mine ≡ [] → AreTaken book opened yours
taken_as book opened cancels mine parts yours first then taken none = subst (AreTaken book opened) then (taken (first ∙ none))

-- campaigns are cancelled only if some are named
pub cancels_asked : (book : Contents) (named : List SerialRange) (opened : Option Opened) (list : List Listed) (changes : Changes)
    → AreChanges book named opened list changes → changes.cancels.items ≢ [] → named ≢ []
cancels_asked book named opened list changes are some none = some (are.cancels ∙ ap (serials_of book) none)

-- what is changed in a book is changed in the same
pub changes_in : (book same : Contents) (named : List SerialRange) (opened : Option Opened) (list : List Listed) (changes : Changes) → book ≡ same
    → AreChanges book named opened list changes → AreChanges same named opened list changes
changes_in book same named opened list changes is are = subst (λ (b : Contents). AreChanges b named opened list changes) is are

pub changes_of_new : (named : List SerialRange) (opened : Option Opened) (list : List Listed) (changes : Changes) (number width : ℕ) (h : Head) → h ≡ new_head number width
    → AreChanges (empty_book number) named opened list changes → AreChanges h.book named opened list changes
changes_of_new named opened list changes number width h new are = subst (λ (x : Head). AreChanges x.book named opened list changes) (sym new) are

-- what a head end did that led its rows to their ends
pub led_out : (options : HeadOptions) (text : List ℕ) (list : List Planned) (opened taken : Option Opened) (found kept : KeptHead FileDevice) (changes : Changes)
    (daemon last : HeadDaemon FileDevice) (rows : List UnlistedRow) (led : LedOut)
    → SpellsList options.listen text list → IsOpeningOf options.opening opened → taken ≡ opened → (book_of found).head ≡ options.head → BeginsWith (book_of found) options.width (head_of found)
    → AreChanges (book_of found) options.cancel.items opened (listed_in list) changes → Begins changes taken (head_of found) (head_of kept)
    → IsDaemonOf kept options.timing options.plan daemon → meters_of last ≡ listed_in list → HasRunOut last → rows ≡ unlisted (listed_meters (listed_in list)) (book_of kept)
    → HasLedTo rows (counted_of last).failed led → HasLedOut options led
led_out options text list opened taken found kept changes daemon last rows led spelled opening same number width asked begun made asks ran_out are ended = record {
  text = text;
  list = list;
  spelled = spelled;
  opened = opened;
  opening = opening;
  found = found;
  number = number;
  width = width;
  changes = changes;
  asked = asked;
  kept = kept;
  begun = subst (λ (o : Option Opened). Begins changes o (head_of found) (head_of kept)) same begun;
  daemon = daemon;
  made = made;
  last = last;
  asks = asks;
  ran_out = ran_out;
  ended = subst (λ (l : List UnlistedRow). HasLedTo l (counted_of last).failed led) are ended;
}
