-- Public vocabulary: the command `head`: the lines that it prints, and what a new book leaves.
use Rattle.std.specs.Prelude.{ℕ, List, ◌++◌, codes, decimal, if◌then◌else◌, nat_eq}
use Rattle.hex.specs.Hex.{encode_lower}
use Rattle.fw_names.specs.Name.{Campaign, Name}
use Rattle.fw_book.specs.Changes.{empty_book}
use Rattle.fw_kept.specs.Kept.{HasBook}
use Rattle.fw_rollout.specs.declared.daemon.Counts.{Counts}
use Rattle.fw_rollout.specs.declared.ended.Ended.{Ended}
use Rattle.fw_rollout.specs.Leading.{state_after}
use Rattle.fw_rows.specs.Failure.{why_words}
use Rattle.fw_rows.specs.States.{state_word}

-- ---- the lines of `head`

-- a campaign that was opened: its head end and its serial number, the release of its image, and the digits of its digest in lower case
abbrev pub opened_line : Name → List ℕ
opened_line name =
    codes "opened " ++ (decimal name.campaign.head ++ (codes " " ++ (decimal name.campaign.serial ++ (codes " " ++ (decimal name.release
    ++ (codes " " ++ (encode_lower name.digest ++ codes "\n")))))))

abbrev pub cancelled_line : Campaign → List ℕ
cancelled_line campaign = codes "cancelled " ++ (decimal campaign.head ++ (codes " " ++ (decimal campaign.serial ++ codes "\n")))

-- a row that ended, as a report has it, with why it failed, if it did
abbrev pub ended_line : Ended → List ℕ
ended_line ended =
    codes "row " ++ (decimal ended.campaign.head ++ (codes " " ++ (decimal ended.campaign.serial ++ (codes " " ++ (decimal ended.meter
    ++ (codes " " ++ (state_word (state_after ended.ending) ++ (why_words ended.end.reason ++ codes "\n"))))))))

-- how many rows were reported as done and as failed
abbrev pub over_line : Counts → List ℕ
over_line counts = codes "over done " ++ (decimal counts.done ++ (codes " failed " ++ (decimal counts.failed ++ codes "\n")))

-- ---- the lines on standard error

-- whole records stand behind the shut gate of a book, which lacks them
abbrev pub untaken_line : ℕ → List ℕ
untaken_line count =
    (if nat_eq count 1 then codes "1 record behind a shut gate was not taken\n" else (decimal count ++ codes " records behind a shut gate were not taken\n"))

-- and a head end keeps them in this file
abbrev pub kept_line : ℕ → List ℕ → List ℕ
kept_line count file =
    (if nat_eq count 1 then (codes "1 record behind a shut gate was not taken; it is kept in " ++ (file ++ codes "\n"))
    else (decimal count ++ (codes " records behind a shut gate were not taken; they are kept in " ++ (file ++ codes "\n"))))

-- ---- a new book

-- every power cut leaves a book of some head end that has no campaign
abbrev pub LeavesNewBook : {D : Type 0} → (D → List ℕ → Type 0) → D → Type 0
LeavesNewBook may_leave device = (head : ℕ) × ((left : List ℕ) → may_leave device left → HasBook head left (empty_book head))
