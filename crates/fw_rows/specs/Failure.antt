-- Public vocabulary: the words for why a row failed: the phase that it was in, and what its meter answered, or that no answer ended it. No
-- word has a comma or a quote.
use Rattle.std.specs.Prelude.{ℕ, List, [], ◌++◌, Option, None, Some, codes, decimal, if◌then◌else◌, ◌==◌}
use Rattle.fw_names.specs.Name.{Campaign}
use Rattle.fw_book.specs.declared.notes.Answer.{Answer}
use Rattle.fw_book.specs.declared.notes.Answer.TheVariants.{Number, Bits, Status, Info, Active, Code, Silent, GivenUp}
use Rattle.fw_book.specs.declared.notes.Reason.{Reason}
use Rattle.fw_book.specs.declared.phase.Phase.{Phase}
use Rattle.fw_book.specs.declared.phase.Phase.TheVariants as phase

abbrev pub phase_word : Phase → List ℕ
phase_word phase.Size = codes "size"
phase_word phase.Enable = codes "enable"
phase_word phase.Start = codes "start"
phase_word phase.Blocks = codes "blocks"
phase_word phase.Check = codes "check"
phase_word phase.Gaps = codes "gaps"
phase_word phase.Verify = codes "verify"
phase_word phase.Poll = codes "poll"
phase_word phase.Info = codes "info"
phase_word phase.Activate = codes "activate"
phase_word phase.Confirm = codes "confirm"
phase_word phase.Done = codes "done"
phase_word phase.Failed = codes "failed"

-- The standard's word for a code that is both a Data-Access-Result's and an Action-Result's (IEC 62056-5-3), after a space.
abbrev pub code_word : ℕ → List ℕ
code_word code =
    if code == 0 then codes " success"
    else (if code == 1 then codes " hardware-fault"
    else (if code == 2 then codes " temporary-failure"
    else (if code == 3 then codes " read-write-denied"
    else (if code == 4 then codes " object-undefined"
    else (if code == 9 then codes " object-class-inconsistent"
    else (if code == 11 then codes " object-unavailable"
    else (if code == 12 then codes " type-unmatched"
    else (if code == 13 then codes " scope-of-access-violated"
    else (if code == 14 then codes " data-block-unavailable"
    else (if code == 250 then codes " other-reason"
    else []))))))))))

-- The standard's words for an image_transfer_status (IEC 62056-6-2, Image transfer), after a space.
abbrev pub status_word : ℕ → List ℕ
status_word status =
    if status == 0 then codes " transfer-not-initiated"
    else (if status == 1 then codes " transfer-initiated"
    else (if status == 2 then codes " verification-initiated"
    else (if status == 3 then codes " verification-successful"
    else (if status == 4 then codes " verification-failed"
    else (if status == 5 then codes " activation-initiated"
    else (if status == 6 then codes " activation-successful"
    else (if status == 7 then codes " activation-failed"
    else [])))))))

-- the head end and the serial number of a campaign after a word; each is 0 for the factory
abbrev pub campaign_words : List ℕ → Campaign → List ℕ
campaign_words word campaign = word ++ (codes " " ++ (decimal campaign.head ++ (codes " " ++ decimal campaign.serial)))

-- what ended a row, after a space: what its meter answered; or that it was silent for too long; or that an operator gave the row up
abbrev pub answer_words : Answer → List ℕ
answer_words (Number number) = codes " number " ++ decimal number
answer_words (Bits count) = codes " bits " ++ decimal count
answer_words (Status status) = codes " status " ++ (decimal status ++ status_word status)
answer_words (Info None) = codes " no image"
answer_words (Info (Some campaign)) = campaign_words (codes " image") campaign
answer_words (Active campaign) = campaign_words (codes " runs") campaign
answer_words (Code code) = codes " code " ++ (decimal code ++ code_word code)
answer_words Silent = codes " silent"
answer_words GivenUp = codes " given-up"

abbrev pub failure_words : Reason → List ℕ
failure_words why = phase_word why.phase ++ answer_words why.answer

-- after a colon, if it is known why
abbrev pub why_words : Option Reason → List ℕ
why_words None = []
why_words (Some why) = codes ": " ++ failure_words why
