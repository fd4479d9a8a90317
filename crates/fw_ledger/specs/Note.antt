-- Public vocabulary: what is noted beside a book, and how it is spelled (own). A number has four bytes, a time and a count of bits have
-- eight, high byte first.
use Rattle.std.specs.Prelude.{ℕ, ◌<◌, ◌^◌, List, [], ◌∷◌, ◌++◌, Option, Some, None}
use Rattle.std.specs.Int.{w32, w64, to_be_bytes}
use Rattle.fw_names.specs.Name.{IsCampaign, campaign_bytes}
use Rattle.fw_book.specs.declared.notes.Answer.{Answer}
use Rattle.fw_book.specs.declared.notes.Answer.TheVariants.{Number, Bits, Status, Info, Active, Code, Silent, GivenUp}
use Rattle.fw_book.specs.declared.notes.Reason.{Reason}
use Rattle.fw_book.specs.declared.notes.End.{End}
use Rattle.fw_book.specs.declared.phase.Phase.{Phase}
use Rattle.fw_book.specs.declared.phase.Phase.TheVariants as phase
use Rattle.fw_ledger.specs.declared.record.Note.{Note}
use Rattle.fw_ledger.specs.declared.record.Note.TheVariants.{Opened, Ended}

abbrev pub phase_number : Phase → ℕ
phase_number phase.Size = 1
phase_number phase.Enable = 2
phase_number phase.Start = 3
phase_number phase.Blocks = 4
phase_number phase.Check = 5
phase_number phase.Gaps = 6
phase_number phase.Verify = 7
phase_number phase.Poll = 8
phase_number phase.Info = 9
phase_number phase.Activate = 10
phase_number phase.Confirm = 11
phase_number phase.Done = 12
phase_number phase.Failed = 13

-- what ended a row: the kind of answer, and then what is kept of it; of no answer, its kind alone
abbrev pub answer_bytes : Answer → List ℕ
answer_bytes (Number number) = 1 ∷ to_be_bytes w32 number
answer_bytes (Bits count) = 2 ∷ to_be_bytes w64 count
answer_bytes (Status status) = 3 ∷ status ∷ []
answer_bytes (Info None) = 4 ∷ []
answer_bytes (Info (Some campaign)) = 5 ∷ campaign_bytes campaign
answer_bytes (Active campaign) = 6 ∷ campaign_bytes campaign
answer_bytes (Code code) = 7 ∷ code ∷ []
answer_bytes Silent = 8 ∷ []
answer_bytes GivenUp = 9 ∷ []

-- why a row failed, and nothing if that isn't told
abbrev pub reason_bytes : Option Reason → List ℕ
reason_bytes None = []
reason_bytes (Some why) = phase_number why.phase ∷ answer_bytes why.answer

abbrev pub end_bytes : End → List ℕ
end_bytes told = to_be_bytes w64 told.at ++ reason_bytes told.reason

abbrev pub note_bytes : Note → List ℕ
note_bytes (Opened at) = 1 ∷ to_be_bytes w64 at
note_bytes (Ended meter told) = 2 ∷ (to_be_bytes w32 meter ++ end_bytes told)

-- each number has the bytes in which it is spelled, and a campaign is one that a name can have
abbrev pub AnswerFits : Answer → Type 0
AnswerFits (Number number) = number < 2 ^ 32
AnswerFits (Bits count) = count < 2 ^ 64
AnswerFits (Status status) = status < 2 ^ 8
AnswerFits (Info None) = Unit {0}
AnswerFits (Info (Some campaign)) = IsCampaign campaign
AnswerFits (Active campaign) = IsCampaign campaign
AnswerFits (Code code) = code < 2 ^ 8
AnswerFits Silent = Unit {0}
AnswerFits GivenUp = Unit {0}

abbrev pub ReasonFits : Option Reason → Type 0
ReasonFits None = Unit {0}
ReasonFits (Some why) = AnswerFits why.answer

abbrev pub EndFits : End → Type 0
EndFits told = (told.at < 2 ^ 64) × ReasonFits told.reason

abbrev pub NoteFits : Note → Type 0
NoteFits (Opened at) = at < 2 ^ 64
NoteFits (Ended meter told) = (meter < 2 ^ 32) × EndFits told
