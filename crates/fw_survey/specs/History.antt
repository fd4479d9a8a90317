-- Public vocabulary: what a survey did and what came, and what is known of a meter by that. The acts are those of a port, the newest first.
use Rattle.std.specs.Prelude.{◌≡◌, ◌⊎◌, ◌↔◌, ℕ, ◌≤◌, List, [], ◌∷◌, Contains, Option, Some, None, slice_get}
use Rattle.std.specs.declared.net.socket_addr.SocketAddr.{SocketAddr}
use Rattle.fw_port.specs.Acts as port
use Rattle.fw_port.specs.Acts.{came, quiet, sent, told}
use Rattle.fw_port.specs.declared.port.NoReport.{NoReport}
use Rattle.fw_survey.specs.Questions.{question_bytes}
use Rattle.fw_survey.specs.Answers.{Answers}
use Rattle.fw_survey.specs.Rows.{Row, inquiry_of}
use Rattle.fw_survey.specs.declared.answer.Answer.{Answer}
use Rattle.fw_survey.specs.declared.question.Question.{Question}
use Rattle.fw_survey.specs.declared.row.Inquiry.{Inquiry}

-- a survey makes no reports
abbrev pub Act : Type 0
Act = port.Act NoReport

-- ---- what a survey may send

-- a question, asked by GET at one of these addresses
pub record IsRead (addresses : List SocketAddr) (to : SocketAddr) (bytes : List ℕ) : Type 0 where
  pub question : Question
  pub asks : bytes ≡ question_bytes question
  pub listed : Contains addresses to

-- all that was sent are such
abbrev pub SendsReads : List SocketAddr → List Act → Type 0
SendsReads addresses [] = Unit {0}
SendsReads addresses (sent to bytes ∷ before) = IsRead addresses to bytes × SendsReads addresses before
SendsReads addresses (came from bytes ∷ before) = SendsReads addresses before
SendsReads addresses (quiet ∷ before) = SendsReads addresses before
SendsReads addresses (told report ∷ before) = SendsReads addresses before

-- ---- what is known of a meter

-- a question was asked at this address
abbrev pub WasAsked : List Act → SocketAddr → Question → Type 0
WasAsked [] at q = ⊥
WasAsked (sent to bytes ∷ before) at q = ((to ≡ at) × (bytes ≡ question_bytes q)) ⊎ WasAsked before at q
WasAsked (came from bytes ∷ before) at q = WasAsked before at q
WasAsked (quiet ∷ before) at q = WasAsked before at q
WasAsked (told report ∷ before) at q = WasAsked before at q

-- a datagram with this answer to a question came from this address, after the question was asked there
abbrev pub WasTold : List Act → SocketAddr → Question → Answer → Type 0
WasTold [] at q a = ⊥
WasTold (came from bytes ∷ before) at q a = ((from ≡ at) × WasAsked before at q × Answers bytes q a) ⊎ WasTold before at q a
WasTold (sent to bytes ∷ before) at q a = WasTold before at q a
WasTold (quiet ∷ before) at q a = WasTold before at q a
WasTold (told report ∷ before) at q a = WasTold before at q a

-- an answer is one that was told, and there is none only if none was
abbrev pub IsTold : List Act → SocketAddr → Question → Option Answer → Type 0
IsTold done at q None = (a : Answer) → WasTold done at q a → ⊥
IsTold done at q (Some a) = WasTold done at q a

-- a question is counted as asked exactly if it was, and has an answer that was told, if one was
pub record KnowsOf (done : List Act) (at : SocketAddr) (q : Question) (inquiry : Inquiry) : Type 0 where
  pub asked : WasAsked done at q ↔ (1 ≤ inquiry.asked)
  pub answered : IsTold done at q inquiry.answer

-- what is known of a meter is what came from its address
abbrev pub Knows : List Act → Row → Type 0
Knows done row = (q : Question) → KnowsOf done row.address q (inquiry_of row q)

-- so it is of each
abbrev pub KnowsAll : List Act → List Row → Type 0
KnowsAll done rows = (place : ℕ) (row : Row) → slice_get rows place ≡ Some row → Knows done row

-- questions alone were sent to some addresses
abbrev pub SendsSomeReads : List Act → Type 0
SendsSomeReads done = (addresses : List SocketAddr) × SendsReads addresses done
