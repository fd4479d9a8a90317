-- Public vocabulary: what became of the questions to a meter. Times are in microseconds.
use Rattle.std.specs.Prelude.{ℕ, ◌+◌, ◌-◌, ◌^◌, nat_le, nat_lt, min, Bool, true, false, Option, Some, None, is_some, if◌then◌else◌}
use Rattle.std.specs.declared.net.socket_addr.SocketAddr.{SocketAddr}
use Rattle.fw_survey.specs.declared.answer.Answer.{Answer}
use Rattle.fw_survey.specs.declared.question.Question.{Question}
use Rattle.fw_survey.specs.declared.question.Question.TheVariants as question
use Rattle.fw_survey.specs.declared.row.Inquiry.{Inquiry}

-- a meter of a list, the address at which it is asked, and what became of the questions to it
pub record Row : Type 0 where
  pub meter : ℕ
  pub address : SocketAddr
  pub active : Inquiry
  pub block_size : Inquiry
  pub enabled : Inquiry
  pub status : Inquiry

abbrev pub inquiry_of : Row → Question → Inquiry
inquiry_of row question.ActiveName = row.active
inquiry_of row question.BlockSize = row.block_size
inquiry_of row question.Enabled = row.enabled
inquiry_of row question.Status = row.status

abbrev pub with_inquiry : Row → Question → Inquiry → Row
with_inquiry row question.ActiveName inquiry = record row { active = inquiry }
with_inquiry row question.BlockSize inquiry = record row { block_size = inquiry }
with_inquiry row question.Enabled inquiry = record row { enabled = inquiry }
with_inquiry row question.Status inquiry = record row { status = inquiry }

-- ---- a question

-- it was not asked yet
abbrev pub unasked : Inquiry
unasked = record { asked = 0; since = None; answer = None; trip = None }

-- the greatest number of times that is counted
abbrev pub most_asked : ℕ
most_asked = 2 ^ 32 - 1

-- it is asked once more, and in flight from now on
abbrev pub asked_at : ℕ → Inquiry → Inquiry
asked_at now inquiry = record inquiry { asked = min (inquiry.asked + 1) most_asked; since = Some now }

-- it is waited for no more
abbrev pub settled : Inquiry → Inquiry
settled inquiry = record inquiry { since = None }

-- how long it is since a time, if there is one
abbrev pub trip_of : ℕ → Option ℕ → Option ℕ
trip_of now None = None
trip_of now (Some since) = Some (now - since)

-- it is answered, and in flight no more. The round trip is the time since it was asked last, if it was in flight.
abbrev pub answered_by : Answer → ℕ → Inquiry → Inquiry
answered_by a now inquiry = record inquiry { since = None; answer = Some a; trip = trip_of now inquiry.since }

-- it was asked, and not answered
abbrev pub is_open : Inquiry → Bool
is_open inquiry = if is_some inquiry.answer then false else nat_lt 0 inquiry.asked

-- it is in flight since a time, and that is as long ago as an answer is waited for
abbrev pub is_past : ℕ → ℕ → Option ℕ → Bool
is_past timeout now None = false
is_past timeout now (Some since) = nat_le timeout (now - since)

abbrev pub is_late : ℕ → ℕ → Inquiry → Bool
is_late timeout now inquiry = is_past timeout now inquiry.since

-- it was asked as often as a question is, and isn't in flight
abbrev pub is_given_up : ℕ → Inquiry → Bool
is_given_up tries inquiry = if is_some inquiry.since then false else nat_le tries inquiry.asked

-- it may be asked now: it isn't in flight, and wasn't asked as often as a question is
abbrev pub may_ask : ℕ → Inquiry → Bool
may_ask tries inquiry = if is_some inquiry.since then false else nat_lt inquiry.asked tries

-- ---- a meter

-- the first question that it didn't answer
abbrev pub next_question : Row → Option Question
next_question row =
    if is_some row.active.answer then (if is_some row.block_size.answer then (if is_some row.enabled.answer
    then (if is_some row.status.answer then None else Some question.Status)
    else Some question.Enabled) else Some question.BlockSize) else Some question.ActiveName

-- a meter that was never asked
abbrev pub new_row : ℕ → SocketAddr → Row
new_row meter address =
    record { meter = meter; address = address; active = unasked; block_size = unasked; enabled = unasked; status = unasked }

-- nothing more is asked of a meter: it answered all, or the next question was asked as often as one is, and isn't in flight
abbrev pub is_over_at : ℕ → Row → Option Question → Bool
is_over_at tries row None = true
is_over_at tries row (Some q) = is_given_up tries (inquiry_of row q)

abbrev pub is_over : ℕ → Row → Bool
is_over tries row = is_over_at tries row (next_question row)

-- the next question, if it may be asked
abbrev pub asks_at : ℕ → Row → Option Question → Option Question
asks_at tries row None = None
asks_at tries row (Some q) = if may_ask tries (inquiry_of row q) then Some q else None

abbrev pub asks_of : ℕ → Row → Option Question
asks_of tries row = asks_at tries row (next_question row)

-- the meter once its next question is waited for no more, if that is late
abbrev pub settled_at : ℕ → ℕ → Row → Option Question → Row
settled_at timeout now row None = row
settled_at timeout now row (Some q) =
    if is_late timeout now (inquiry_of row q) then with_inquiry row q (settled (inquiry_of row q)) else row

abbrev pub settled_row : ℕ → ℕ → Row → Row
settled_row timeout now row = settled_at timeout now row (next_question row)

-- the meter once it answered a question, if that was asked and not answered
abbrev pub taken_row : Question → Answer → ℕ → Row → Row
taken_row q a now row =
    if is_open (inquiry_of row q) then with_inquiry row q (answered_by a now (inquiry_of row q)) else row

-- how many questions to a meter are in flight
abbrev pub out_of : Inquiry → ℕ
out_of inquiry = if is_some inquiry.since then 1 else 0

abbrev pub outs_of : Row → ℕ
outs_of row = out_of row.active + (out_of row.block_size + (out_of row.enabled + out_of row.status))
