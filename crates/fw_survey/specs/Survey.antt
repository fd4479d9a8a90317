-- Public vocabulary: the meters of a survey, what is asked next, and what a datagram changes.
use Rattle.std.specs.Prelude.{◌≡◌, ◌⊎◌, ◌↔◌, ℕ, ◌≤◌, nat_lt, max, List, map, Contains, Option, Some, None, IsTrue, MatchOption, OnOk, Result, slice_get, slice_set, sum_by, if◌then◌else◌}
use Rattle.std.specs.declared.net.socket_addr.SocketAddr.{SocketAddr}
use Rattle.fw_port.specs.declared.port.Port
use Rattle.fw_port.specs.declared.port.NoReport.{NoReport}
use Rattle.fw_survey.specs.Answers.{Answers, AnswersJust}
use Rattle.fw_survey.specs.History.{Act, KnowsAll, SendsReads}
use Rattle.fw_survey.specs.Rows.{Row, asks_of, outs_of, taken_row}
use Rattle.fw_survey.specs.declared.answer.Answer.{Answer}
use Rattle.fw_survey.specs.declared.question.Question.{Question}
use Rattle.fw_survey.specs.declared.survey.Due.{Due}
use Rattle.fw_survey.specs.declared.survey.Survey.{Survey}
use Rattle.fw_survey.specs.declared.survey.Timing.{Timing}

abbrev pub rows_of : Survey → List Row
rows_of s = s.rows.items

-- the addresses of these meters, in their order
abbrev pub addresses_of : List Row → List SocketAddr
addresses_of rows = map (λ (row : Row). row.address) rows

-- the same meters at the same addresses
pub record KeepsMeters (old new : List Row) : Type 0 where
  pub meters : map (λ (row : Row). row.meter) new ≡ map (λ (row : Row). row.meter) old
  pub addresses : addresses_of new ≡ addresses_of old

-- the meter at this place has this address
abbrev pub IsPlaceOf : List Row → SocketAddr → ℕ → Type 0
IsPlaceOf rows address place = slice_get (addresses_of rows) place ≡ Some address

-- some meter has this address
abbrev pub HasAddress : List Row → SocketAddr → Type 0
HasAddress rows address = (place : ℕ) × IsPlaceOf rows address place

-- the most questions that are in flight at once
abbrev pub most_out : ℕ → ℕ
most_out flight = max flight 1

-- What every survey keeps: each address is that of one meter, whose place is known, and as many questions are in flight as are counted, no
-- more than may be.
pub record IsSurvey (s : Survey) : Type 0 where
  pub addressed : (address : SocketAddr) (place : ℕ) → Contains s.places.entries (address, place) ↔ IsPlaceOf (rows_of s) address place
  pub apart : (address : SocketAddr) (place other : ℕ) → IsPlaceOf (rows_of s) address place → IsPlaceOf (rows_of s) address other → place ≡ other
  pub counted : s.out ≡ sum_by outs_of (rows_of s)
  pub within : s.out ≤ most_out s.timing.flight

-- the meter at a place is another now, and no other meter is
abbrev pub ChangesAt : ℕ → (Row → Row) → List Row → List Row → Type 0
ChangesAt place change old new = MatchOption (slice_get old place) (new ≡ old) (λ row. new ≡ slice_set old place (change row))

-- ---- what is asked

abbrev pub due_at : Row → Option Question → Option Due
due_at row None = None
due_at row (Some q) = Some (record { question = q; to = row.address })

-- the next question to a meter, if there is one that may be asked, and fewer questions are in flight than may be
abbrev pub due_of : Timing → ℕ → Option Row → Option Due
due_of timing out None = None
due_of timing out (Some row) = if nat_lt out (most_out timing.flight) then due_at row (asks_of timing.tries row) else None

-- ---- what is heard

-- the meter whose address this is answers a question, and no other one
pub record HearsAnswer (now : ℕ) (from : SocketAddr) (datagram : List ℕ) (old new : List Row) : Type 0 where
  pub place : ℕ
  pub question : Question
  pub answer : Answer
  pub there : IsPlaceOf old from place
  pub answers : AnswersJust datagram question answer
  pub takes : ChangesAt place (taken_row question answer now) old new

-- a datagram from another address, or that answers no question, changes nothing
pub record HearsNothing (from : SocketAddr) (datagram : List ℕ) (old new : List Row) : Type 0 where
  pub same : new ≡ old
  pub strange : ¬ HasAddress old from ⊎ ((q : Question) (a : Answer) → Answers datagram q a → ⊥)

abbrev pub HearsAs : ℕ → SocketAddr → List ℕ → List Row → List Row → Type 0
HearsAs now from datagram old new = HearsAnswer now from datagram old new ⊎ HearsNothing from datagram old new

-- ---- over a port

-- after what was done before, questions alone were sent, and they may be
pub record MaySurvey (legal : List Act → Type 0) (addresses : List SocketAddr) (before : List Act) : Type 0 where
  pub reads : SendsReads addresses before
  pub may : (done : List Act) → SendsReads addresses done → legal done

-- an honest port lets through the questions of a survey
abbrev pub MaySurveyOver : {P : Type 0} → Port.Ghosts P NoReport → P → List Row → Type 0
MaySurveyOver N port rows = IsTrue (N.honest port) → MaySurvey (N.legal port) (addresses_of rows) (N.acts port)

-- A call of the loop over a port, or of a part of it. Over an honest port it sent questions alone, each by GET to a meter of the list. What
-- is known of each meter after an `Ok` is what came from its address, if it was so before. The port stays as honest as it was, and lets
-- through what it would have.
pub record SurveysOver {P T E : Type 0} (N : Port.Ghosts P NoReport) (old : P) (before : List Row) (result : Result T E) (new : P) (after : List Row) : Type 0 where
  pub reads : IsTrue (N.honest old) → SendsReads (addresses_of before) (N.acts old) → SendsReads (addresses_of before) (N.acts new)
  pub knows : IsTrue (N.honest old) → KnowsAll (N.acts old) before → OnOk result (KnowsAll (N.acts new) after)
  pub meters : KeepsMeters before after
  pub honesty : N.honest new ≡ N.honest old
  pub law : (done : List Act) → N.legal old done → N.legal new done
