-- For private clauses alone: what the parts of a survey find.
use Rattle.std.specs.Prelude.{◌≡◌, ◌⊎◌, ℕ, List, Option, Some, None}
use Rattle.fw_apdu.specs.View.{response_content, response_invoke}
use Rattle.fw_apdu.specs.Response.{GetResult, ResponseContent, get_response, SpellsResponse}
use Rattle.fw_apdu.specs.declared.response.Response.{Response}
use Rattle.fw_wrapper.specs.Wrapper.{Wraps, wport}
use Rattle.fw_survey.specs.Questions.{invoke_byte}
use Rattle.fw_survey.specs.Answers.{Answers, AnswersJust, Says}
use Rattle.fw_survey.specs.Rows.{Row, taken_row}
use Rattle.fw_survey.specs.Survey.{ChangesAt}
use Rattle.fw_survey.specs.declared.answer.Answer.{Answer}
use Rattle.fw_survey.specs.declared.question.Question.{Question}

-- a datagram carries a response, with its invoke byte, between the ports 1
pub record CarriesResponse (datagram : List ℕ) (invoke : ℕ) (content : ResponseContent) : Type 0 where
  pub apdu : List ℕ
  pub wraps : Wraps datagram wport wport apdu
  pub spells : SpellsResponse apdu invoke content

-- the response that a datagram carries, or there is none
abbrev pub IsResponseIn : List ℕ → Option Response → Type 0
IsResponseIn datagram (Some r) = CarriesResponse datagram (response_invoke r) (response_content r)
IsResponseIn datagram None = (invoke : ℕ) (content : ResponseContent) → CarriesResponse datagram invoke content → ⊥

-- a response with this invoke byte is the answer to a question
pub record RespondsTo (invoke : ℕ) (content : ResponseContent) (q : Question) (a : Answer) : Type 0 where
  pub result : GetResult
  pub byte : invoke ≡ invoke_byte q
  pub is : content ≡ get_response result
  pub says : Says q result a

-- it is to none
abbrev pub RespondsNone : ℕ → ResponseContent → Type 0
RespondsNone invoke content = (q : Question) (result : GetResult) → invoke ≡ invoke_byte q → content ≡ get_response result → ⊥

abbrev pub FindsBy : ℕ → ResponseContent → Option (Question × Answer) → Type 0
FindsBy invoke content (Some x) = RespondsTo invoke content x.0 x.1
FindsBy invoke content None = RespondsNone invoke content

-- the question that a datagram answers, with the answer, or it answers none
abbrev pub FindsAnswer : List ℕ → Option (Question × Answer) → Type 0
FindsAnswer datagram (Some x) = AnswersJust datagram x.0 x.1
FindsAnswer datagram None = (q : Question) (a : Answer) → Answers datagram q a → ⊥

-- a datagram from the address of the meter at a place answers a question, or none
abbrev pub HearsAt : ℕ → ℕ → List ℕ → List Row → List Row → Type 0
HearsAt place now datagram old new =
    ((q : Question) × (a : Answer) × AnswersJust datagram q a × ChangesAt place (taken_row q a now) old new)
    ⊎ ((new ≡ old) × ((q : Question) (a : Answer) → Answers datagram q a → ⊥))
