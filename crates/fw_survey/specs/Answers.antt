-- Public vocabulary: which datagrams answer a question, and what they say (IEC 62056-5-3, GET.response-normal; IEC 62056-6-2, the types of the
-- attributes).
use Rattle.std.specs.Prelude.{◌≡◌, ℕ, List}
use Rattle.fw_axdr.specs.Value.{Value, boolean, double_long_unsigned, enumerated, octet_string}
use Rattle.fw_apdu.specs.Response.{GetResult, value, code, get_response, MayReturnData, SpellsResponse}
use Rattle.fw_names.specs.Name.{Name, SpellsName}
use Rattle.fw_wrapper.specs.Wrapper.{Wraps, wport}
use Rattle.fw_survey.specs.Questions.{invoke_byte}
use Rattle.fw_survey.specs.declared.answer.Answer.{Answer}
use Rattle.fw_survey.specs.declared.answer.Answer.TheVariants as answer
use Rattle.fw_survey.specs.declared.question.Question.{Question}
use Rattle.fw_survey.specs.declared.question.Question.TheVariants as question

-- ---- the values of attributes: what isn't of the attribute's type is told as other

-- the bytes spell the name, or none
abbrev pub IsNameOf : List ℕ → Answer → Type 0
IsNameOf bytes (answer.Active name) = SpellsName bytes name
IsNameOf bytes (answer.BlockSize n) = ⊥
IsNameOf bytes (answer.Enabled b) = ⊥
IsNameOf bytes (answer.Status s) = ⊥
IsNameOf bytes (answer.Refused c) = ⊥
IsNameOf bytes answer.Other = (name : Name) → SpellsName bytes name → ⊥

abbrev pub IsActive : Value → Answer → Type 0
IsActive (octet_string bytes) a = IsNameOf bytes a
IsActive v a = a ≡ answer.Other

abbrev pub IsBlockSize : Value → Answer → Type 0
IsBlockSize (double_long_unsigned n) a = a ≡ answer.BlockSize n
IsBlockSize v a = a ≡ answer.Other

abbrev pub IsEnabled : Value → Answer → Type 0
IsEnabled (boolean b) a = a ≡ answer.Enabled b
IsEnabled v a = a ≡ answer.Other

abbrev pub IsStatus : Value → Answer → Type 0
IsStatus (enumerated s) a = a ≡ answer.Status s
IsStatus v a = a ≡ answer.Other

abbrev pub SaysOf : Question → Value → Answer → Type 0
SaysOf question.ActiveName v a = IsActive v a
SaysOf question.BlockSize v a = IsBlockSize v a
SaysOf question.Enabled v a = IsEnabled v a
SaysOf question.Status v a = IsStatus v a

-- what the result of a GET says: a value, or the code that refuses it
abbrev pub Says : Question → GetResult → Answer → Type 0
Says q (value v) a = SaysOf q v a
Says q (code c) a = a ≡ answer.Refused c

-- ---- datagrams

-- A datagram answers a question so: it carries the response to a GET between the ports 1, with the invoke byte of the question.
pub record Answers (datagram : List ℕ) (q : Question) (a : Answer) : Type 0 where
  pub apdu : List ℕ
  pub result : GetResult
  pub wraps : Wraps datagram wport wport apdu
  pub spells : SpellsResponse apdu (invoke_byte q) (get_response result)
  pub says : Says q result a

-- a datagram answers this question so, and no other
pub record AnswersJust (datagram : List ℕ) (q : Question) (a : Answer) : Type 0 where
  pub answers : Answers datagram q a
  pub just : (r : Question) (b : Answer) → Answers datagram r b → r ≡ q

-- a datagram carries an APDU between the ports 1 that may return a Data that takes memory, whatever it spells
abbrev pub MayCarryData : List ℕ → Type 0
MayCarryData datagram = (apdu : List ℕ) × Wraps datagram wport wport apdu × MayReturnData apdu
