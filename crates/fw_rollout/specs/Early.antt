-- Public vocabulary: what an answer of a meter leaves of what its row asked, and answers of meters that aren't ready.
use Rattle.std.specs.Prelude.{◌≡◌, ◌⊎◌, ℕ, List, Option}
use Rattle.fw_axdr.specs.Value.{enumerated}
use Rattle.fw_wrapper.specs.Wrapper.{Wraps}
use Rattle.fw_apdu.specs.Cosem.{temporary_failure, verification_initiated}
use Rattle.fw_apdu.specs.Response.{GetResult, ResponseContent, SpellsResponse, action_response, get_response, value}
use Rattle.fw_head.specs.Head.{Head, HasOutstanding}
use Rattle.fw_rollout.specs.declared.link.Answer.{Answer}
use Rattle.fw_rollout.specs.declared.link.Answer.TheVariants as answers

-- an action failed for now, or a verification goes on
abbrev pub IsEarly : ResponseContent → Type 0
IsEarly content =
    ((returned : Option GetResult) × (content ≡ action_response temporary_failure returned)) ⊎ (content ≡ get_response (value (enumerated verification_initiated)))

-- a datagram carries such an answer
pub record CarriesEarly (datagram : List ℕ) : Type 0 where
  pub source : ℕ
  pub dest : ℕ
  pub apdu : List ℕ
  pub invoke : ℕ
  pub content : ResponseContent
  pub wraps : Wraps datagram source dest apdu
  pub spells : SpellsResponse apdu invoke content
  pub early : IsEarly content

-- What a datagram that a meter's row took as an answer leaves of what the row asked, where this is the head end then: other asks are
-- outstanding, or none is, and the meter is ready for what it was asked or isn't.
abbrev pub IsAnswerOf : Head → ℕ → List ℕ → Answer → Type 0
IsAnswerOf head meter datagram answers.Partial = HasOutstanding head meter
IsAnswerOf head meter datagram answers.Last = (¬ HasOutstanding head meter) × (¬ CarriesEarly datagram)
IsAnswerOf head meter datagram answers.Early = (¬ HasOutstanding head meter) × CarriesEarly datagram
