-- The answer that a datagram carries.
use Rattle.std.proofs.Common.{◌≡◌, ℕ, Bool, true, false, List, Option, Some, None, refl, sym, ap, subst, ◌∙◌}
use Rattle.std.specs.Prelude.{◌==◌, if◌then◌else◌}
use Rattle.std.proofs.lemmas.Bool.{eqb-true}
use Rattle.std.proofs.lemmas.Option.{none-some, same_Some}
use Rattle.fw_wrapper.specs.Laws as wrapper
use Rattle.fw_wrapper.specs.Wrapper.{wport}
use Rattle.fw_apdu.specs.Laws as apdu
use Rattle.fw_apdu.specs.Response.{ResponseContent, get_response, SpellsResponse}
use Rattle.fw_apdu.specs.View.{response_content, response_invoke}
use Rattle.fw_apdu.specs.declared.response.Response.{Response}
use Rattle.fw_survey.specs.Answers.{Answers}
use Rattle.fw_survey.specs.Private.{CarriesResponse, FindsAnswer, FindsBy, IsResponseIn, RespondsNone}
use Rattle.fw_survey.specs.Questions.{invoke_byte, question_of}
use Rattle.fw_survey.specs.declared.answer.Answer.{Answer}
use Rattle.fw_survey.specs.declared.question.Question.{Question}
use Rattle.fw_survey.specs.declared.question.Question.TheVariants as question
use Rattle.fw_survey.proofs.Questions.{same_question}

-- ---- the question of an invoke byte

found_by : (a b c d : Bool) (n : ℕ) (q : Question) → (n == 0xc0) ≡ a → (n == 0xc1) ≡ b → (n == 0xc2) ≡ c → (n == 0xc3) ≡ d
    → (if a then Some question.ActiveName else (if b then Some question.BlockSize
    else (if c then Some question.Enabled else (if d then Some question.Status else None)))) ≡ Some q → n ≡ invoke_byte q
found_by true b c d n q ea eb ec ed e = subst (λ (r : Question). n ≡ invoke_byte r) (same_Some question.ActiveName q e) (eqb-true n 0xc0 ea)
found_by false true c d n q ea eb ec ed e = subst (λ (r : Question). n ≡ invoke_byte r) (same_Some question.BlockSize q e) (eqb-true n 0xc1 eb)
found_by false false true d n q ea eb ec ed e = subst (λ (r : Question). n ≡ invoke_byte r) (same_Some question.Enabled q e) (eqb-true n 0xc2 ec)
found_by false false false true n q ea eb ec ed e = subst (λ (r : Question). n ≡ invoke_byte r) (same_Some question.Status q e) (eqb-true n 0xc3 ed)
found_by false false false false n q ea eb ec ed e = absurd (none-some q e)

pub found_byte : (n : ℕ) (q : Question) → question_of n ≡ Some q → n ≡ invoke_byte q
found_byte n q e = found_by (n == 0xc0) (n == 0xc1) (n == 0xc2) (n == 0xc3) n q refl refl refl refl e

own_byte : (q : Question) → question_of (invoke_byte q) ≡ Some q
own_byte question.ActiveName = refl
own_byte question.BlockSize = refl
own_byte question.Enabled = refl
own_byte question.Status = refl

pub no_byte : (n : ℕ) (content : ResponseContent) → question_of n ≡ None → RespondsNone n content
no_byte n content e = λ q result is read. none-some q (sym e ∙ ap question_of is ∙ own_byte q)

-- ---- what is carried

pub record SameResponse (i j : ℕ) (r t : ResponseContent) : Type 0 where
  pub bytes : i ≡ j
  pub contents : r ≡ t

one_carried : wrapper.OneFrame → apdu.OneResponse → (datagram : List ℕ) (i j : ℕ) (r t : ResponseContent) → CarriesResponse datagram i r → CarriesResponse datagram j t → SameResponse i j r t
one_carried frames responses datagram i j r t h k =
    let same = (frames datagram h.apdu k.apdu wport wport wport wport h.wraps k.wraps).2 in
    let both = responses k.apdu i j r t (subst (λ (s : List ℕ). SpellsResponse s i r) same h.spells) k.spells in
    record { bytes = both.0; contents = both.1 }

-- an answer is carried as a response
carried : (datagram : List ℕ) (q : Question) (a : Answer) → (h : Answers datagram q a) → CarriesResponse datagram (invoke_byte q) (get_response h.result)
carried datagram q a h = record { apdu = h.apdu; wraps = h.wraps; spells = h.spells }

answered_by : wrapper.OneFrame → apdu.OneResponse → (datagram : List ℕ) (invoke : ℕ) (content : ResponseContent) (o : Option (Question × Answer))
    → CarriesResponse datagram invoke content → FindsBy invoke content o → FindsAnswer datagram o
answered_by frames responses datagram invoke content (Some x) carries a = record {
  answers = record {
    apdu = carries.apdu;
    result = a.result;
    wraps = carries.wraps;
    spells = subst (λ (r : ResponseContent). SpellsResponse carries.apdu (invoke_byte x.0) r) a.is
        (subst (λ (i : ℕ). SpellsResponse carries.apdu i content) a.byte carries.spells);
    says = a.says;
  };
  just = λ r b h.
      let same = one_carried frames responses datagram (invoke_byte r) invoke (get_response h.result) content (carried datagram r b h) carries in
      same_question r x.0 (same.bytes ∙ a.byte);
}
answered_by frames responses datagram invoke content None carries missing = λ q b h.
    let same = one_carried frames responses datagram (invoke_byte q) invoke (get_response h.result) content (carried datagram q b h) carries in
    missing q h.result (sym same.bytes) (sym same.contents)

pub answered : wrapper.OneFrame → apdu.OneResponse → (datagram : List ℕ) (found : Option Response) (r : Response) (o : Option (Question × Answer))
    → found ≡ Some r → IsResponseIn datagram found → FindsBy (response_invoke r) (response_content r) o → FindsAnswer datagram o
answered frames responses datagram found r o e carries a =
    answered_by frames responses datagram (response_invoke r) (response_content r) o (subst (λ (x : Option Response). IsResponseIn datagram x) e carries) a

pub none_answers : (datagram : List ℕ) (found : Option Response) → found ≡ None → IsResponseIn datagram found
    → (q : Question) (a : Answer) → Answers datagram q a → ⊥
none_answers datagram None e missing q a h = missing (invoke_byte q) (get_response h.result) (carried datagram q a h)
none_answers datagram (Some r) e carries q a h = absurd (none-some r (sym e))
