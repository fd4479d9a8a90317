-- Different questions have different invoke bytes and different datagrams.
use Rattle.std.proofs.Common.{◌≡◌, ◌≢◌, ◌⊎◌, ℕ, ◌≤◌, List, get_or, length, inl, inr, refl, sym, ap, ◌∙◌, arith}
use Rattle.fw_wrapper.specs.Wrapper.{max_apdu}
use Rattle.fw_apdu.specs.Request.{get_request, request_bytes}
use Rattle.fw_survey.specs.Questions.{attribute_of, invoke_byte, question_bytes}
use Rattle.fw_survey.specs.Rows.{Row, inquiry_of, with_inquiry}
use Rattle.fw_survey.specs.declared.question.Question.{Question}
use Rattle.fw_survey.specs.declared.question.Question.TheVariants as question
use Rattle.fw_survey.specs.declared.row.Inquiry.{Inquiry}

pub same_question : (q r : Question) → invoke_byte q ≡ invoke_byte r → q ≡ r
same_question question.ActiveName question.ActiveName e = refl
same_question question.ActiveName question.BlockSize e = absurd (omega (arith, e))
same_question question.ActiveName question.Enabled e = absurd (omega (arith, e))
same_question question.ActiveName question.Status e = absurd (omega (arith, e))
same_question question.BlockSize question.ActiveName e = absurd (omega (arith, e))
same_question question.BlockSize question.BlockSize e = refl
same_question question.BlockSize question.Enabled e = absurd (omega (arith, e))
same_question question.BlockSize question.Status e = absurd (omega (arith, e))
same_question question.Enabled question.ActiveName e = absurd (omega (arith, e))
same_question question.Enabled question.BlockSize e = absurd (omega (arith, e))
same_question question.Enabled question.Enabled e = refl
same_question question.Enabled question.Status e = absurd (omega (arith, e))
same_question question.Status question.ActiveName e = absurd (omega (arith, e))
same_question question.Status question.BlockSize e = absurd (omega (arith, e))
same_question question.Status question.Enabled e = absurd (omega (arith, e))
same_question question.Status question.Status e = refl

-- the invoke byte stands behind the wrapper's header and two bytes
byte_of : (q : Question) → get_or (question_bytes q) 10 0 ≡ invoke_byte q
byte_of question.ActiveName = refl
byte_of question.BlockSize = refl
byte_of question.Enabled = refl
byte_of question.Status = refl

pub same_asked : (q r : Question) → question_bytes q ≡ question_bytes r → q ≡ r
same_asked q r e = same_question q r (sym (byte_of q) ∙ ap (λ (bytes : List ℕ). get_or bytes 10 0) e ∙ byte_of r)

-- a request fits an APDU
pub question_fits : (q : Question) → length (request_bytes (invoke_byte q) (get_request (attribute_of q))) ≤ max_apdu
question_fits question.ActiveName = omega arith
question_fits question.BlockSize = omega arith
question_fits question.Enabled = omega arith
question_fits question.Status = omega arith

-- ---- what became of each question

pub put_there : (row : Row) (q : Question) (inquiry : Inquiry) → inquiry_of (with_inquiry row q inquiry) q ≡ inquiry
put_there row question.ActiveName inquiry = refl
put_there row question.BlockSize inquiry = refl
put_there row question.Enabled inquiry = refl
put_there row question.Status inquiry = refl

pub put_address : (row : Row) (q : Question) (inquiry : Inquiry) → (with_inquiry row q inquiry).address ≡ row.address
put_address row question.ActiveName inquiry = refl
put_address row question.BlockSize inquiry = refl
put_address row question.Enabled inquiry = refl
put_address row question.Status inquiry = refl

pub put_meter : (row : Row) (q : Question) (inquiry : Inquiry) → (with_inquiry row q inquiry).meter ≡ row.meter
put_meter row question.ActiveName inquiry = refl
put_meter row question.BlockSize inquiry = refl
put_meter row question.Enabled inquiry = refl
put_meter row question.Status inquiry = refl

-- one question is another, or what became of it stays if the other is put
pub record IsOther (q r : Question) : Type 0 where
  pub apart : r ≢ q
  pub kept : (row : Row) (inquiry : Inquiry) → inquiry_of (with_inquiry row q inquiry) r ≡ inquiry_of row r

not_same : {q r : Question} → (invoke_byte r ≡ invoke_byte q → ⊥) → r ≢ q
not_same differ e = differ (ap invoke_byte e)

pub same_or_other : (q r : Question) → (r ≡ q) ⊎ IsOther q r
same_or_other question.ActiveName question.ActiveName = inl refl
same_or_other question.ActiveName question.BlockSize = inr (record { apart = not_same (λ e. omega (arith, e)); kept = λ row inquiry. refl })
same_or_other question.ActiveName question.Enabled = inr (record { apart = not_same (λ e. omega (arith, e)); kept = λ row inquiry. refl })
same_or_other question.ActiveName question.Status = inr (record { apart = not_same (λ e. omega (arith, e)); kept = λ row inquiry. refl })
same_or_other question.BlockSize question.ActiveName = inr (record { apart = not_same (λ e. omega (arith, e)); kept = λ row inquiry. refl })
same_or_other question.BlockSize question.BlockSize = inl refl
same_or_other question.BlockSize question.Enabled = inr (record { apart = not_same (λ e. omega (arith, e)); kept = λ row inquiry. refl })
same_or_other question.BlockSize question.Status = inr (record { apart = not_same (λ e. omega (arith, e)); kept = λ row inquiry. refl })
same_or_other question.Enabled question.ActiveName = inr (record { apart = not_same (λ e. omega (arith, e)); kept = λ row inquiry. refl })
same_or_other question.Enabled question.BlockSize = inr (record { apart = not_same (λ e. omega (arith, e)); kept = λ row inquiry. refl })
same_or_other question.Enabled question.Enabled = inl refl
same_or_other question.Enabled question.Status = inr (record { apart = not_same (λ e. omega (arith, e)); kept = λ row inquiry. refl })
same_or_other question.Status question.ActiveName = inr (record { apart = not_same (λ e. omega (arith, e)); kept = λ row inquiry. refl })
same_or_other question.Status question.BlockSize = inr (record { apart = not_same (λ e. omega (arith, e)); kept = λ row inquiry. refl })
same_or_other question.Status question.Enabled = inr (record { apart = not_same (λ e. omega (arith, e)); kept = λ row inquiry. refl })
same_or_other question.Status question.Status = inl refl
