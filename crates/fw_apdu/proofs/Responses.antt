-- Bytes spell one response at most, and a fault leaves none.
use Rattle.std.proofs.Common.{◌≡◌, ℕ, Bool, true, false, List, [], ◌∷◌, Some, None, sym, ap, subst, ◌∙◌, arith}
use Rattle.std.specs.Prelude.{MatchBool, ◌==◌}
use Rattle.std.proofs.lemmas.Bool.{ne_eqb}
use Rattle.fw_axdr.specs.Laws as axdr
use Rattle.fw_apdu.specs.declared.error.ApduError.{ApduError}
use Rattle.fw_apdu.specs.declared.error.ApduError.TheVariants.{UnknownService, UnsupportedForm}
use Rattle.fw_apdu.specs.Response.{GetResult, value, code, ResponseContent, get_response, set_response, action_response, SpellsResult, SpellsResponse}
use Rattle.fw_apdu.specs.Fault.{EndFails, DataFails, BytesFail, ResultFails, ReturnedFails, AnswerFails, GetAnswerFails, SetAnswerFails, ActionAnswerFails, ResponseFails}
use Rattle.fw_apdu.specs.Laws.{OneResponseFault, OneResponse}
use Rattle.fw_apdu.proofs.Tails.{byte_is, no_data, one_data_fault, one_byte_fault, one_bytes_fault, one_end_fault, one_value, first}

-- ---- one fault

one_code_fault : (s : List ℕ) (e f : ApduError) → BytesFail 1 (λ t g. EndFails t g) s e → BytesFail 1 (λ t g. EndFails t g) s f → e ≡ f
one_code_fault s e f h k = one_bytes_fault 1 (λ t g. EndFails t g) s e f (λ t x y. one_end_fault t e f x y) h k

one_result_fault : axdr.OneFault → (s : List ℕ) (e f : ApduError) → ResultFails s e → ResultFails s f → e ≡ f
one_result_fault faults [] e f h k = h ∙ sym k
one_result_fault faults (b ∷ s) e f h k = by_choice (b == 0x00) (b == 0x01) h k
  where
    by_choice : (given coded : Bool) → MatchBool given (DataFails s e) (MatchBool coded (BytesFail 1 (λ t g. EndFails t g) s e) (e ≡ UnsupportedForm))
        → MatchBool given (DataFails s f) (MatchBool coded (BytesFail 1 (λ t g. EndFails t g) s f) (f ≡ UnsupportedForm)) → e ≡ f
    by_choice true coded x y = one_data_fault faults s e f x y
    by_choice false true x y = one_code_fault s e f x y
    by_choice false false x y = x ∙ sym y

one_returned_fault : axdr.OneFault → (s : List ℕ) (e f : ApduError) → ReturnedFails s e → ReturnedFails s f → e ≡ f
one_returned_fault faults [] e f h k = h ∙ sym k
one_returned_fault faults (b ∷ s) e f h k = by_test (b == 0x00) h k
  where
    by_test : (none : Bool) → MatchBool none (EndFails s e) (ResultFails s e) → MatchBool none (EndFails s f) (ResultFails s f) → e ≡ f
    by_test true x y = one_end_fault s e f x y
    by_test false x y = one_result_fault faults s e f x y

one_answer_fault : (behind : List ℕ → ApduError → Type 0) (s : List ℕ) (e f : ApduError) → ((t : List ℕ) → behind t e → behind t f → e ≡ f) → AnswerFails behind s e → AnswerFails behind s f → e ≡ f
one_answer_fault behind s e f one h k = one_byte_fault (λ b. b == 0x01) UnsupportedForm (λ t g. BytesFail 1 behind t g) s e f (λ t x y. one_bytes_fault 1 behind t e f one x y) h k

response_fault_is_one : axdr.OneFault → (s : List ℕ) (e f : ApduError) → ResponseFails s e → ResponseFails s f → e ≡ f
response_fault_is_one faults [] e f h k = h ∙ sym k
response_fault_is_one faults (b ∷ s) e f h k = by_service (b == 0xc4) (b == 0xc5) (b == 0xc7) h k
  where
    by_service : (get set action : Bool) → MatchBool get (GetAnswerFails s e) (MatchBool set (SetAnswerFails s e) (MatchBool action (ActionAnswerFails s e) (e ≡ UnknownService)))
        → MatchBool get (GetAnswerFails s f) (MatchBool set (SetAnswerFails s f) (MatchBool action (ActionAnswerFails s f) (f ≡ UnknownService))) → e ≡ f
    by_service true set action x y = one_answer_fault (λ t g. ResultFails t g) s e f (λ t p q. one_result_fault faults t e f p q) x y
    by_service false true action x y = one_answer_fault (λ t g. BytesFail 1 (λ u i. EndFails u i) t g) s e f (λ t p q. one_code_fault t e f p q) x y
    by_service false false true x y =
        one_answer_fault (λ t g. BytesFail 1 (λ u i. ReturnedFails u i) t g) s e f (λ t p q. one_bytes_fault 1 (λ u i. ReturnedFails u i) t e f (λ u v w. one_returned_fault faults u e f v w) p q) x y
    by_service false false false x y = x ∙ sym y

-- ---- a response has no fault

no_result : axdr.OneSpelling → axdr.OneFault → (s : List ℕ) (e : ApduError) (r : GetResult) → SpellsResult s r → ResultFails s e → ⊥
no_result one faults s e (value v) h k = no_data one faults h.0 e v (subst (λ (x : List ℕ). ResultFails x e) h.1 k) h.2
no_result one faults s e (code c) h k = subst (λ (x : List ℕ). ResultFails x e) h k

-- after the normal form and an invoke byte
answer_is : (behind : List ℕ → ApduError → Type 0) (i : ℕ) (s : List ℕ) (e : ApduError) → AnswerFails behind (0x01 ∷ i ∷ s) e → behind s e
answer_is behind i s e k = subst (λ (T : Type 0). T) (byte_is behind i s e) k

response_has_no_fault : axdr.OneSpelling → axdr.OneFault → (s : List ℕ) (e : ApduError) (i : ℕ) (content : ResponseContent) → SpellsResponse s i content → ResponseFails s e → ⊥
response_has_no_fault one faults s e i (get_response r) h k =
    let at_answer : AnswerFails (λ t f. ResultFails t f) (0x01 ∷ i ∷ h.0) e = subst (λ (x : List ℕ). ResponseFails x e) h.1 k in
    no_result one faults h.0 e r h.2 (answer_is (λ t f. ResultFails t f) i h.0 e at_answer)
response_has_no_fault one faults s e i (set_response c) h k =
    let at_answer : AnswerFails (λ t f. BytesFail 1 (λ u g. EndFails u g) t f) (0x01 ∷ i ∷ c ∷ []) e = subst (λ (x : List ℕ). ResponseFails x e) h k in
    answer_is (λ t f. BytesFail 1 (λ u g. EndFails u g) t f) i (c ∷ []) e at_answer
response_has_no_fault one faults s e i (action_response c None) h k =
    let at_answer : AnswerFails (λ t f. BytesFail 1 (λ u g. ReturnedFails u g) t f) (0x01 ∷ i ∷ c ∷ 0x00 ∷ []) e = subst (λ (x : List ℕ). ResponseFails x e) h k in
    answer_is (λ t f. BytesFail 1 (λ u g. ReturnedFails u g) t f) i (c ∷ 0x00 ∷ []) e at_answer
response_has_no_fault one faults s e i (action_response c (Some r)) h k =
    let at_answer : AnswerFails (λ t f. BytesFail 1 (λ u g. ReturnedFails u g) t f) (0x01 ∷ i ∷ c ∷ h.0 ∷ h.1) e = subst (λ (x : List ℕ). ResponseFails x e) h.2 k in
    let at_code = answer_is (λ t f. BytesFail 1 (λ u g. ReturnedFails u g) t f) i (c ∷ h.0 ∷ h.1) e at_answer in
    let given : (h.0 == 0x00) ≡ false = ne_eqb h.0 0x00 h.3 in
    let at_result : ResultFails h.1 e = rw given at (subst (λ (T : Type 0). T) (byte_is (λ u g. ReturnedFails u g) c (h.0 ∷ h.1) e) at_code) in
    no_result one faults h.1 e r h.4 at_result

pub one_response_fault : axdr.OneSpelling → axdr.OneFault → OneResponseFault
one_response_fault one faults s e f h = (λ i content spelled. response_has_no_fault one faults s e i content spelled h, λ k. response_fault_is_one faults s e f h k)

-- ---- one response

one_result : axdr.OneSpelling → (s t : List ℕ) (a b : GetResult) → s ≡ t → SpellsResult s a → SpellsResult t b → a ≡ b
one_result one s t (value v) (value w) e h k = ap value (one_value one h.0 k.0 v w (cc (sym h.1 ∙ e ∙ k.1)) h.2 k.2)
one_result one s t (code c) (code d) e h k = ap code (cc (sym h ∙ e ∙ k))
one_result one s t (value v) (code d) e h k = absurd (omega (arith, first s _ _ 0x00 0x01 h.1 (e ∙ k)))
one_result one s t (code c) (value w) e h k = absurd (omega (arith, first s _ _ 0x01 0x00 h (e ∙ k.1)))

pub one_response : axdr.OneSpelling → OneResponse
one_response one s i j (get_response a) (get_response b) h k =
    let results : a ≡ b = one_result one h.0 k.0 a b (cc (sym h.1 ∙ k.1)) h.2 k.2 in
    (cc (sym h.1 ∙ k.1), ap get_response results)
one_response one s i j (set_response c) (set_response d) h k = (cc (sym h ∙ k), ap set_response (cc (sym h ∙ k)))
one_response one s i j (action_response c None) (action_response d None) h k = (cc (sym h ∙ k), ap (λ (x : ℕ). action_response x None) (cc (sym h ∙ k)))
one_response one s i j (action_response c (Some a)) (action_response d (Some b)) h k =
    let codes : c ≡ d = cc (sym h.2 ∙ k.2) in
    let results : a ≡ b = one_result one h.1 k.1 a b (cc (sym h.2 ∙ k.2)) h.4 k.4 in
    (cc (sym h.2 ∙ k.2), λ x. action_response (codes x) (Some (results x)))
one_response one s i j (action_response c None) (action_response d (Some b)) h k = absurd (k.3 (cc (sym k.2 ∙ h)))
one_response one s i j (action_response c (Some a)) (action_response d None) h k = absurd (h.3 (cc (sym h.2 ∙ k)))
one_response one s i j (get_response a) (set_response d) h k = absurd (omega (arith, first s _ _ 0xc4 0xc5 h.1 k))
one_response one s i j (get_response a) (action_response d None) h k = absurd (omega (arith, first s _ _ 0xc4 0xc7 h.1 k))
one_response one s i j (get_response a) (action_response d (Some b)) h k = absurd (omega (arith, first s _ _ 0xc4 0xc7 h.1 k.2))
one_response one s i j (set_response c) (get_response b) h k = absurd (omega (arith, first s _ _ 0xc5 0xc4 h k.1))
one_response one s i j (set_response c) (action_response d None) h k = absurd (omega (arith, first s _ _ 0xc5 0xc7 h k))
one_response one s i j (set_response c) (action_response d (Some b)) h k = absurd (omega (arith, first s _ _ 0xc5 0xc7 h k.2))
one_response one s i j (action_response c None) (get_response b) h k = absurd (omega (arith, first s _ _ 0xc7 0xc4 h k.1))
one_response one s i j (action_response c None) (set_response d) h k = absurd (omega (arith, first s _ _ 0xc7 0xc5 h k))
one_response one s i j (action_response c (Some a)) (get_response b) h k = absurd (omega (arith, first s _ _ 0xc7 0xc4 h.2 k.1))
one_response one s i j (action_response c (Some a)) (set_response d) h k = absurd (omega (arith, first s _ _ 0xc7 0xc5 h.2 k))
