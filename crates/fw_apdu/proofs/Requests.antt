-- Bytes spell one request at most, and a fault leaves none.
use Rattle.std.proofs.Common.{◌≡◌, ℕ, Bool, true, false, List, [], ◌∷◌, ◌++◌, Some, None, sym, ap, subst, ◌∙◌, arith}
use Rattle.std.specs.Prelude.{MatchBool, ◌==◌}
use Rattle.std.proofs.lemmas.Bool.{ne_eqb}
use Rattle.fw_axdr.specs.Laws as axdr
use Rattle.fw_apdu.specs.declared.error.ApduError.{ApduError}
use Rattle.fw_apdu.specs.declared.error.ApduError.TheVariants.{UnknownService, UnsupportedForm}
use Rattle.fw_apdu.specs.Request.{Descriptor, RequestContent, get_request, set_request, action_request, head_bytes, SpellsRequest}
use Rattle.fw_apdu.specs.Fault.{EndFails, DataFails, BytesFail, HeadFails, SelectionFails, ParameterFails, GetFails, SetFails, ActionFails, RequestFails}
use Rattle.fw_apdu.specs.Laws.{OneRequestFault, OneRequest}
use Rattle.fw_apdu.proofs.Heads.{head_is, same_head}
use Rattle.fw_apdu.proofs.Tails.{no_data, one_data_fault, one_byte_fault, one_bytes_fault, one_end_fault, one_value, first}

-- ---- one fault

one_head_fault : (behind : List ℕ → ApduError → Type 0) (s : List ℕ) (e f : ApduError) → ((t : List ℕ) → behind t e → behind t f → e ≡ f) → HeadFails behind s e → HeadFails behind s f → e ≡ f
one_head_fault behind s e f one h k = one_byte_fault (λ b. b == 0x01) UnsupportedForm (λ t g. BytesFail 10 behind t g) s e f (λ t x y. one_bytes_fault 10 behind t e f one x y) h k

one_parameter_fault : axdr.OneFault → (s : List ℕ) (e f : ApduError) → ParameterFails s e → ParameterFails s f → e ≡ f
one_parameter_fault faults [] e f h k = h ∙ sym k
one_parameter_fault faults (b ∷ s) e f h k = by_test (b == 0x00) h k
  where
    by_test : (none : Bool) → MatchBool none (EndFails s e) (DataFails s e) → MatchBool none (EndFails s f) (DataFails s f) → e ≡ f
    by_test true x y = one_end_fault s e f x y
    by_test false x y = one_data_fault faults s e f x y

request_fault_is_one : axdr.OneFault → (s : List ℕ) (e f : ApduError) → RequestFails s e → RequestFails s f → e ≡ f
request_fault_is_one faults [] e f h k = h ∙ sym k
request_fault_is_one faults (b ∷ s) e f h k = by_service (b == 0xc0) (b == 0xc1) (b == 0xc3) h k
  where
    by_service : (get set action : Bool) → MatchBool get (GetFails s e) (MatchBool set (SetFails s e) (MatchBool action (ActionFails s e) (e ≡ UnknownService)))
        → MatchBool get (GetFails s f) (MatchBool set (SetFails s f) (MatchBool action (ActionFails s f) (f ≡ UnknownService))) → e ≡ f
    by_service true set action x y =
        one_head_fault (λ t g. SelectionFails (λ u g. EndFails u g) t g) s e f (λ t p q. one_byte_fault (λ b. b == 0x00) UnsupportedForm (λ u g. EndFails u g) t e f (λ u p q. one_end_fault u e f p q) p q) x y
    by_service false true action x y =
        one_head_fault (λ t g. SelectionFails (λ u g. DataFails u g) t g) s e f (λ t p q. one_byte_fault (λ b. b == 0x00) UnsupportedForm (λ u g. DataFails u g) t e f (λ u p q. one_data_fault faults u e f p q) p q) x y
    by_service false false true x y = one_head_fault (λ t g. ParameterFails t g) s e f (λ t p q. one_parameter_fault faults t e f p q) x y
    by_service false false false x y = x ∙ sym y

-- ---- a request has no fault

request_has_no_fault : axdr.OneSpelling → axdr.OneFault → (s : List ℕ) (e : ApduError) (i : ℕ) (content : RequestContent) → SpellsRequest s i content → RequestFails s e → ⊥
request_has_no_fault one faults s e i (get_request d) h k =
    let at_head : HeadFails (λ t g. SelectionFails (λ u g. EndFails u g) t g) (head_bytes i d ++ 0x00 ∷ []) e = subst (λ (x : List ℕ). RequestFails x e) h.1 k in
    subst (λ (T : Type 0). T) (head_is (λ t g. SelectionFails (λ u g. EndFails u g) t g) i d (0x00 ∷ []) e h.0) at_head
request_has_no_fault one faults s e i (set_request d v) h k =
    let at_head : HeadFails (λ t g. SelectionFails (λ u g. DataFails u g) t g) (head_bytes i d ++ 0x00 ∷ h.1.0) e = subst (λ (x : List ℕ). RequestFails x e) h.1.1 k in
    no_data one faults h.1.0 e v (subst (λ (T : Type 0). T) (head_is (λ t g. SelectionFails (λ u g. DataFails u g) t g) i d (0x00 ∷ h.1.0) e h.0) at_head) h.1.2
request_has_no_fault one faults s e i (action_request d None) h k =
    let at_head : HeadFails (λ t g. ParameterFails t g) (head_bytes i d ++ 0x00 ∷ []) e = subst (λ (x : List ℕ). RequestFails x e) h.1 k in
    subst (λ (T : Type 0). T) (head_is (λ t g. ParameterFails t g) i d (0x00 ∷ []) e h.0) at_head
request_has_no_fault one faults s e i (action_request d (Some v)) h k =
    let at_head : HeadFails (λ t g. ParameterFails t g) (head_bytes i d ++ h.1.0 ∷ h.1.1) e = subst (λ (x : List ℕ). RequestFails x e) h.1.2 k in
    let given : (h.1.0 == 0x00) ≡ false = ne_eqb h.1.0 0x00 h.1.3 in
    let at_data : DataFails h.1.1 e = rw given at (subst (λ (T : Type 0). T) (head_is (λ t g. ParameterFails t g) i d (h.1.0 ∷ h.1.1) e h.0) at_head) in
    no_data one faults h.1.1 e v at_data h.1.4

pub one_request_fault : axdr.OneSpelling → axdr.OneFault → OneRequestFault
one_request_fault one faults s e f h = (λ i content spelled. request_has_no_fault one faults s e i content spelled h, λ k. request_fault_is_one faults s e f h k)

-- ---- one request

pub one_request : axdr.OneSpelling → OneRequest
one_request one s i j (get_request d) (get_request f) h k =
    let same = same_head i j d f (0x00 ∷ []) (0x00 ∷ []) h.0 k.0 (cc (sym h.1 ∙ k.1)) in
    (same.invokes, ap get_request same.descriptors)
one_request one s i j (set_request d v) (set_request f w) h k =
    let same = same_head i j d f (0x00 ∷ h.1.0) (0x00 ∷ k.1.0) h.0 k.0 (cc (sym h.1.1 ∙ k.1.1)) in
    let values : v ≡ w = one_value one h.1.0 k.1.0 v w (cc same.rests) h.1.2 k.1.2 in
    (same.invokes, λ x. set_request (same.descriptors x) (values x))
one_request one s i j (action_request d None) (action_request f None) h k =
    let same = same_head i j d f (0x00 ∷ []) (0x00 ∷ []) h.0 k.0 (cc (sym h.1 ∙ k.1)) in
    (same.invokes, ap (λ (x : Descriptor). action_request x None) same.descriptors)
one_request one s i j (action_request d (Some v)) (action_request f (Some w)) h k =
    let same = same_head i j d f (h.1.0 ∷ h.1.1) (k.1.0 ∷ k.1.1) h.0 k.0 (cc (sym h.1.2 ∙ k.1.2)) in
    let values : v ≡ w = one_value one h.1.1 k.1.1 v w (cc same.rests) h.1.4 k.1.4 in
    (same.invokes, λ x. action_request (same.descriptors x) (Some (values x)))
one_request one s i j (action_request d None) (action_request f (Some w)) h k =
    let same = same_head i j d f (0x00 ∷ []) (k.1.0 ∷ k.1.1) h.0 k.0 (cc (sym h.1 ∙ k.1.2)) in
    absurd (k.1.3 (cc same.rests))
one_request one s i j (action_request d (Some v)) (action_request f None) h k =
    let same = same_head i j d f (h.1.0 ∷ h.1.1) (0x00 ∷ []) h.0 k.0 (cc (sym h.1.2 ∙ k.1)) in
    absurd (h.1.3 (cc same.rests))
one_request one s i j (get_request d) (set_request f w) h k = absurd (omega (arith, first s _ _ 0xc0 0xc1 h.1 k.1.1))
one_request one s i j (get_request d) (action_request f None) h k = absurd (omega (arith, first s _ _ 0xc0 0xc3 h.1 k.1))
one_request one s i j (get_request d) (action_request f (Some w)) h k = absurd (omega (arith, first s _ _ 0xc0 0xc3 h.1 k.1.2))
one_request one s i j (set_request d v) (get_request f) h k = absurd (omega (arith, first s _ _ 0xc1 0xc0 h.1.1 k.1))
one_request one s i j (set_request d v) (action_request f None) h k = absurd (omega (arith, first s _ _ 0xc1 0xc3 h.1.1 k.1))
one_request one s i j (set_request d v) (action_request f (Some w)) h k = absurd (omega (arith, first s _ _ 0xc1 0xc3 h.1.1 k.1.2))
one_request one s i j (action_request d None) (get_request f) h k = absurd (omega (arith, first s _ _ 0xc3 0xc0 h.1 k.1))
one_request one s i j (action_request d None) (set_request f w) h k = absurd (omega (arith, first s _ _ 0xc3 0xc1 h.1 k.1.1))
one_request one s i j (action_request d (Some v)) (get_request f) h k = absurd (omega (arith, first s _ _ 0xc3 0xc0 h.1.2 k.1))
one_request one s i j (action_request d (Some v)) (set_request f w) h k = absurd (omega (arith, first s _ _ 0xc3 0xc1 h.1.2 k.1.1))
