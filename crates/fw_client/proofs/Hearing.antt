-- A client and a datagram determine what is heard.
use Rattle.std.proofs.Common.{◌≡◌, ℕ, List, Some, None, Option, inl, inr, refl, sym, ap, subst, ◌∙◌, arith}
use Rattle.std.specs.FinMap.{get}
use Rattle.fw_axdr.specs.Value.{Value, Values, array, bit_string, double_long_unsigned, octet_string, enumerated, none, more}
use Rattle.fw_wrapper.specs.Laws as wrapper
use Rattle.fw_names.specs.Name.{Name, SpellsName}
use Rattle.fw_names.specs.Laws as names
use Rattle.fw_apdu.specs.Laws as apdu
use Rattle.fw_wrapper.specs.Wrapper.{Wraps, wport}
use Rattle.fw_apdu.specs.declared.error.ApduError.{ApduError}
use Rattle.fw_apdu.specs.declared.error.ApduError.TheVariants.{OutOfMemory}
use Rattle.fw_apdu.specs.Fault.{IfMemory}
use Rattle.fw_apdu.specs.Response.{value, code, ResponseContent, get_response, set_response, action_response, SpellsResponse, MayReturnData}
use Rattle.fw_client.specs.Claim.{Claim}
use Rattle.fw_client.specs.State.{State, invoke_byte, without}
use Rattle.fw_client.specs.Matching.{TellsOf, IsInfoOf, IsInfo, IsActive, IsNumber, IsBits, IsStatus, IsValue, Matches, element}
use Rattle.fw_client.specs.Hearing.{CarriesResponse, MayCarryData, Answers, Hears, IsClaimed}
use Rattle.fw_client.specs.Laws.{OneHearing, OnlyClaimed}
use Rattle.fw_apdu.specs.View.{response_content, response_invoke}
use Rattle.fw_apdu.specs.declared.response.Response.{Response}
use Rattle.fw_client.specs.Private.{Finds, IsResponseIn, AnsweredBy}
use Rattle.fw_client.specs.declared.ask.Asked.{Asked}
use Rattle.fw_client.specs.declared.ask.Asked.TheVariants as asked
use Rattle.fw_client.specs.declared.heard.Heard.{Heard}
use Rattle.fw_client.specs.declared.heard.Heard.TheVariants as heard

-- ---- what is matched

-- the identification of the one element
identification_is : (a b : ℕ) (i j s t : List ℕ) → more (element a i s) none ≡ more (element b j t) none → i ≡ j
identification_is a b i j s t e = grind arith

one_told : names.OneName → (vs : Values) (a b : Name) → TellsOf vs a → TellsOf vs b → a ≡ b
one_told law vs a b h k =
    let same = identification_is h.size k.size h.identification k.identification h.signature k.signature (sym h.one ∙ k.one) in
    law k.identification a b (subst (λ (s : List ℕ). SpellsName s a) same h.spells) k.spells

one_info : names.OneName → (vs : Values) (a b : Option Name) → IsInfoOf vs a → IsInfoOf vs b → a ≡ b
one_info law vs None None h k = refl
one_info law vs None (Some b) h k = absurd (h b k)
one_info law vs (Some a) None h k = absurd (k a h)
one_info law vs (Some a) (Some b) h k = ap Some (one_told law vs a b h k)

info_once : names.OneName → (v : Value) (h k : Heard) → IsInfo v h → IsInfo v k → h ≡ k
info_once law (array vs) h k (a, is, e) (b, is', e') = e ∙ ap heard.Info (one_info law vs a b is is') ∙ sym e'
info_once law v h k is is' = absurd is

active_once : names.OneName → (meter : ℕ) (v : Value) (h k : Heard) → IsActive meter v h → IsActive meter v k → h ≡ k
active_once law meter (octet_string bytes) h k (a, is, e) (b, is', e') =
    e ∙ ap (λ (name : Name). heard.Active (record { meter = meter; name = name })) (law bytes a b is is') ∙ sym e'
active_once law meter v h k is is' = absurd is

number_once : (v : Value) (h k : Heard) → IsNumber v h → IsNumber v k → h ≡ k
number_once (double_long_unsigned n) h k e e' = e ∙ sym e'
number_once v h k is is' = absurd is

bits_once : (v : Value) (h k : Heard) → IsBits v h → IsBits v k → h ≡ k
bits_once (bit_string bits) h k e e' = e ∙ sym e'
bits_once v h k is is' = absurd is

status_once : (v : Value) (h k : Heard) → IsStatus v h → IsStatus v k → h ≡ k
status_once (enumerated status) h k e e' = e ∙ sym e'
status_once v h k is is' = absurd is

value_once : names.OneName → (meter : ℕ) (a : Asked) (v : Value) (h k : Heard) → IsValue meter a v h → IsValue meter a v k → h ≡ k
value_once law meter asked.BlockSize v h k is is' = number_once v h k is is'
value_once law meter asked.FirstMissing v h k is is' = number_once v h k is is'
value_once law meter asked.Blocks v h k is is' = bits_once v h k is is'
value_once law meter asked.Status v h k is is' = status_once v h k is is'
value_once law meter asked.Info v h k is is' = info_once law v h k is is'
value_once law meter asked.ActiveName v h k is is' = active_once law meter v h k is is'
value_once law meter asked.Enable v h k is is' = absurd is
value_once law meter asked.Initiate v h k is is' = absurd is
value_once law meter (asked.Block number) v h k is is' = absurd is
value_once law meter asked.Verify v h k is is' = absurd is
value_once law meter asked.Activate v h k is is' = absurd is

matched_once : names.OneName → (meter : ℕ) (a : Asked) (r : ResponseContent) (h k : Heard) → Matches meter a r h → Matches meter a r k → h ≡ k
matched_once law meter a (get_response (value v)) h k is is' = value_once law meter a v h k is is'
matched_once law meter a (get_response (code c)) h k is is' = is.1 ∙ sym is'.1
matched_once law meter a (set_response c) h k is is' = is.1 ∙ sym is'.1
matched_once law meter a (action_response c returned) h k is is' = is.1 ∙ sym is'.1

-- ---- what is carried

pub record SameResponse (i j : ℕ) (r t : ResponseContent) : Type 0 where
  pub bytes : i ≡ j
  pub contents : r ≡ t

pub one_carried : wrapper.OneFrame → apdu.OneResponse → (datagram : List ℕ) (i j : ℕ) (r t : ResponseContent) → CarriesResponse datagram i r → CarriesResponse datagram j t → SameResponse i j r t
one_carried frames responses datagram i j r t h k =
    let same = (frames datagram h.apdu k.apdu 1 1 1 1 h.wraps k.wraps).2 in
    let both = responses k.apdu i j r t (subst (λ (s : List ℕ). SpellsResponse s i r) same h.spells) k.spells in
    record { bytes = both.0; contents = both.1 }

same_id : (i j : ℕ) → invoke_byte i ≡ invoke_byte j → i ≡ j
same_id i j e = omega (arith, e)

some_is : (a b : Asked) → Some a ≡ Some b → a ≡ b
some_is a b e = cc

-- ---- what is answered

pub record SameAnswer (i j : ℕ) (h k : Heard) : Type 0 where
  pub ids : i ≡ j
  pub heards : h ≡ k

one_answer : names.OneName → wrapper.OneFrame → apdu.OneResponse → (c : State) (datagram : List ℕ) (i j : ℕ) (h k : Heard) → Answers c datagram i h → Answers c datagram j k → SameAnswer i j h k
one_answer spelled frames responses c datagram i j h k p q =
    let same = one_carried frames responses datagram (invoke_byte i) (invoke_byte j) p.content q.content p.carries q.carries in
    let ids = same_id i j same.bytes in
    let kinds = some_is p.asked q.asked (sym p.outstanding ∙ ap (get c.asks) ids ∙ q.outstanding) in
    let matches : Matches c.meter q.asked q.content h =
    subst (λ (a : Asked). Matches c.meter a q.content h) kinds (subst (λ (r : ResponseContent). Matches c.meter p.asked r h) same.contents p.matches) in
    record { ids = ids; heards = matched_once spelled c.meter q.asked q.content h k matches q.matches }

pub one_hearing : names.OneName → wrapper.OneFrame → apdu.OneResponse → OneHearing
one_hearing spelled frames responses old new other datagram h k (inl (i, p, e)) (inl (j, q, e')) =
    let same = one_answer spelled frames responses old datagram i j h k p q in
    (same.heards, e ∙ ap (without old) same.ids ∙ sym e')
one_hearing spelled frames responses old new other datagram h k (inl (i, p, e)) (inr ignores) = absurd (ignores.0 i h p)
one_hearing spelled frames responses old new other datagram h k (inr ignores) (inl (j, q, e')) = absurd (ignores.0 j k q)
one_hearing spelled frames responses old new other datagram h k (inr a) (inr b) = (a.1 ∙ sym b.1, a.2 ∙ sym b.2)

-- ---- claims

is_claim : (a b : Claim) → heard.Active a ≡ heard.Active b → a ≡ b
is_claim a b e = cc

-- of the kinds of ask only that for the active name hears a claim
pub record Claiming (meter : ℕ) (a : Asked) (v : Value) (claim : Claim) : Type 0 where
  pub kind : a ≡ asked.ActiveName
  pub bytes : List ℕ
  pub is : v ≡ octet_string bytes
  pub spells : SpellsName bytes claim.name
  pub meters : claim.meter ≡ meter

no_number : (v : Value) (claim : Claim) → IsNumber v (heard.Active claim) → ⊥
no_number (double_long_unsigned n) claim e = cc
no_number v claim is = is

no_bits : (v : Value) (claim : Claim) → IsBits v (heard.Active claim) → ⊥
no_bits (bit_string bits) claim e = cc
no_bits v claim is = is

no_status : (v : Value) (claim : Claim) → IsStatus v (heard.Active claim) → ⊥
no_status (enumerated status) claim e = cc
no_status v claim is = is

no_info : (v : Value) (claim : Claim) → IsInfo v (heard.Active claim) → ⊥
no_info (array vs) claim (a, is, e) = cc
no_info v claim is = is

claims_by : (meter : ℕ) (v : Value) (claim : Claim) → IsActive meter v (heard.Active claim) → Claiming meter asked.ActiveName v claim
claims_by meter (octet_string bytes) claim (name, spells, e) =
    let same = is_claim claim (record { meter = meter; name = name }) e in
    record {
      kind = refl;
      bytes = bytes;
      is = refl;
      spells = subst (λ (x : Claim). SpellsName bytes x.name) (sym same) spells;
      meters = ap (λ (x : Claim). x.meter) same;
    }
claims_by meter v claim is = absurd is

claims_value : (meter : ℕ) (a : Asked) (v : Value) (claim : Claim) → IsValue meter a v (heard.Active claim) → Claiming meter a v claim
claims_value meter asked.BlockSize v claim is = absurd (no_number v claim is)
claims_value meter asked.FirstMissing v claim is = absurd (no_number v claim is)
claims_value meter asked.Blocks v claim is = absurd (no_bits v claim is)
claims_value meter asked.Status v claim is = absurd (no_status v claim is)
claims_value meter asked.Info v claim is = absurd (no_info v claim is)
claims_value meter asked.ActiveName v claim is = claims_by meter v claim is
claims_value meter asked.Enable v claim is = absurd is
claims_value meter asked.Initiate v claim is = absurd is
claims_value meter (asked.Block number) v claim is = absurd is
claims_value meter asked.Verify v claim is = absurd is
claims_value meter asked.Activate v claim is = absurd is

no_code : (a : Asked) (c : ℕ) (claim : Claim) → heard.Active claim ≡ heard.Code a c → ⊥
no_code a c claim e = cc

claims_response : (c : State) (datagram : List ℕ) (id : ℕ) (a : Asked) (r : ResponseContent) (claim : Claim)
    → get c.asks id ≡ Some a → CarriesResponse datagram (invoke_byte id) r → Matches c.meter a r (heard.Active claim) → IsClaimed c datagram claim
claims_response c datagram id a (get_response (value v)) claim outstanding carries is =
    let made = claims_value c.meter a v claim is in
    record {
      id = id;
      bytes = made.bytes;
      outstanding = outstanding ∙ ap Some made.kind;
      carries = subst (λ (x : Value). CarriesResponse datagram (invoke_byte id) (get_response (value x))) made.is carries;
      spells = made.spells;
      meter = made.meters;
    }
claims_response c datagram id a (get_response (code n)) claim outstanding carries is = absurd (no_code a n claim is.1)
claims_response c datagram id a (set_response n) claim outstanding carries is = absurd (no_code a n claim is.1)
claims_response c datagram id a (action_response n returned) claim outstanding carries is = absurd (no_code a n claim is.1)

claimed : (old new : State) (datagram : List ℕ) (h : Heard) (claim : Claim) → Hears old datagram h new → h ≡ heard.Active claim → IsClaimed old datagram claim
claimed old new datagram h claim (inl (id, p, e)) same =
    claims_response old datagram id p.asked p.content claim p.outstanding p.carries (subst (λ (x : Heard). Matches old.meter p.asked p.content x) same p.matches)
claimed old new datagram h claim (inr ignores) same = let none : heard.Stranger ≡ heard.Active claim = sym ignores.1 ∙ same in absurd cc

claim_is : (claim : Claim) (meter : ℕ) → claim.meter ≡ meter → claim ≡ record { meter = meter; name = claim.name }
claim_is claim meter e = ap (λ (x : ℕ). record { meter = x; name = claim.name }) e

-- the claim's own answer
answers : (c : State) (datagram : List ℕ) (claim : Claim) → (is : IsClaimed c datagram claim) → Answers c datagram is.id (heard.Active claim)
answers c datagram claim is = record {
  asked = asked.ActiveName;
  content = get_response (value (octet_string is.bytes));
  outstanding = is.outstanding;
  carries = is.carries;
  matches = (claim.name, is.spells, ap heard.Active (claim_is claim c.meter is.meter));
}

pub only_claimed : OneHearing → OnlyClaimed
only_claimed law old new datagram h claim is = (
  claimed old new datagram h claim is,
  λ made. (law old new (without old made.id) datagram h (heard.Active claim) is (inl (made.id, answers old datagram claim made, refl))).0,
)

-- ---- what answers an outstanding ask

pub none_asked : (c : State) (b invoke : ℕ) (content : ResponseContent) → b ≡ invoke
    → ((x : ℕ × Asked) → (get c.asks x.0 ≡ Some x.1) × (b ≡ invoke_byte x.0) → ⊥) → (x : ℕ × Heard) → AnsweredBy c invoke content x.0 x.1 → ⊥
none_asked c b invoke content e missing x a = missing (x.0, a.asked) (a.outstanding, e ∙ a.byte)

pub none_heard : (c : State) (m b invoke : ℕ) (content : ResponseContent) (id : ℕ) (asked : Asked) → m ≡ c.meter → b ≡ invoke → (get c.asks id ≡ Some asked) × (b ≡ invoke_byte id)
    → ((h : Heard) → Matches m asked content h → ⊥) → (x : ℕ × Heard) → AnsweredBy c invoke content x.0 x.1 → ⊥
none_heard c m b invoke content id asked own e found missing x a =
    let ids = same_id x.0 id (sym a.byte ∙ sym e ∙ found.1) in
    let kinds = some_is a.asked asked (sym a.outstanding ∙ ap (get c.asks) ids ∙ found.0) in
    missing x.1 (subst (λ (n : ℕ). Matches n asked content x.1) (sym own) (subst (λ (k : Asked). Matches c.meter k content x.1) kinds a.matches))

answered_by : wrapper.OneFrame → apdu.OneResponse → (c : State) (datagram : List ℕ) (invoke : ℕ) (content : ResponseContent) (o : Option (ℕ × Heard))
    → CarriesResponse datagram invoke content → Finds (λ x. AnsweredBy c invoke content x.0 x.1) o → Finds (λ x. Answers c datagram x.0 x.1) o
answered_by frames responses c datagram invoke content (Some x) carries a = record {
  asked = a.asked;
  content = content;
  outstanding = a.outstanding;
  carries = subst (λ (i : ℕ). CarriesResponse datagram i content) a.byte carries;
  matches = a.matches;
}
answered_by frames responses c datagram invoke content None carries missing =
    λ x a. let same = one_carried frames responses datagram (invoke_byte x.0) invoke a.content content a.carries carries in
    missing x (record {
      asked = a.asked;
      outstanding = a.outstanding;
      byte = sym same.bytes;
      matches = subst (λ (r : ResponseContent). Matches c.meter a.asked r x.1) same.contents a.matches;
    })

pub answered : wrapper.OneFrame → apdu.OneResponse → (c : State) (datagram : List ℕ) (found : Option Response) (r : Response) (o : Option (ℕ × Heard))
    → found ≡ Some r → IsResponseIn datagram found → Finds (λ x. AnsweredBy c (response_invoke r) (response_content r) x.0 x.1) o → Finds (λ x. Answers c datagram x.0 x.1) o
answered frames responses c datagram found r o e carries a =
    answered_by frames responses c datagram (response_invoke r) (response_content r) o (subst (λ (x : Option Response). IsResponseIn datagram x) e carries) a

pub none_answers : (c : State) (datagram : List ℕ) (found : Option Response) → found ≡ None → IsResponseIn datagram found
    → (x : ℕ × Heard) → Answers c datagram x.0 x.1 → ⊥
none_answers c datagram None e missing x a = missing (invoke_byte x.0) a.content a.carries
none_answers c datagram (Some r) e carries x a = absurd cc

pub ignores : (c : State) (datagram : List ℕ) (o : Option (ℕ × Heard)) → o ≡ None → Finds (λ x. Answers c datagram x.0 x.1) o
    → Hears c datagram heard.Stranger c
ignores c datagram None e missing = inr (λ id h a. missing (id, h) a, refl, refl)
ignores c datagram (Some x) e a = absurd cc

-- ---- out of memory

-- a datagram from and to port 1 carries the Data that its APDU may return
pub data_carried : (datagram apdu : List ℕ) (source dest : ℕ) (e : ApduError) → source ≡ wport → dest ≡ wport → Wraps datagram source dest apdu → e ≡ OutOfMemory → IfMemory e (MayReturnData apdu) → MayCarryData datagram
data_carried datagram apdu source dest e from to wraps is takes =
    let wraps' : Wraps datagram wport dest apdu = subst (λ (p : ℕ). Wraps datagram p dest apdu) from wraps in
    let T : ApduError → Type 0 = λ x. IfMemory x (MayReturnData apdu) in
    (apdu, subst (λ (p : ℕ). Wraps datagram wport p apdu) to wraps', subst T is takes)
