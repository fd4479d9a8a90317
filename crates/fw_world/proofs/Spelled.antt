-- What the datagrams of the world spell: a head end's ask is the request that it was written from, and a meter's reply asks nothing.
use Rattle.std.proofs.Common.{◌≡◌, ℕ, List, ◌∷◌, Some, None, sym, ◌∙◌, ap, subst, arith}
use Rattle.fw_wrapper.specs.Wrapper.{wrapped, behind_header}
use Rattle.fw_names.specs.Name.{Name, name_bytes}
use Rattle.fw_apdu.specs.Request.{RequestContent, get_request, set_request, action_request, SpellsRequest}
use Rattle.fw_apdu.specs.Response.{response_bytes}
use Rattle.fw_apdu.specs.Laws as apdu
use Rattle.fw_client.specs.Ask as ask
use Rattle.fw_client.specs.Ask.{Ask, request_of, CarriesRequest}
use Rattle.fw_server.specs.Meaning as meaning
use Rattle.fw_server.specs.Meaning.{meaning_of}
use Rattle.fw_server.specs.Answer.{response_of}
use Rattle.fw_meter.specs.Handling.{Brings, outcome_in}
use Rattle.fw_meter.specs.Step.{MeterResult, got, coded}

heads : {x y : ℕ} {s t : List ℕ} → x ∷ s ≡ y ∷ t → x ≡ y
heads e = cc

-- the APDU after the header, whatever the wPorts
pub one_apdu : (s d t u : ℕ) (a b : List ℕ) → wrapped s d a ≡ wrapped t u b → a ≡ b
one_apdu s d t u a b e = ap behind_header e

-- ---- asks

-- a datagram that carries a request brings that one
pub one_brought : apdu.OneRequest → (datagram : List ℕ) (source invoke i : ℕ) (content c : RequestContent) → CarriesRequest datagram i c → Brings datagram source invoke content → content ≡ c
one_brought requests datagram source invoke i content c h k =
    let same = one_apdu source 1 1 1 k.apdu h.apdu (sym k.wraps.bytes ∙ h.wraps.bytes) in
    let spelled : SpellsRequest h.apdu invoke content = subst (λ (x : List ℕ). SpellsRequest x invoke content) same k.spells in
    (requests h.apdu invoke i content c spelled h.spells).1

-- an ask that means an initiate is one
pub record IsInitiate (asked : Ask) (identifier : List ℕ) (size : ℕ) : Type 0 where
  pub name : Name
  pub is : asked ≡ ask.initiate name size
  pub spelled : identifier ≡ name_bytes name

pub is_initiate : (asked : Ask) (identifier : List ℕ) (size : ℕ) → meaning_of (request_of asked) ≡ meaning.initiate identifier size → IsInitiate asked identifier size
is_initiate (ask.initiate name n) identifier size e = let same : n ≡ size = cc in record { name = name; is = ap (ask.initiate name) same; spelled = cc }
is_initiate ask.block_size identifier size e = absurd cc
is_initiate ask.first_missing identifier size e = absurd cc
is_initiate ask.blocks identifier size e = absurd cc
is_initiate ask.status identifier size e = absurd cc
is_initiate ask.info identifier size e = absurd cc
is_initiate ask.active_name identifier size e = absurd cc
is_initiate ask.enable identifier size e = absurd cc
is_initiate (ask.block number bytes) identifier size e = absurd cc
is_initiate ask.verify identifier size e = absurd cc
is_initiate ask.activate identifier size e = absurd cc

-- ---- replies

-- what is written of a result is no request
pub asks_nothing : (invoke i : ℕ) (content c : RequestContent) (result : MeterResult) → SpellsRequest (response_bytes invoke (response_of (outcome_in content result))) i c → ⊥
asks_nothing invoke i content (get_request d) (got a) h = omega (arith, heads h.1)
asks_nothing invoke i content (set_request d v) (got a) h = omega (arith, heads h.1.1)
asks_nothing invoke i content (action_request d None) (got a) h = omega (arith, heads h.1)
asks_nothing invoke i content (action_request d (Some v)) (got a) h = omega (arith, heads h.1.2)
asks_nothing invoke i content c (coded n) h = coded_asks content c h
  where
    coded_asks : (content c : RequestContent) → SpellsRequest (response_bytes invoke (response_of (outcome_in content (coded n)))) i c → ⊥
    coded_asks (get_request e) (get_request d) h = omega (arith, heads h.1)
    coded_asks (get_request e) (set_request d v) h = omega (arith, heads h.1.1)
    coded_asks (get_request e) (action_request d None) h = omega (arith, heads h.1)
    coded_asks (get_request e) (action_request d (Some v)) h = omega (arith, heads h.1.2)
    coded_asks (set_request e w) (get_request d) h = omega (arith, heads h.1)
    coded_asks (set_request e w) (set_request d v) h = omega (arith, heads h.1.1)
    coded_asks (set_request e w) (action_request d None) h = omega (arith, heads h.1)
    coded_asks (set_request e w) (action_request d (Some v)) h = omega (arith, heads h.1.2)
    coded_asks (action_request e w) (get_request d) h = omega (arith, heads h.1)
    coded_asks (action_request e w) (set_request d v) h = omega (arith, heads h.1.1)
    coded_asks (action_request e w) (action_request d None) h = omega (arith, heads h.1)
    coded_asks (action_request e w) (action_request d (Some v)) h = omega (arith, heads h.1.2)
