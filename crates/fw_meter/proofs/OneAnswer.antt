-- There is one answer to a datagram, over an honest store that doesn't fail.
use Rattle.std.proofs.Common.{◌≡◌, ◌≢◌, ℕ, true, false, IsTrue, List, inl, inr, sym, ap, subst, ◌∙◌}
use Rattle.fw_apdu.specs.Request.{RequestContent, SpellsRequest}
use Rattle.fw_apdu.specs.Laws as apdu
use Rattle.fw_wrapper.specs.Laws as wrapper
use Rattle.fw_names.specs.Name.{Name}
use Rattle.fw_names.specs.Laws as names
use Rattle.fw_server.specs.Meaning.{Meaning, read, enable, initiate, block, verify, activate, refused as denied, meaning_of}
use Rattle.fw_image.specs.Laws as image
use Rattle.fw_image.specs.Meter.{Meter}
use Rattle.fw_image.specs.Step as operations
use Rattle.fw_image.specs.Step.{Operation, refused}
use Rattle.fw_image.specs.declared.error.Refusal.TheVariants.{Fault}
use Rattle.fw_meter.specs.Handling.{Brings, reply_to}
use Rattle.fw_meter.specs.Laws.{OneAnswer}
use Rattle.fw_meter.specs.Step.{MeterResult, coded, tells_no_fault, Operates, MeterStep, operation_code, activation_of}

pub record Same (a b : MeterResult) (new other : Meter) : Type 0 where
  pub results : a ≡ b
  pub meters : new ≡ other

-- an operation whose code is no fault has none
no_fault : (a : MeterResult) (made : operations.OperationOutcome) → a ≢ coded 1 → a ≡ coded (operation_code made) → made ≢ refused Fault
no_fault a made n told e = n (told ∙ ap (λ (x : operations.OperationOutcome). coded (operation_code x)) e)

made_once : image.OneStep → (old new other : Meter) (operation : Operation) (a b : MeterResult) → a ≢ coded 1 → b ≢ coded 1
    → Operates true old operation a new → Operates true old operation b other → Same a b new other
made_once law old new other operation a b n m (made, step, told) (made', step', told') =
    let both = law old new other operation made made' step step' (no_fault a made n told) (no_fault b made' m told') in
    record { results = told ∙ ap (λ (x : operations.OperationOutcome). coded (operation_code x)) both.0 ∙ sym told'; meters = both.1 }

one_step : names.OneName → image.OneStep → (old new other : Meter) (m : Meaning) (a b : MeterResult) → a ≢ coded 1 → b ≢ coded 1
    → MeterStep true old m a new → MeterStep true old m b other → Same a b new other
one_step spelled law old new other (read reading) a b n m h k = record { results = h.0 ∙ sym k.0; meters = h.1 ∙ sym k.1 }
one_step spelled law old new other (denied code) a b n m h k = record { results = h.0 ∙ sym k.0; meters = h.1 ∙ sym k.1 }
one_step spelled law old new other (enable e) a b n m h k = made_once law old new other (operations.enable e) a b n m h k
one_step spelled law old new other (initiate identifier size) a b n m (inl (name, spells, h)) (inl (name', spells', k)) =
    let same : name ≡ name' = spelled identifier name name' spells spells' in
    made_once law old new other (operations.initiate name' size) a b n m (subst (λ (x : Name). Operates true old (operations.initiate x size) a new) same h) k
one_step spelled law old new other (initiate identifier size) a b n m (inl (name, spells, h)) (inr k) = absurd (k.0 name spells)
one_step spelled law old new other (initiate identifier size) a b n m (inr h) (inl (name, spells, k)) = absurd (h.0 name spells)
one_step spelled law old new other (initiate identifier size) a b n m (inr h) (inr k) = record { results = h.1 ∙ sym k.1; meters = h.2 ∙ sym k.2 }
one_step spelled law old new other (block i value) a b n m h k = made_once law old new other (operations.block i value) a b n m h k
one_step spelled law old new other verify a b n m h k = made_once law old new other operations.verify a b n m h k
one_step spelled law old new other activate a b n m h k = made_once law old new other operations.activate a b n m h k

not_fault : (a : MeterResult) → IsTrue (tells_no_fault a) → a ≢ coded 1
not_fault a faultless e = let bad : false ≡ true = subst (λ (x : MeterResult). IsTrue (tells_no_fault x)) e faultless in cc

-- a datagram brings one request
pub record SameRequest (source s invoke i : ℕ) (content c : RequestContent) : Type 0 where
  pub sources : source ≡ s
  pub invokes : invoke ≡ i
  pub contents : content ≡ c

pub one_brought : wrapper.OneFrame → apdu.OneRequest → (datagram : List ℕ) (source s invoke i : ℕ) (content c : RequestContent) → Brings datagram source invoke content → Brings datagram s i c
    → SameRequest source s invoke i content c
one_brought frames requests datagram source s invoke i content c h k =
    let same = frames datagram h.apdu k.apdu source 1 s 1 h.wraps k.wraps in
    let spelled : SpellsRequest k.apdu invoke content = subst (λ (x : List ℕ). SpellsRequest x invoke content) same.2 h.spells in
    let both = requests k.apdu invoke i content c spelled k.spells in
    record { sources = same.0; invokes = both.0; contents = both.1 }

pub one_answer : names.OneName → wrapper.OneFrame → apdu.OneRequest → image.OneStep → OneAnswer
one_answer spelled frames requests law old new other datagram r s a b (inl h) (inl k) =
    let same = one_brought frames requests datagram h.source k.source h.invoke k.invoke h.content k.content h.brings k.brings in
    let did = h.responds in
    let does = k.responds in
    let step : MeterStep true old (meaning_of k.content) did.result new = subst (λ (x : RequestContent). MeterStep true old (meaning_of x) did.result new) same.contents did.steps in
    let both = one_step spelled law old new other (meaning_of k.content) did.result does.result (not_fault did.result did.faults) (not_fault does.result does.faults) step does.steps in
    let replies : reply_to h.source h.invoke h.content did.result ≡ reply_to k.source k.invoke k.content does.result =
    λ x. reply_to (same.sources x) (same.invokes x) (same.contents x) (both.results x) in
    let activations : activation_of (meaning_of h.content) did.result new ≡ activation_of (meaning_of k.content) does.result other =
    λ x. activation_of (meaning_of (same.contents x)) (both.results x) (both.meters x) in
    (did.replies ∙ replies ∙ sym does.replies, did.activates ∙ activations ∙ sym does.activates, both.meters)
one_answer spelled frames requests law old new other datagram r s a b (inl h) (inr k) = absurd (k.nothing h.source h.invoke h.content h.brings)
one_answer spelled frames requests law old new other datagram r s a b (inr h) (inl k) = absurd (h.nothing k.source k.invoke k.content k.brings)
one_answer spelled frames requests law old new other datagram r s a b (inr h) (inr k) =
    (h.silent ∙ sym k.silent, h.none_activated ∙ sym k.none_activated, h.same ∙ sym k.same)
