-- What there is to tell of a datagram, by what it brings and by the reply to it.
use Rattle.std.proofs.Common.{◌≡◌, ◌≢◌, ℕ, zero, suc, List, ◌∷◌, inl, inr, refl, sym, ap, subst, arith, ◌∙◌}
use Rattle.std.specs.Option.{option_map}
use Rattle.std.specs.Prelude.{Option, Some, None, IfSome}
use Rattle.fw_wrapper.specs.Laws.{OneFrame}
use Rattle.fw_wrapper.specs.Wrapper.{Wraps}
use Rattle.fw_apdu.specs.Fault.{IfFault, IfMemory}
use Rattle.fw_apdu.specs.Laws.{OneResponse}
use Rattle.fw_apdu.specs.Request.{RequestContent}
use Rattle.fw_apdu.specs.Response.{ResponseContent, get_response, set_response, action_response, MayReturnData, NoResponse, SpellsResponse}
use Rattle.fw_apdu.specs.declared.error.ApduError.{ApduError}
use Rattle.fw_apdu.specs.declared.error.ApduError.TheVariants.{Truncated, UnknownService, UnsupportedForm, BadData, Trailing, OutOfMemory}
use Rattle.fw_names.specs.Name.{Name, SpellsName}
use Rattle.fw_server.specs.Meaning.{Meaning, meaning_of}
use Rattle.fw_image.specs.Meter.{Meter}
use Rattle.fw_image.specs.declared.status.TransferStatus.{TransferStatus}
use Rattle.fw_meter.specs.Handling.{Brings, BringsNothing}
use Rattle.fw_daemon.specs.Events.{AnswerTells, CarriesCode, IsAnswerEvent, IsEvent, IsNamed, IsRefusal, JudgedOrAnswered, code_in, judged_event, work_of}
use Rattle.fw_daemon.specs.Private.{HasCode}
use Rattle.fw_daemon.specs.declared.event.MeterEvent.{MeterEvent}
use Rattle.fw_daemon.specs.declared.event.MeterEvent.TheVariants as event
use Rattle.fw_daemon.specs.declared.event.Work.{Work}

heads : {x y : ℕ} {s t : List ℕ} → x ∷ s ≡ y ∷ t → x ≡ y
heads e = cc

tails : {x y : ℕ} {s t : List ℕ} → x ∷ s ≡ y ∷ t → s ≡ t
tails e = cc

-- ---- the code in a reply

-- the response that was read has the code, or none
pub code_here : OneFrame → OneResponse → (reply apdu : List ℕ) (source dest invoke : ℕ) (response : ResponseContent) (o : Option ℕ) → Wraps reply source dest apdu
    → SpellsResponse apdu invoke response → code_in response ≡ o → HasCode reply o
code_here frames responses reply apdu source dest invoke response (Some c) wraps spells is = record {
  source = source;
  dest = dest;
  invoke = invoke;
  apdu = apdu;
  response = response;
  wraps = wraps;
  spells = spells;
  coded = is;
}
code_here frames responses reply apdu source dest invoke response None wraps spells is = λ c h.
    let apdus : h.apdu ≡ apdu = (frames reply h.apdu apdu h.source h.dest source dest h.wraps wraps).2 in
    let here : SpellsResponse apdu h.invoke h.response = subst (λ (s : List ℕ). SpellsResponse s h.invoke h.response) apdus h.spells in
    let same : h.response ≡ response = (responses apdu h.invoke invoke h.response response here spells).1 in
    let none : Some c ≡ None = sym h.coded ∙ ap (λ (r : ResponseContent). code_in r) same ∙ is in
    absurd cc

-- what holds no Data takes no memory
without_memory : (apdu : List ℕ) (invoke c : ℕ) (response : ResponseContent) → MayReturnData apdu → SpellsResponse apdu invoke response → code_in response ≡ Some c → ⊥
without_memory apdu invoke c (get_response r) wants spells is = absurd cc
without_memory apdu invoke c (set_response k) (body, (i, inl at), takes) spells is = absurd (omega (arith, heads (sym spells ∙ at)))
without_memory apdu invoke c (set_response k) (body, (i, inr (other, present, at, some)), takes) spells is = absurd (omega (arith, heads (sym spells ∙ at)))
without_memory apdu invoke c (action_response k None) (body, (i, inl at), takes) spells is = absurd (omega (arith, heads (sym spells ∙ at)))
without_memory apdu invoke c (action_response k None) (body, (i, inr (other, present, at, some)), takes) spells is =
    some (sym (heads (tails (tails (tails (tails (sym spells ∙ at)))))))
without_memory apdu invoke c (action_response k (Some r)) wants spells is = absurd cc

-- what can't be read is no response, or holds a Data
unread : (apdu : List ℕ) (invoke c : ℕ) (response : ResponseContent) (e : ApduError) → IfFault e (NoResponse apdu) → IfMemory e (MayReturnData apdu) → SpellsResponse apdu invoke response
    → code_in response ≡ Some c → ⊥
unread apdu invoke c response OutOfMemory none wants spells is = without_memory apdu invoke c response wants spells is
unread apdu invoke c response Truncated none wants spells is = none invoke response spells
unread apdu invoke c response UnknownService none wants spells is = none invoke response spells
unread apdu invoke c response UnsupportedForm none wants spells is = none invoke response spells
unread apdu invoke c response (BadData fault) none wants spells is = none invoke response spells
unread apdu invoke c response Trailing none wants spells is = none invoke response spells

pub no_code : OneFrame → (reply apdu : List ℕ) (source dest : ℕ) (e : ApduError) → Wraps reply source dest apdu → IfFault e (NoResponse apdu) → IfMemory e (MayReturnData apdu)
    → HasCode reply None
no_code frames reply apdu source dest e wraps none wants = λ c h.
    let apdus : h.apdu ≡ apdu = (frames reply h.apdu apdu h.source h.dest source dest h.wraps wraps).2 in
    let here : SpellsResponse apdu h.invoke h.response = subst (λ (s : List ℕ). SpellsResponse s h.invoke h.response) apdus h.spells in
    unread apdu h.invoke c h.response e none wants here h.coded

-- ---- what a code tells

pub succeeded : (running c : ℕ) (asked : Meaning) → c ≡ 0 → IsAnswerEvent running c asked None
succeeded running c asked is = subst (λ (n : ℕ). IsAnswerEvent running n asked None) (sym is) refl

pub failed : (running c : ℕ) (asked : Meaning) (told : Option MeterEvent) → c ≡ 1 → told ≡ option_map (λ (w : Work). event.Failed w) (work_of asked) → IsAnswerEvent running c asked told
failed running c asked told is tells = subst (λ (n : ℕ). IsAnswerEvent running n asked told) (sym is) tells

pub refused : (running c : ℕ) (asked : Meaning) (told : Option MeterEvent) → c ≢ 0 → c ≢ 1 → IsRefusal running c asked told → IsAnswerEvent running c asked told
refused running zero asked told a b refusal = absurd (a refl)
refused running (suc zero) asked told a b refusal = absurd (b refl)
refused running (suc (suc n)) asked told a b refusal = refusal

pub is_named : (identifier : List ℕ) (found : Option Name) → IfSome found (SpellsName identifier) → ((name : Name) → SpellsName identifier name → found ≡ Some name) → IsNamed identifier found
is_named identifier (Some name) spells only = spells
is_named identifier None spells only = λ name h. let none : None ≡ Some name = only name h in absurd cc

-- ---- how a datagram is answered

pub tells_code : (running c : ℕ) (datagram reply : List ℕ) (source invoke : ℕ) (content : RequestContent) (asked : Meaning) (told : Option MeterEvent) → asked ≡ meaning_of content
    → Brings datagram source invoke content → CarriesCode reply c → IsAnswerEvent running c asked told → AnswerTells running datagram (Some reply) told
tells_code running c datagram reply source invoke content asked told asks brings carries tells = inl (
  asked,
  c,
  record {
    source = source;
    invoke = invoke;
    content = content;
    bytes = reply;
    brings = brings;
    asks = asks;
    replied = refl;
    carries = carries;
  },
  tells,
)

pub tells_no_code : (running : ℕ) (datagram reply : List ℕ) → HasCode reply None → AnswerTells running datagram (Some reply) None
tells_no_code running datagram reply none = inr (
  λ asked c h.
      let is : Some reply ≡ Some h.bytes = h.replied in
      let same : h.bytes ≡ reply = cc in
      none c (subst (λ (bytes : List ℕ). CarriesCode bytes c) same h.carries),
  refl,
)

-- the same reply
pub tells_reply : (running : ℕ) (datagram : List ℕ) (one other : Option (List ℕ)) (told : Option MeterEvent) → other ≡ one → AnswerTells running datagram one told → AnswerTells running datagram other told
tells_reply running datagram one other told is tells = subst (λ (reply : Option (List ℕ)). AnswerTells running datagram reply told) (sym is) tells

pub tells_no_reply : (running : ℕ) (datagram : List ℕ) → AnswerTells running datagram None None
tells_no_reply running datagram = inr (λ asked c h. let is : None ≡ Some h.bytes = h.replied in absurd cc, refl)

pub tells_no_request : (running : ℕ) (datagram : List ℕ) (reply : Option (List ℕ)) → BringsNothing datagram → AnswerTells running datagram reply None
tells_no_request running datagram reply nothing = inr (λ asked c h. nothing h.source h.invoke h.content h.brings, refl)

-- ---- a datagram

pub event_switched : (before : TransferStatus) (datagram : List ℕ) (reply : Option (List ℕ)) (activated : Option Name) (m : Meter) (name : Name) → activated ≡ Some name
    → IsEvent before datagram reply activated m (Some (event.Activated name))
event_switched before datagram reply activated m name is = subst (λ (a : Option Name). IsEvent before datagram reply a m (Some (event.Activated name))) (sym is) refl

pub event_judged : (before : TransferStatus) (datagram : List ℕ) (reply : Option (List ℕ)) (activated : Option Name) (m : Meter) (judged : MeterEvent) → activated ≡ None
    → judged_event before m ≡ Some judged → IsEvent before datagram reply activated m (Some judged)
event_judged before datagram reply activated m judged none is =
    subst (λ (a : Option Name). IsEvent before datagram reply a m (Some judged)) (sym none)
    (subst (λ (j : Option MeterEvent). JudgedOrAnswered j m.running.name.release datagram reply (Some judged)) (sym is) refl)

pub event_answered : (before : TransferStatus) (datagram : List ℕ) (reply : Option (List ℕ)) (activated : Option Name) (m : Meter) (running : Name) (told : Option MeterEvent) → activated ≡ None
    → judged_event before m ≡ None → running ≡ m.running.name → AnswerTells running.release datagram reply told → IsEvent before datagram reply activated m told
event_answered before datagram reply activated m running told none unjudged runs tells =
    subst (λ (a : Option Name). IsEvent before datagram reply a m told) (sym none)
    (subst (λ (j : Option MeterEvent). JudgedOrAnswered j m.running.name.release datagram reply told) (sym unjudged)
    (subst (λ (n : Name). AnswerTells n.release datagram reply told) runs tells))
