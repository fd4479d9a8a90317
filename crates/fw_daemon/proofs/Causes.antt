-- A refusal and a failure are as they are told.
use Rattle.std.proofs.Common.{◌≡◌, ◌≢◌, ◌==◌, ℕ, zero, suc, Bool, true, false, if◌then◌else◌, List, ◌∷◌, inl, inr, refl, sym, ap, subst, arith, leb-false, leb-true, eqb-true, ◌∙◌}
use Rattle.std.proofs.lemmas.Bool.{eqb-false}
use Rattle.std.specs.declared.net.socket_addr.SocketAddr.{SocketAddr}
use Rattle.std.specs.Option.{option_map}
use Rattle.std.specs.Prelude.{Option, Some, None}
use Rattle.fw_wrapper.specs.Laws.{OneFrame}
use Rattle.fw_wrapper.specs.Wrapper.{behind_header, wrapped, wport}
use Rattle.fw_apdu.specs.Laws.{OneRequest}
use Rattle.fw_apdu.specs.Request.{RequestContent, SpellsRequest, action_request, get_request, is_confirmed, set_request}
use Rattle.fw_apdu.specs.Response.{ResponseContent, action_response, get_response, response_bytes, set_response, SpellsResponse}
use Rattle.fw_names.specs.Laws.{OneName}
use Rattle.fw_names.specs.Name.{Campaign, IsName, IsOpened, Name, SpellsName, is_risen}
use Rattle.fw_server.specs.Answer.{response_of}
use Rattle.fw_server.specs.Meaning.{Meaning, activate, block, code_number, enable, initiate, meaning_of, read, refused as denied, verify}
use Rattle.fw_server.specs.declared.code.ResultCode.TheVariants as code
use Rattle.fw_image.specs.Meter.{Meter, Phase, idle, receiving, verifying, verified, spoilt, status_of, switched}
use Rattle.fw_image.specs.Shown.{Shown}
use Rattle.fw_image.specs.State.{Counts}
use Rattle.fw_image.specs.Step as operations
use Rattle.fw_image.specs.Step.{Does, IsOffer, OperationOutcome, Refuses, Step, TurnsIn, done, refused, spoilt_phase, verification_initiated, verified_phase}
use Rattle.fw_image.specs.declared.error.Refusal.{Refusal}
use Rattle.fw_image.specs.declared.error.Refusal.TheVariants.{Disabled, BadInitiate, BadBlock, Missing, Fault, Differs}
use Rattle.fw_image.specs.declared.status.TransferStatus.{TransferStatus}
use Rattle.fw_image.specs.declared.status.TransferStatus.TheVariants as status
use Rattle.fw_meter.specs.Handling.{Handles, outcome_in, reply_bytes}
use Rattle.fw_meter.specs.Step.{MeterResult, MeterStep, coded, got, operation_code, refusal_code, tells_no_fault}
use Rattle.fw_meter.specs.declared.meter.Handled.{Handled}
use Rattle.fw_daemon.specs.Daemon.{Daemon, Hears, TakesTurn}
use Rattle.fw_daemon.specs.Events.{AnswerTells, IsCoded, IsEvent, IsNamed, IsRefusal, JudgedOrAnswered, cause_in, cause_of, code_in, gives_up, goal_name, is_unjudged, judged_event, verdict, work_of}
use Rattle.fw_daemon.specs.Laws.{EventsAreTrue, IsWhy}
use Rattle.fw_daemon.specs.Rounds.{told_of_turn}
use Rattle.fw_daemon.specs.declared.daemon.Heard.TheVariants as heard
use Rattle.fw_daemon.specs.declared.event.Cause.{Cause}
use Rattle.fw_daemon.specs.declared.event.Cause.TheVariants as cause
use Rattle.fw_daemon.specs.declared.event.MeterEvent.{MeterEvent}
use Rattle.fw_daemon.specs.declared.event.MeterEvent.TheVariants as event
use Rattle.fw_daemon.specs.declared.event.Work.{Work}
use Rattle.fw_daemon.specs.declared.event.Work.TheVariants as work

heads : {x y : ℕ} {s t : List ℕ} → x ∷ s ≡ y ∷ t → x ≡ y
heads e = cc

tails : {x y : ℕ} {s t : List ℕ} → x ∷ s ≡ y ∷ t → s ≡ t
tails e = cc

-- ---- why an initiate is refused

opened_of : (n : Name) → IsName n → (n.campaign.serial == 0) ≡ false → IsOpened n.campaign
opened_of n named some = elim named.is_campaign [
  | inl none ↦ absurd (eqb-false n.campaign.serial 0 some (ap (λ (c : Campaign). c.serial) none))
  | inr opened ↦ opened
]

by_tests : (m : Meter) (n : Name) (size : ℕ) (unopened risen : Bool) → (n.campaign.serial == 0) ≡ unopened → is_risen m.running.name.release n.release ≡ risen → IsName n → m.enabled ≡ true
    → ¬ IsOffer m.limit m.block_size m.capacity m.running.name.release n size
    → IsWhy (if unopened then cause.Unopened else (if risen then cause.Limits else cause.Below n.release m.running.name.release)) m (Some n) size
by_tests m n size true risen none rises named on not = (on, λ opened. let begins = opened.serial_begins in let is : n.campaign.serial ≡ 0 = eqb-true n.campaign.serial 0 none in absurd (omega arith))
by_tests m n size false true some rises named on not = (
  on,
  λ within. not (record {
    opened = opened_of n named some;
    risen = leb-true m.running.name.release n.release rises;
    fits = within.fits;
    limits = within.limits;
    most = within.most;
  }),
)
by_tests m n size false false some falls named on not = (on, refl, refl, leb-false m.running.name.release n.release falls)

by_name : (m : Meter) (n : Name) (size release : ℕ) → release ≡ m.running.name.release → IsName n → m.enabled ≡ true
    → ¬ IsOffer m.limit m.block_size m.capacity m.running.name.release n size → IsWhy (cause_in release (Some n)) m (Some n) size
by_name m n size release same named on not =
    subst (λ (q : ℕ). IsWhy (cause_in q (Some n)) m (Some n) size) (sym same)
    (by_tests m n size (n.campaign.serial == 0) (is_risen m.running.name.release n.release) refl refl named on not)

by_line : (m : Meter) (n spelled : Name) (size release c : ℕ) (r : Refusal) → release ≡ m.running.name.release → n ≡ spelled → IsName n → c ≡ code_number (refusal_code r)
    → Refuses m (operations.initiate spelled size) r → IsWhy (cause_of release c (Some n)) m (Some n) size
by_line m n spelled size release c r runs same named is (inl (off, told)) =
    let three : c ≡ 3 = is ∙ ap (λ (x : Refusal). code_number (refusal_code x)) told in
    subst (λ (x : ℕ). IsWhy (cause_of release x (Some n)) m (Some n) size) (sym three) off
by_line m n spelled size release c r runs same named is (inr (on, told, not)) =
    let other : c ≡ 250 = is ∙ ap (λ (x : Refusal). code_number (refusal_code x)) told in
    subst (λ (x : ℕ). IsWhy (cause_of release x (Some n)) m (Some n) size) (sym other)
    (by_name m n size release runs named on (subst (λ (x : Name). ¬ IsOffer m.limit m.block_size m.capacity m.running.name.release x size) (sym same) not))

-- an initiate that is served has the code 0, or 1
served_code : (honest : Bool) (old new : Meter) (n : Name) (size : ℕ) (made : OperationOutcome) → Does honest old (operations.initiate n size) made new → (c : ℕ) → c ≡ operation_code made → c ≢ 0
    → c ≢ 1 → ⊥
served_code honest old new n size done does c is a b = a is
served_code honest old new n size (refused Fault) does c is a b = b is
served_code honest old new n size (refused Disabled) does c is a b = does
served_code honest old new n size (refused BadInitiate) does c is a b = does
served_code honest old new n size (refused BadBlock) does c is a b = does
served_code honest old new n size (refused Missing) does c is a b = does
served_code honest old new n size (refused Differs) does c is a b = does
served_code honest old new n size verification_initiated does c is a b = does

by_step : OneName → (honest : Bool) (old new : Meter) (identifier : List ℕ) (size c : ℕ) (name : Option Name) (spelled : Name) (made : OperationOutcome) → IsNamed identifier name
    → SpellsName identifier spelled → Step honest old (operations.initiate spelled size) made new → c ≡ operation_code made → c ≢ 0 → c ≢ 1
    → IsWhy (cause_of new.running.name.release c name) old name size
by_step names honest old new identifier size c None spelled made named spells step is a b = absurd (named spelled spells)
by_step names honest old new identifier size c (Some n) spelled made named spells (inl x) is a b =
    let release : new.running.name.release ≡ old.running.name.release = ap (λ (s : Shown). s.active.release) x.same.shows in
    let code_is : c ≡ code_number (refusal_code x.refusal) = is ∙ ap (λ (o : OperationOutcome). operation_code o) x.told in
    by_line old n spelled size new.running.name.release c x.refusal release (names identifier n spelled named spells) named.is_name code_is x.line
by_step names honest old new identifier size c (Some n) spelled made named spells (inr x) is a b = absurd (served_code honest old new spelled size made x.does c is a b)

nameless : (m : Meter) (identifier : List ℕ) (size c release : ℕ) (on : Bool) (name : Option Name) → m.enabled ≡ on → IsNamed identifier name → ((n : Name) → ¬ SpellsName identifier n)
    → c ≡ code_number (if on then code.OtherReason else code.ReadWriteDenied) → IsWhy (cause_of release c name) m name size
nameless m identifier size c release on (Some n) enabled named none is = absurd (none n named)
nameless m identifier size c release true None enabled named none is = subst (λ (x : ℕ). IsWhy (cause_of release x None) m None size) (sym is) (enabled, refl)
nameless m identifier size c release false None enabled named none is = subst (λ (x : ℕ). IsWhy (cause_of release x None) m None size) (sym is) enabled

why_refused : OneName → (honest : Bool) (old new : Meter) (identifier : List ℕ) (size c : ℕ) (name : Option Name) → IsNamed identifier name → MeterStep honest old (initiate identifier size) (coded c) new
    → c ≢ 0 → c ≢ 1 → IsWhy (cause_of new.running.name.release c name) old name size
why_refused names honest old new identifier size c name named (inl (spelled, spells, (made, step, told))) a b =
    let is : c ≡ operation_code made = cc in
    by_step names honest old new identifier size c name spelled made named spells step is a b
why_refused names honest old new identifier size c name named (inr (none, told, same)) a b =
    let is : c ≡ code_number (if old.enabled then code.OtherReason else code.ReadWriteDenied) = cc in
    nameless old identifier size c new.running.name.release old.enabled name refl named none is

-- ---- the code in a reply is the one that the step came to

in_response : (content : RequestContent) (result : MeterResult) (apdu : List ℕ) (invoke i c : ℕ) (response : ResponseContent) → apdu ≡ response_bytes invoke (response_of (outcome_in content result))
    → SpellsResponse apdu i response → code_in response ≡ Some c → result ≡ coded c
in_response content result apdu invoke i c (get_response r) is spells has = absurd cc
in_response content result apdu invoke i c (action_response k (Some r)) is spells has = absurd cc
in_response content (got a) apdu invoke i c (set_response k) is spells has = absurd (omega (arith, heads (sym is ∙ spells)))
in_response (get_request d) (coded n) apdu invoke i c (set_response k) is spells has = absurd (omega (arith, heads (sym is ∙ spells)))
in_response (set_request d v) (coded n) apdu invoke i c (set_response k) is spells has =
    let same : n ≡ k = heads (tails (tails (tails (sym is ∙ spells)))) in
    cc
in_response (action_request d p) (coded n) apdu invoke i c (set_response k) is spells has = absurd (omega (arith, heads (sym is ∙ spells)))
in_response content (got a) apdu invoke i c (action_response k None) is spells has = absurd (omega (arith, heads (sym is ∙ spells)))
in_response (get_request d) (coded n) apdu invoke i c (action_response k None) is spells has = absurd (omega (arith, heads (sym is ∙ spells)))
in_response (set_request d v) (coded n) apdu invoke i c (action_response k None) is spells has = absurd (omega (arith, heads (sym is ∙ spells)))
in_response (action_request d p) (coded n) apdu invoke i c (action_response k None) is spells has =
    let same : n ≡ k = heads (tails (tails (tails (sym is ∙ spells)))) in
    cc

-- a reply is the datagram that was written
written : (confirmed : Bool) (bytes datagram : List ℕ) → Some bytes ≡ (if confirmed then Some datagram else None) → bytes ≡ datagram
written true bytes datagram e = cc
written false bytes datagram e = absurd cc

-- what the meter did with what is asked, if it was answered by a code
record Stepped (honest : Bool) (Faults : Bool → Type 0) (old : Meter) (asked : Meaning) (c : ℕ) (new : Meter) : Type 0 where
  pub steps : MeterStep honest old asked (coded c) new
  pub faults : Faults (tells_no_fault (coded c))

stepped : OneFrame → OneRequest → (honest : Bool) (Faults : Bool → Type 0) (old new : Meter) (datagram : List ℕ) (reply : Option (List ℕ)) (activated : Option Name) (asked : Meaning) (c : ℕ)
    → Handles honest Faults old datagram reply activated new → IsCoded datagram reply asked c → Stepped honest Faults old asked c new
stepped frames requests honest Faults old new datagram reply activated asked c (inr drops) k = absurd (drops.nothing k.source k.invoke k.content k.brings)
stepped frames requests honest Faults old new datagram reply activated asked c (inl h) k =
    let result : MeterResult = h.responds.result in
    let apdus : h.brings.apdu ≡ k.brings.apdu = (frames datagram h.brings.apdu k.brings.apdu h.source 1 k.source 1 h.brings.wraps k.brings.wraps).2 in
    let spelled : SpellsRequest k.brings.apdu h.invoke h.content = subst (λ (s : List ℕ). SpellsRequest s h.invoke h.content) apdus h.brings.spells in
    let contents : h.content ≡ k.content = (requests k.brings.apdu h.invoke k.invoke h.content k.content spelled k.brings.spells).1 in
    let response : List ℕ = response_bytes h.invoke (response_of (outcome_in h.content result)) in
    let sent : k.bytes ≡ wrapped wport h.source response = written (is_confirmed h.invoke) k.bytes (wrapped wport h.source response) (sym k.replied ∙ h.responds.replies) in
    let same : k.carries.apdu ≡ response = ap (λ (s : List ℕ). behind_header s) (sym k.carries.wraps.bytes ∙ sent) in
    let is : result ≡ coded c = in_response h.content result k.carries.apdu h.invoke k.carries.invoke c k.carries.response same k.carries.spells k.carries.coded in
    let asks : meaning_of h.content ≡ asked = ap (λ (r : RequestContent). meaning_of r) contents ∙ sym k.asks in
    record {
      steps = subst (λ (m : Meaning). MeterStep honest old m (coded c) new) asks (subst (λ (r : MeterResult). MeterStep honest old (meaning_of h.content) r new) is h.responds.steps);
      faults = subst (λ (r : MeterResult). Faults (tells_no_fault r)) is h.responds.faults;
    }

-- ---- what is told is an answer

-- an event that tells no image
abbrev IsOfAnswer : MeterEvent → Type 0
IsOfAnswer (event.Refused name size why) = Unit {0}
IsOfAnswer (event.Failed w) = Unit {0}
IsOfAnswer e = ⊥

no_verdict : (s : TransferStatus) (name : Option Name) (e : MeterEvent) → IsOfAnswer e → verdict s name ≡ Some e → ⊥
no_verdict status.NotInitiated name e answers is = absurd cc
no_verdict status.Initiated name e answers is = absurd cc
no_verdict status.VerificationInitiated name e answers is = absurd cc
no_verdict status.VerificationSuccessful None e answers is = absurd cc
no_verdict status.VerificationSuccessful (Some n) e answers is = let same : e ≡ event.Verified n = cc in subst IsOfAnswer same answers
no_verdict status.VerificationFailed None e answers is = absurd cc
no_verdict status.VerificationFailed (Some n) e answers is = let same : e ≡ event.Differs n = cc in subst IsOfAnswer same answers
no_verdict status.ActivationSuccessful name e answers is = absurd cc

no_judgement : (b : Bool) (s : TransferStatus) (name : Option Name) (e : MeterEvent) → IsOfAnswer e → (if b then verdict s name else None) ≡ Some e → ⊥
no_judgement true s name e answers is = no_verdict s name e answers is
no_judgement false s name e answers is = absurd cc

of_either : (judged : Option MeterEvent) (running : ℕ) (datagram : List ℕ) (reply : Option (List ℕ)) (e : MeterEvent) → (judged ≡ Some e → ⊥) → JudgedOrAnswered judged running datagram reply (Some e)
    → AnswerTells running datagram reply (Some e)
of_either (Some j) running datagram reply e not is = absurd (not (sym is))
of_either None running datagram reply e not tells = tells

of_event : (before : TransferStatus) (datagram : List ℕ) (reply : Option (List ℕ)) (activated : Option Name) (m : Meter) (e : MeterEvent) → IsOfAnswer e
    → IsEvent before datagram reply activated m (Some e) → AnswerTells m.running.name.release datagram reply (Some e)
of_event before datagram reply (Some name) m e answers is = let same : e ≡ event.Activated name = cc in absurd (subst IsOfAnswer same answers)
of_event before datagram reply None m e answers either =
    of_either (judged_event before m) m.running.name.release datagram reply e (no_judgement (is_unjudged before) (status_of m.phase) (goal_name m) e answers) either

-- ---- a refusal

-- an initiate of this name and size, if an identifier is one, was answered by this code, which is no success and tells no fault
record Offered (running : ℕ) (datagram : List ℕ) (reply : Option (List ℕ)) (name : Option Name) (size : ℕ) (why : Cause) : Type 0 where
  pub identifier : List ℕ
  pub c : ℕ
  pub answer : IsCoded datagram reply (initiate identifier size) c
  pub named : IsNamed identifier name
  pub is : why ≡ cause_of running c name
  pub some : c ≢ 0
  pub no_fault : c ≢ 1

no_failure : (w : Option Work) (name : Option Name) (size : ℕ) (why : Cause) → Some (event.Refused name size why) ≡ option_map (λ (one : Work). event.Failed one) w → ⊥
no_failure None name size why is = absurd cc
no_failure (Some w) name size why is = absurd cc

offered_in : (running n : ℕ) (datagram : List ℕ) (reply : Option (List ℕ)) (name : Option Name) (size : ℕ) (why : Cause) (asked : Meaning) → IsCoded datagram reply asked (suc (suc n))
    → IsRefusal running (suc (suc n)) asked (Some (event.Refused name size why)) → Offered running datagram reply name size why
offered_in running n datagram reply name size why (read reading) k is = absurd cc
offered_in running n datagram reply name size why (enable b) k is = absurd cc
offered_in running n datagram reply name size why (initiate identifier bytes) k (called, named, is) =
    let names : called ≡ name = cc in
    let sizes : bytes ≡ size = cc in
    let whys : why ≡ cause_of running (suc (suc n)) called = cc in
    record {
      identifier = identifier;
      c = suc (suc n);
      answer = subst (λ (x : ℕ). IsCoded datagram reply (initiate identifier x) (suc (suc n))) sizes k;
      named = subst (λ (x : Option Name). IsNamed identifier x) names named;
      is = whys ∙ ap (λ (x : Option Name). cause_of running (suc (suc n)) x) names;
      some = λ e. absurd cc;
      no_fault = λ e. absurd cc;
    }
offered_in running n datagram reply name size why (block number value) k is = absurd cc
offered_in running n datagram reply name size why verify k is = absurd cc
offered_in running n datagram reply name size why activate k is = absurd cc
offered_in running n datagram reply name size why (denied refusal) k is = absurd cc

offered : (running : ℕ) (datagram : List ℕ) (reply : Option (List ℕ)) (name : Option Name) (size : ℕ) (why : Cause) → AnswerTells running datagram reply (Some (event.Refused name size why))
    → Offered running datagram reply name size why
offered running datagram reply name size why (inl (asked, zero, k, is)) = absurd cc
offered running datagram reply name size why (inl (asked, suc zero, k, is)) = absurd (no_failure (work_of asked) name size why is)
offered running datagram reply name size why (inl (asked, suc (suc n), k, is)) = offered_in running n datagram reply name size why asked k is
offered running datagram reply name size why (inr (none, is)) = absurd cc

refusals : OneName → OneFrame → OneRequest → (old new : Daemon) (from : SocketAddr) (datagram : List ℕ) (h : Handled) (name : Option Name) (size : ℕ) (why : Cause)
    → Hears old from datagram (heard.Handled h (Some (event.Refused name size why))) new → IsWhy why old.state.meter name size
refusals names frames requests old new from datagram h name size why (may, served, tells) =
    let reply = reply_bytes h.reply in
    let meter = new.state.meter in
    let answer = of_event (status_of old.state.meter.phase) datagram reply h.activated meter (event.Refused name size why) tt tells in
    let o = offered meter.running.name.release datagram reply name size why answer in
    let s = stepped frames requests old.state.honest (Counts old.state new.state) old.state.meter meter datagram reply h.activated (initiate o.identifier size) o.c served.answers.handles o.answer in
    subst (λ (x : Cause). IsWhy x old.state.meter name size) (sym o.is)
    (why_refused names old.state.honest old.state.meter meter o.identifier size o.c name o.named s.steps o.some o.no_fault)

-- ---- a failure

in_failure : (running n : ℕ) (asked : Meaning) (w : Work) → IsRefusal running (suc (suc n)) asked (Some (event.Failed w)) → ⊥
in_failure running n (read reading) w is = absurd cc
in_failure running n (enable b) w is = absurd cc
in_failure running n (initiate identifier size) w (name, named, is) = absurd cc
in_failure running n (block number value) w is = absurd cc
in_failure running n verify w is = absurd cc
in_failure running n activate w is = absurd cc
in_failure running n (denied refusal) w is = absurd cc

failed : OneFrame → OneRequest → (honest : Bool) (Faults : Bool → Type 0) (old new : Meter) (datagram : List ℕ) (reply : Option (List ℕ)) (activated : Option Name) (running : ℕ) (w : Work)
    → Handles honest Faults old datagram reply activated new → AnswerTells running datagram reply (Some (event.Failed w)) → Faults false
failed frames requests honest Faults old new datagram reply activated running w handles (inl (asked, zero, k, is)) = absurd cc
failed frames requests honest Faults old new datagram reply activated running w handles (inl (asked, suc zero, k, is)) =
    (stepped frames requests honest Faults old new datagram reply activated asked 1 handles k).faults
failed frames requests honest Faults old new datagram reply activated running w handles (inl (asked, suc (suc n), k, is)) = absurd (in_failure running n asked w is)
failed frames requests honest Faults old new datagram reply activated running w handles (inr (none, is)) = absurd cc

failures : OneFrame → OneRequest → (old new : Daemon) (from : SocketAddr) (datagram : List ℕ) (h : Handled) (w : Work) → Hears old from datagram (heard.Handled h (Some (event.Failed w))) new
    → Counts old.state new.state false
failures frames requests old new from datagram h w (may, served, tells) =
    let reply = reply_bytes h.reply in
    let meter = new.state.meter in
    failed frames requests old.state.honest (Counts old.state new.state) old.state.meter meter datagram reply h.activated meter.running.name.release w served.answers.handles
    (of_event (status_of old.state.meter.phase) datagram reply h.activated meter (event.Failed w) tt tells)

-- ---- a turn

-- a verification that was given up is one in which a call of the store failed
in_turn : (honest : Bool) (old new : Meter) (phase : Phase) (faultless : Bool) → old.phase ≡ phase → TurnsIn phase honest old faultless new
    → gives_up (status_of phase) (status_of new.phase) ≡ true → faultless ≡ false
in_turn honest old new phase false is turns gives = refl
in_turn honest old new idle true is turns gives = absurd cc
in_turn honest old new (receiving goal) true is turns gives = absurd cc
in_turn honest old new (verified goal) true is turns gives = absurd cc
in_turn honest old new (spoilt goal) true is turns gives = absurd cc
in_turn honest old new switched true is turns gives = absurd cc
in_turn honest old new (verifying goal taken) true is (inl (more, leaves)) gives =
    let now : status_of new.phase ≡ status.VerificationInitiated = ap (λ (s : Shown). status_of s.phase) leaves.shows in
    let bad : false ≡ true = subst (λ (s : TransferStatus). gives_up status.VerificationInitiated s ≡ true) now gives in
    absurd cc
in_turn honest old new (verifying goal taken) true is (inr (less, inl (leaves, genuine))) gives =
    let now : status_of new.phase ≡ status.VerificationSuccessful =
    ap (λ (s : Shown). status_of s.phase) leaves.shows ∙ ap (λ (p : Phase). status_of (verified_phase p)) is in
    let bad : false ≡ true = subst (λ (s : TransferStatus). gives_up status.VerificationInitiated s ≡ true) now gives in
    absurd cc
in_turn honest old new (verifying goal taken) true is (inr (less, inr (leaves, other))) gives =
    let now : status_of new.phase ≡ status.VerificationFailed = ap (λ (s : Shown). status_of s.phase) leaves.shows ∙ ap (λ (p : Phase). status_of (spoilt_phase p)) is in
    let bad : false ≡ true = subst (λ (s : TransferStatus). gives_up status.VerificationInitiated s ≡ true) now gives in
    absurd cc

gave_up : (b : Bool) (before : TransferStatus) (m : Meter) (w : Work) → (if b then Some (event.Failed work.Verify) else judged_event before m) ≡ Some (event.Failed w) → b ≡ true
gave_up true before m w is = refl
gave_up false before m w is = absurd (no_judgement (is_unjudged before) (status_of m.phase) (goal_name m) (event.Failed w) tt is)

turns : (old new : Daemon) (w : Work) → TakesTurn old new → told_of_turn old new ≡ Some (event.Failed w) → Counts old.state new.state false
turns old new w t is =
    let before = status_of old.state.meter.phase in
    let gives = gave_up (gives_up before (status_of new.state.meter.phase)) before new.state.meter w is in
    let failed_then = in_turn old.state.honest old.state.meter new.state.meter old.state.meter.phase t.turns.faultless refl t.turns.turn gives in
    subst (λ (b : Bool). Counts old.state new.state b) failed_then t.turns.counts

pub events_are_true : OneName → OneFrame → OneRequest → EventsAreTrue
events_are_true names frames requests = record { refusals = refusals names frames requests; failures = failures frames requests; turns = turns }
