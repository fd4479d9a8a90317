-- That what was sent has one trace.
use Rattle.std.proofs.Common.{◌≡◌, inl, inr, ℕ, ◌+◌, List, [], ◌∷◌, ◌++◌, length, Option, Some, None, refl, sym, ap, subst, ◌∙◌}
use Rattle.fw_axdr.specs.Value.{Value, octet_string}
use Rattle.fw_wrapper.specs.Laws.{OneFrame, WrappedHasNoFault}
use Rattle.fw_wrapper.specs.declared.error.WrapError.{WrapError}
use Rattle.fw_names.specs.Name.{Name}
use Rattle.fw_names.specs.Laws.{OneName}
use Rattle.fw_apdu.specs.Request.{SpellsRequest}
use Rattle.fw_apdu.specs.Response.{GetResult, ResponseContent, value, code, get_response, set_response, action_response, SpellsResponse}
use Rattle.fw_apdu.specs.declared.error.ApduError.{ApduError}
use Rattle.fw_apdu.specs.Fault.{RequestFails, ResponseFails}
use Rattle.fw_apdu.specs.Laws.{OneRequest, OneResponse, OneRequestFault, OneResponseFault}
use Rattle.fw_server.specs.Meaning.{Meaning, read, enable, initiate, block, verify, activate, refused, meaning_of}
use Rattle.fw_world.specs.declared.datagram.Direction.{Direction}
use Rattle.fw_world.specs.declared.datagram.Direction.TheVariants.{ToMeter, ToHead}
use Rattle.fw_world.specs.World.{Datagram}
use Rattle.fw_report.specs.declared.message.Addressed.{Addressed}
use Rattle.fw_report.specs.declared.message.ShownValue.{ShownValue}
use Rattle.fw_report.specs.declared.message.Message.{Message}
use Rattle.fw_report.specs.declared.message.Message.TheVariants as message
use Rattle.fw_report.specs.declared.message.Title.{Title}
use Rattle.fw_report.specs.declared.message.Unread.{Unread}
use Rattle.fw_report.specs.declared.message.Unread.TheVariants as unread
use Rattle.fw_report.specs.declared.trace.Note.{Note}
use Rattle.fw_report.specs.Message.{title_of, NamesImage, addressed_by, IsUnread, initiate_message, SaysAsk, shown_octets, IsShownAs, SaysAnswer, Carries, SaysCarried, Says}
use Rattle.fw_report.specs.Trace.{line_of, TracesFrom}

one_title : OneName → (bytes : List ℕ) (a b : Option Title) → NamesImage bytes a → NamesImage bytes b → a ≡ b
one_title one bytes None None h k = refl
one_title one bytes None (Some title) h (name, spells, is) = absurd (h name spells)
one_title one bytes (Some title) None (name, spells, is) k = absurd (k name spells)
one_title one bytes (Some title) (Some other) (name, spells, is) (second, spelled, same) =
    ap Some (sym is ∙ ap (λ (n : Name). title_of n) (one bytes name second spells spelled) ∙ same)

one_ask : OneName → (about : Addressed) (m : Meaning) (s t : Message) → SaysAsk about m s → SaysAsk about m t → s ≡ t
one_ask one about (read attribute) s t h k = h ∙ sym k
one_ask one about (enable enabled) s t h k = h ∙ sym k
one_ask one about (initiate identifier n) s t (a, named, is) (b, others, same) =
    is ∙ ap (λ (title : Option Title). initiate_message n title) (one_title one identifier a b named others) ∙ sym same
one_ask one about (block number bytes) s t h k = h ∙ sym k
one_ask one about verify s t h k = h ∙ sym k
one_ask one about activate s t h k = h ∙ sym k
one_ask one about (refused refusal) s t h k = h ∙ sym k

one_shown : OneName → (v : Value) (s t : ShownValue) → IsShownAs v s → IsShownAs v t → s ≡ t
one_shown one (octet_string bytes) s t (a, named, is) (b, others, same) =
    is ∙ ap (λ (title : Option Title). shown_octets (length bytes) title) (one_title one bytes a b named others) ∙ sym same
one_shown one v s t h k = h ∙ sym k

one_result : OneName → (r : GetResult) (s t : Message) → SaysAnswer (get_response r) s → SaysAnswer (get_response r) t → s ≡ t
one_result one (value v) s t (a, shown, is) (b, other, same) = is ∙ ap (λ (x : ShownValue). message.Got x) (one_shown one v a b shown other) ∙ sym same
one_result one (code c) s t h k = h ∙ sym k

one_answer : OneName → (content : ResponseContent) (s t : Message) → SaysAnswer content s → SaysAnswer content t → s ≡ t
one_answer one (get_response r) s t h k = one_result one r s t h k
one_answer one (set_response c) s t h k = h ∙ sym k
one_answer one (action_response c returned) s t h k = h ∙ sym k

-- a datagram carries one thing, where an APDU spells one
one_carried : {C : Type 0} → OneFrame → (Spells : List ℕ → ℕ → C → Type 0)
    → ((apdu : List ℕ) (i j : ℕ) (a b : C) → Spells apdu i a → Spells apdu j b → (i ≡ j) × (a ≡ b))
    → (bytes : List ℕ) (a b : C) → Carries Spells bytes a → Carries Spells bytes b → a ≡ b
one_carried {C} frame Spells one bytes a b h k =
    let same = frame bytes h.apdu k.apdu h.source h.dest k.source k.dest h.wraps k.wraps in
    let P : List ℕ → Type 0 = λ apdu. Spells apdu h.invoke a in
    (one k.apdu h.invoke k.invoke a b (subst P same.2 h.spells) k.spells).1

-- bytes that can't be read have one fault that tells why
one_fault : OneFrame → WrappedHasNoFault → (Fails : List ℕ → ApduError → Type 0)
    → ((apdu : List ℕ) (e f : ApduError) → Fails apdu e → Fails apdu f → e ≡ f)
    → (bytes : List ℕ) (a b : Unread) → IsUnread Fails bytes a → IsUnread Fails bytes b → a ≡ b
one_fault frame none Fails one bytes (unread.Wrapper e) (unread.Wrapper f) h k =
    let both : Some e ≡ Some f = sym h ∙ k in
    let same : e ≡ f = cc in
    ap (λ (x : WrapError). unread.Wrapper x) same
one_fault frame none Fails one bytes (unread.Wrapper e) (unread.Apdu f) h (source, dest, apdu, wraps, fails) =
    let both : Some e ≡ None = sym h ∙ none bytes apdu source dest wraps in
    absurd (cc)
one_fault frame none Fails one bytes (unread.Apdu e) (unread.Wrapper f) (source, dest, apdu, wraps, fails) k =
    let both : Some f ≡ None = sym k ∙ none bytes apdu source dest wraps in
    absurd (cc)
one_fault frame none Fails one bytes (unread.Apdu e) (unread.Apdu f) (source, dest, apdu, wraps, fails) (s, d, other, carried, failed) =
    let same = frame bytes apdu other source dest s d wraps carried in
    let P : List ℕ → Type 0 = λ x. Fails x e in
    ap (λ (x : ApduError). unread.Apdu x) (one other e f (subst P same.2 fails) failed)

one_message : {C : Type 0} → OneFrame → WrappedHasNoFault → (Spells : List ℕ → ℕ → C → Type 0) (Fails : List ℕ → ApduError → Type 0) (SaysIt : C → Message → Type 0)
    → ((apdu : List ℕ) (i j : ℕ) (a b : C) → Spells apdu i a → Spells apdu j b → (i ≡ j) × (a ≡ b))
    → ((apdu : List ℕ) (e f : ApduError) → Fails apdu e → Fails apdu f → e ≡ f)
    → ((content : C) (s t : Message) → SaysIt content s → SaysIt content t → s ≡ t)
    → (bytes : List ℕ) (s t : Message) → SaysCarried Spells Fails SaysIt bytes s → SaysCarried Spells Fails SaysIt bytes t → s ≡ t
one_message {C} frame wrapped Spells Fails SaysIt one fault says bytes s t (inl (a, carries, h)) (inl (b, carried, k)) =
    let P : C → Type 0 = λ content. SaysIt content s in
    says b s t (subst P (one_carried frame Spells one bytes a b carries carried) h) k
one_message {C} frame wrapped Spells Fails SaysIt one fault says bytes s t (inl (a, carries, h)) (inr (none, k)) = absurd (none a carries)
one_message {C} frame wrapped Spells Fails SaysIt one fault says bytes s t (inr (none, h)) (inl (b, carried, k)) = absurd (none b carried)
one_message {C} frame wrapped Spells Fails SaysIt one fault says bytes s t (inr (none, (why, is, h))) (inr (nothing, (other, fails, k))) =
    h ∙ ap (λ (x : Unread). message.Unread (length bytes) x) (one_fault frame wrapped Fails fault bytes why other is fails) ∙ sym k

-- what the laws say that this stands on
pub record Laws : Type 0 where
  pub frame : OneFrame
  pub wrapped : WrappedHasNoFault
  pub name : OneName
  pub request : OneRequest
  pub response : OneResponse
  pub request_fault : OneRequestFault
  pub response_fault : OneResponseFault

one_said : Laws → (way : Direction) (bytes : List ℕ) (s t : Message) → Says way bytes s → Says way bytes t → s ≡ t
one_said laws ToMeter bytes s t h k =
    one_message laws.frame laws.wrapped SpellsRequest RequestFails (λ content. SaysAsk (addressed_by content) (meaning_of content)) laws.request
    (λ apdu e f fails. (laws.request_fault apdu e f fails).1) (λ content. one_ask laws.name (addressed_by content) (meaning_of content)) bytes s t h k
one_said laws ToHead bytes s t h k =
    one_message laws.frame laws.wrapped SpellsResponse ResponseFails SaysAnswer laws.response (λ apdu e f fails. (laws.response_fault apdu e f fails).1)
    (one_answer laws.name) bytes s t h k

pub one_trace : Laws → (notes : ℕ → Note) (number : ℕ) (sent : List Datagram) (text other : List ℕ)
    → TracesFrom notes number sent text → TracesFrom notes number sent other → text ≡ other
one_trace laws notes number [] text other h k = h ∙ sym k
one_trace laws notes number (d ∷ sent) text other (s, rest, says, traces, is) (t, more, tells, goes, same) =
    let said : s ≡ t = one_said laws d.direction d.bytes s t says tells in
    let later : rest ≡ more = one_trace laws notes (number + 1) sent rest more traces goes in
    is ∙ ap (λ (x : Message). line_of number d x (notes number) ++ rest) said ∙ ap (λ (x : List ℕ). line_of number d t (notes number) ++ x) later ∙ sym same
