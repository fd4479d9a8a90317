-- What a client heard, as a row takes it: a datagram that is no stranger's answers an ask.
use Rattle.std.proofs.Common.{◌≡◌, ℕ, inl, inr, List, length, Option, Some, None, option_map, refl, sym, ap, subst, ◌∙◌}
use Rattle.fw_names.specs.Name.{Name}
use Rattle.fw_axdr.specs.Value.{Value, array, bit_string, double_long_unsigned, octet_string, enumerated}
use Rattle.fw_apdu.specs.Response.{value, code, ResponseContent, get_response, set_response, action_response}
use Rattle.fw_client.specs.Claim.{Claim}
use Rattle.fw_client.specs.State.{State}
use Rattle.fw_client.specs.Matching.{Matches, IsValue, IsNumber, IsBits, IsStatus, IsInfo, IsActive}
use Rattle.fw_client.specs.Hearing.{Hears, Takes, AnswersNone, IsClaimed}
use Rattle.fw_client.specs.declared.ask.Asked.{Asked}
use Rattle.fw_client.specs.declared.ask.Asked.TheVariants as asked
use Rattle.fw_client.specs.declared.heard.Heard.{Heard}
use Rattle.fw_client.specs.declared.heard.Heard.TheVariants.{Active, Number, BitSet, Status, Info, Code, Stranger}
use Rattle.fw_book.specs.declared.notes.Answer.{Answer}
use Rattle.fw_book.specs.declared.notes.Answer.TheVariants as kept
use Rattle.fw_head.specs.Reason.{answer_of}
use Rattle.fw_head.proofs.OwnClaims.{IsOf}

none_some : (answer : Answer) → (let o : Option Answer = Some answer in o ≡ None) → ⊥
none_some answer e = cc

-- something is heard
abbrev IsAnswer : Heard → Type 0
IsAnswer Stranger = ⊥
IsAnswer h = Unit {0}

answer_at : (h other : Heard) → h ≡ other → IsAnswer other → IsAnswer h
answer_at h other e is =
    let P : Heard → Type 0 = λ x. IsAnswer x in
    subst P (sym e) is

by_number : (v : Value) (h : Heard) → IsNumber v h → IsAnswer h
by_number (double_long_unsigned n) h x = answer_at h (Number n) x tt
by_number _ h x = absurd x

by_bits : (v : Value) (h : Heard) → IsBits v h → IsAnswer h
by_bits (bit_string b) h x = answer_at h (BitSet b) x tt
by_bits _ h x = absurd x

by_status : (v : Value) (h : Heard) → IsStatus v h → IsAnswer h
by_status (enumerated s) h x = answer_at h (Status s) x tt
by_status _ h x = absurd x

by_info : (v : Value) (h : Heard) → IsInfo v h → IsAnswer h
by_info (array vs) h x = answer_at h (Info x.0) x.2 tt
by_info _ h x = absurd x

by_active : (meter : ℕ) (v : Value) (h : Heard) → IsActive meter v h → IsAnswer h
by_active meter (octet_string o) h x = answer_at h (Active (record { meter = meter; name = x.0 })) x.2 tt
by_active meter _ h x = absurd x

by_value : (meter : ℕ) (a : Asked) (v : Value) (h : Heard) → IsValue meter a v h → IsAnswer h
by_value meter asked.BlockSize v h x = by_number v h x
by_value meter asked.FirstMissing v h x = by_number v h x
by_value meter asked.Blocks v h x = by_bits v h x
by_value meter asked.Status v h x = by_status v h x
by_value meter asked.Info v h x = by_info v h x
by_value meter asked.ActiveName v h x = by_active meter v h x
by_value meter _ v h x = absurd x

-- a response that matches is heard
by_response : (meter : ℕ) (a : Asked) (c : ResponseContent) (h : Heard) → Matches meter a c h → IsAnswer h
by_response meter a (get_response (value v)) h x = by_value meter a v h x
by_response meter a (get_response (code c)) h x = answer_at h (Code a c) x.1 tt
by_response meter a (set_response c) h x = answer_at h (Code a c) x.1 tt
by_response meter a (action_response c r) h x = answer_at h (Code a c) x.1 tt

-- a stranger's datagram answers no ask
pub strange : (c new : State) (datagram : List ℕ) → Hears c datagram Stranger new → AnswersNone c datagram
strange c new datagram (inl takes) = absurd (by_response c.meter takes.1.asked takes.1.content Stranger takes.1.matches)
strange c new datagram (inr ignores) = ignores.0

-- any other is an answer
pub taken : (c new : State) (datagram : List ℕ) (h : Heard) → ¬ (h ≡ Stranger) → Hears c datagram h new → Takes c datagram h new
taken c new datagram h some (inl takes) = takes
taken c new datagram h some (inr ignores) = absurd (some ignores.1)

-- a claim that is heard is of the client's meter
pub of_meter : (c : State) (datagram : List ℕ) (h : Heard) → ((claim : Claim) → h ≡ Active claim → IsClaimed c datagram claim) → IsOf c.meter h
of_meter c datagram (Active claim) is = (is claim refl).meter
of_meter c datagram _ is = tt

pub kept_meter : (c new : State) (datagram : List ℕ) (h : Heard) → Takes c datagram h new → new.meter ≡ c.meter
kept_meter c new datagram h takes = ap (λ (s : State). s.meter) takes.2

-- a claim that is heard is of the meter that the client still asks
pub of_asked : (c new : State) (datagram : List ℕ) (h : Heard) → ((claim : Claim) → h ≡ Active claim → IsClaimed c datagram claim) → Takes c datagram h new → IsOf new.meter h
of_asked c new datagram h is takes =
    let P : ℕ → Type 0 = λ m. IsOf m h in
    subst P (sym (kept_meter c new datagram h takes)) (of_meter c datagram h is)

-- the same of a client that equals it
pub strange_to : (c old new : State) (datagram : List ℕ) (h : Heard) → c ≡ old → h ≡ Stranger → Hears c datagram h new → AnswersNone old datagram
strange_to c old new datagram h e s hears =
    let P : State → Type 0 = λ x. AnswersNone x datagram in
    let Q : Heard → Type 0 = λ x. Hears c datagram x new in
    subst P e (strange c new datagram (subst Q s hears))

pub taken_by : (c old new : State) (datagram : List ℕ) (h : Heard) → c ≡ old → ¬ (h ≡ Stranger) → Hears c datagram h new → Takes old datagram h new
taken_by c old new datagram h e some hears =
    let P : State → Type 0 = λ x. Takes x datagram h new in
    subst P e (taken c new datagram h some hears)

-- what has no answer to be kept is a stranger's
pub no_answer : (h : Heard) → answer_of h ≡ None → h ≡ Stranger
no_answer (Active claim) e = absurd (none_some (kept.Active claim.name.campaign) e)
no_answer (Number n) e = absurd (none_some (kept.Number n) e)
no_answer (BitSet known) e = absurd (none_some (kept.Bits (length known)) e)
no_answer (Status s) e = absurd (none_some (kept.Status s) e)
no_answer (Info told) e = absurd (none_some (kept.Info (option_map (λ (name : Name). name.campaign) told)) e)
no_answer (Code a c) e = absurd (none_some (kept.Code c) e)
no_answer Stranger e = refl

-- and what has one isn't
pub some_answer : (h : Heard) (answer : Answer) → answer_of h ≡ Some answer → ¬ (h ≡ Stranger)
some_answer h answer is strange = none_some answer (sym is ∙ ap answer_of strange)
