-- Of all that a meter replies to a GET, an octet-string of 41 or 45 bytes spells the name of the image that runs.
use Rattle.std.proofs.Common.{◌≡◌, ℕ, ◌<◌, ◌^◌, ◌⊎◌, Bool, true, false, List, [], ◌∷◌, length, Some, None, inl, inr, refl, sym, ◌∙◌, ap, subst, arith, lt-ltb, if◌then◌else◌, nat_lt}
use Rattle.fw_axdr.specs.Value.{octet_string}
use Rattle.fw_axdr.specs.Spelling.{IsData, max_depth, short}
use Rattle.fw_axdr.specs.Fault.{counted}
use Rattle.fw_axdr.specs.declared.error.AxdrError.TheVariants.{BadLength}
use Rattle.fw_axdr.specs.Laws as axdr
use Rattle.fw_wrapper.specs.Wrapper.{wrapped, behind_header, wport}
use Rattle.fw_names.specs.Name.{Name, IsName, name_bytes}
use Rattle.fw_names.specs.Laws as names
use Rattle.fw_apdu.specs.Request.{RequestContent, get_request, set_request, action_request, is_confirmed}
use Rattle.fw_apdu.specs.Cosem.{image_transfer, active_firmware_identifier, active_firmware_signature}
use Rattle.fw_apdu.specs.Response.{value, get_response, SpellsResponse, response_bytes}
use Rattle.fw_server.specs.Meaning as meaning
use Rattle.fw_server.specs.Meaning.{Meaning, meaning_of}
use Rattle.fw_server.specs.Answer.{value_of_answer, response_of}
use Rattle.fw_server.specs.declared.object.Object.TheVariants.{ImageTransfer, ActiveIdentifier, ActiveSignature}
use Rattle.fw_server.specs.declared.object.Reading.{Reading}
use Rattle.fw_server.specs.declared.object.Reading.TheVariants.{LogicalName, BlockSize, TransferredBlocks, FirstNotTransferred, TransferEnabled, TransferStatus, ToActivate, ActiveName, ActiveDigest}
use Rattle.fw_server.specs.declared.outcome.Answer.{Answer}
use Rattle.fw_image.specs.Meter.{Meter}
use Rattle.fw_meter.specs.Handling.{outcome_in}
use Rattle.fw_meter.specs.Laws.{TellsRunning}
use Rattle.fw_meter.specs.Step.{MeterResult, got, coded, MeterStep, answer_of}

heads : {x y : ℕ} {s t : List ℕ} → x ∷ s ≡ y ∷ t → x ≡ y
heads e = cc

tails : {x y : ℕ} {s t : List ℕ} → x ∷ s ≡ y ∷ t → s ≡ t
tails e = cc

-- the result was an answer, of which this is the Data
pub record IsTold (result : MeterResult) (bytes : List ℕ) : Type 0 where
  pub answer : Answer
  pub is : result ≡ got answer
  pub spelled : IsData max_depth (short (value_of_answer answer)) (octet_string bytes)

-- an octet-string that a GET is answered is an answer's
is_told : (invoke i : ℕ) (content : RequestContent) (result : MeterResult) (bytes : List ℕ)
    → SpellsResponse (response_bytes invoke (response_of (outcome_in content result))) i (get_response (value (octet_string bytes))) → IsTold result bytes
is_told invoke i content (got a) bytes h =
    let same : short (value_of_answer a) ≡ h.2.0 = tails (tails (tails (tails h.1)) ∙ h.2.1) in
    record { answer = a; is = refl; spelled = subst (λ (s : List ℕ). IsData max_depth s (octet_string bytes)) (sym same) h.2.2 }
is_told invoke i (get_request d) (coded n) bytes h = absurd (omega (arith, heads (tails (tails (tails h.1)) ∙ h.2.1)))
is_told invoke i (set_request d v) (coded n) bytes h = absurd (omega (arith, heads h.1))
is_told invoke i (action_request d p) (coded n) bytes h = absurd (omega (arith, heads h.1))

-- a length of fewer than 128 bytes can be written
fits : (n : ℕ) → n < 128 → counted n None ≡ None
fits n few = let small : nat_lt n (2 ^ 32) ≡ true = lt-ltb n (2 ^ 32) (omega arith) in ap (λ (b : Bool). if b then None else Some BadLength) small

-- the Data of an octet-string of less than 128 bytes
one_string : axdr.ShortSpells → axdr.OneSpelling → (o bytes : List ℕ) → length o < 128 → IsData max_depth (short (octet_string o)) (octet_string bytes) → o ≡ bytes
one_string shorts spellings o bytes few h =
    let own : IsData max_depth (short (octet_string o)) (octet_string o) = shorts max_depth (octet_string o) tt (fits (length o) few) in
    let spelled : List ℕ = short (octet_string o) in
    let same : octet_string o ≡ octet_string bytes = (spellings max_depth spelled spelled [] [] (octet_string o) (octet_string bytes) refl own h).1 in
    cc

shorter : axdr.ShortSpells → axdr.OneSpelling → (o bytes : List ℕ) → length o < 41 → IsData max_depth (short (octet_string o)) (octet_string bytes)
    → (length bytes ≡ 41) ⊎ (length bytes ≡ 45) → ⊥
shorter shorts spellings o bytes few h size =
    let same : o ≡ bytes = one_string shorts spellings o bytes (omega arith) h in
    let lengths = ap length same in
    elim size [ inl unreleased ↦ omega arith | inr released ↦ omega arith ]

-- a name has at most 45 bytes
name_fits : names.SpellingSize → (name : Name) → IsName name → length (name_bytes name) < 128
name_fits sizes name named =
    elim (sizes (name_bytes name) name (record { is_name = named; spelled = refl })) [ inl unreleased ↦ omega arith | inr released ↦ omega arith ]

-- of what can be read of a meter, 41 or 45 bytes spell the name of the image that runs
told_name : names.SpellingSize → axdr.ShortSpells → axdr.OneSpelling → (m : Meter) (reading : Reading) (bytes : List ℕ) → IsName m.running.name
    → IsData max_depth (short (value_of_answer (answer_of m reading))) (octet_string bytes) → (length bytes ≡ 41) ⊎ (length bytes ≡ 45) → name_bytes m.running.name ≡ bytes
told_name sizes shorts spellings m (LogicalName ImageTransfer) bytes named h size = absurd (shorter shorts spellings image_transfer bytes (omega arith) h size)
told_name sizes shorts spellings m (LogicalName ActiveIdentifier) bytes named h size = absurd (shorter shorts spellings active_firmware_identifier bytes (omega arith) h size)
told_name sizes shorts spellings m (LogicalName ActiveSignature) bytes named h size = absurd (shorter shorts spellings active_firmware_signature bytes (omega arith) h size)
told_name sizes shorts spellings m BlockSize bytes named h size = absurd (omega (arith, heads h.0.1))
told_name sizes shorts spellings m TransferredBlocks bytes named h size = absurd (omega (arith, heads h.0.1))
told_name sizes shorts spellings m FirstNotTransferred bytes named h size = absurd (omega (arith, heads h.0.1))
told_name sizes shorts spellings m TransferEnabled bytes named h size = absurd (omega (arith, heads h.0.1))
told_name sizes shorts spellings m TransferStatus bytes named h size = absurd (omega (arith, heads h.0.1))
told_name sizes shorts spellings m ToActivate bytes named h size = absurd (omega (arith, heads h.0.1))
told_name sizes shorts spellings m ActiveName bytes named h size = one_string shorts spellings (name_bytes m.running.name) bytes (name_fits sizes m.running.name named) h
told_name sizes shorts spellings m ActiveDigest bytes named h size =
    let digest = named.digest_size in
    absurd (shorter shorts spellings m.running.name.digest bytes (omega arith) h size)

-- only a read comes to an answer
pub record IsRead (m : Meter) (answer : Answer) : Type 0 where
  pub reading : Reading
  pub is : answer ≡ answer_of m reading

is_read : (honest : Bool) (old new : Meter) (asked : Meaning) (answer : Answer) → MeterStep honest old asked (got answer) new → IsRead old answer
is_read honest old new (meaning.read reading) answer h = record { reading = reading; is = cc (h.0) }
is_read honest old new (meaning.refused refusal) answer h = absurd (cc (h.0))
is_read honest old new (meaning.enable b) answer (made, step, told) = absurd cc
is_read honest old new (meaning.initiate identifier size) answer (inl (name, spells, (made, step, told))) = absurd cc
is_read honest old new (meaning.initiate identifier size) answer (inr h) = absurd (cc (h.1))
is_read honest old new (meaning.block i bytes) answer (made, step, told) = absurd cc
is_read honest old new meaning.verify answer (made, step, told) = absurd cc
is_read honest old new meaning.activate answer (made, step, told) = absurd cc

-- ---- the law

-- a reply is the datagram that was written
is_written : (confirmed : Bool) (reply datagram : List ℕ) → Some reply ≡ (if confirmed then Some datagram else None) → reply ≡ datagram
is_written true reply datagram e = cc
is_written false reply datagram e = absurd cc

pub tells_running : names.SpellingSize → axdr.ShortSpells → axdr.OneSpelling → TellsRunning
tells_running sizes shorts spellings honest old new datagram reply bytes activated named (inr h) told size = absurd (cc (h.silent))
tells_running sizes shorts spellings honest old new datagram reply bytes activated named (inl h) told size =
    let result : MeterResult = h.responds.result in
    let written : List ℕ = response_bytes h.invoke (response_of (outcome_in h.content result)) in
    let sent : reply ≡ wrapped wport h.source written = is_written (is_confirmed h.invoke) reply (wrapped wport h.source written) h.responds.replies in
    let same : told.apdu ≡ written = ap behind_header (sym told.wraps.bytes ∙ sent) in
    let spells : SpellsResponse written told.invoke (get_response (value (octet_string bytes))) =
    subst (λ (s : List ℕ). SpellsResponse s told.invoke (get_response (value (octet_string bytes)))) same told.spells in
    let answered = is_told h.invoke told.invoke h.content result bytes spells in
    let read = is_read honest old new (meaning_of h.content) answered.answer (subst (λ (r : MeterResult). MeterStep honest old (meaning_of h.content) r new) answered.is h.responds.steps) in
    let data_is = subst (λ (a : Answer). IsData max_depth (short (value_of_answer a)) (octet_string bytes)) read.is answered.spelled in
    record { is_name = named; spelled = sym (told_name sizes shorts spellings old read.reading bytes named data_is size) }
