-- That what spells a note spells one alone, and how long it is.
use Rattle.std.proofs.Common.{◌≡◌, ℕ, ◌<◌, ◌≤◌, ◌^◌, ◌+◌, ◌==◌, List, [], ◌∷◌, ◌++◌, length, take, drop, Option, Some, None, if◌then◌else◌, refl, sym, ap, subst, ◌∙◌, ⊎_elim, arith, length-append}
use Rattle.std.proofs.lemmas.List.{take_at, drop_at}
use Rattle.std.specs.Int.{w32, w64, to_be_bytes, from_be_bytes}
use Rattle.std.proofs.lemmas.Nat.{from_be_bytes-to_be_bytes_4, from_be_bytes-to_be_bytes_8}
use Rattle.fw_names.specs.Name.{Campaign, IsCampaign, campaign_bytes}
use Rattle.fw_book.specs.declared.notes.Answer.{Answer}
use Rattle.fw_book.specs.declared.notes.Answer.TheVariants.{Number, Bits, Status, Info, Active, Code, Silent, GivenUp}
use Rattle.fw_book.specs.declared.notes.Reason.{Reason}
use Rattle.fw_book.specs.declared.notes.End.{End}
use Rattle.fw_book.specs.declared.phase.Phase.{Phase}
use Rattle.fw_book.specs.declared.phase.Phase.TheVariants as phase
use Rattle.fw_ledger.specs.declared.record.Note.{Note}
use Rattle.fw_ledger.specs.declared.record.Note.TheVariants.{Opened, Ended}
use Rattle.fw_ledger.specs.Note.{phase_number, answer_bytes, reason_bytes, end_bytes, note_bytes, AnswerFits, ReasonFits, EndFits, NoteFits}

-- ---- phases

abbrev phase_at : ℕ → Phase
phase_at n =
    if n == 1 then phase.Size else if n == 2 then phase.Enable else if n == 3 then phase.Start else if n == 4 then phase.Blocks else if n == 5 then phase.Check
    else if n == 6 then phase.Gaps else if n == 7 then phase.Verify else if n == 8 then phase.Poll else if n == 9 then phase.Info else if n == 10 then phase.Activate
    else if n == 11 then phase.Confirm else if n == 12 then phase.Done else phase.Failed

phase_again : (p : Phase) → phase_at (phase_number p) ≡ p
phase_again phase.Size = refl
phase_again phase.Enable = refl
phase_again phase.Start = refl
phase_again phase.Blocks = refl
phase_again phase.Check = refl
phase_again phase.Gaps = refl
phase_again phase.Verify = refl
phase_again phase.Poll = refl
phase_again phase.Info = refl
phase_again phase.Activate = refl
phase_again phase.Confirm = refl
phase_again phase.Done = refl
phase_again phase.Failed = refl

phase_unique : (a b : Phase) → phase_number a ≡ phase_number b → a ≡ b
phase_unique a b is = sym (phase_again a) ∙ ap phase_at is ∙ phase_again b

-- ---- answers

abbrev first : List ℕ → ℕ
first [] = 0
first (n ∷ ns) = n

abbrev campaign_at : List ℕ → Campaign
campaign_at bytes = record { head = from_be_bytes w32 (take 4 bytes); serial = from_be_bytes w32 (drop 4 bytes) }

pub campaign_fits : (c : Campaign) → IsCampaign c → (c.head < 2 ^ 32) × (c.serial < 2 ^ 32)
campaign_fits c is =
    ⊎_elim
    (λ same.
    let head : c.head ≡ 0 = ap (λ (k : Campaign). k.head) same in
    let serial : c.serial ≡ 0 = ap (λ (k : Campaign). k.serial) same in
    let head_fits : c.head < 2 ^ 32 = omega (arith, head) in
    let serial_fits : c.serial < 2 ^ 32 = omega (arith, serial) in
    (head_fits, serial_fits))
    (λ opened. (opened.head_fits, opened.serial_fits)) is

campaign_again : (c : Campaign) → IsCampaign c → campaign_at (campaign_bytes c) ≡ c
campaign_again c is =
    let fits = campaign_fits c is in
    let front = to_be_bytes w32 c.head in
    let back = to_be_bytes w32 c.serial in
    let heads : from_be_bytes w32 (take 4 (front ++ back)) ≡ c.head = ap (λ (l : List ℕ). from_be_bytes w32 l) (take_at front back 4 refl) ∙ from_be_bytes-to_be_bytes_4 c.head fits.0 in
    let serials : from_be_bytes w32 (drop 4 (front ++ back)) ≡ c.serial = ap (λ (l : List ℕ). from_be_bytes w32 l) (drop_at front back 4 refl) ∙ from_be_bytes-to_be_bytes_4 c.serial fits.1 in
    let of_head : ℕ → Campaign = λ n. record { head = n; serial = from_be_bytes w32 (drop 4 (front ++ back)) } in
    let of_serial : ℕ → Campaign = λ n. record { head = c.head; serial = n } in
    ap of_head heads ∙ ap of_serial serials

abbrev answer_at : List ℕ → Answer
answer_at [] = Code 0
answer_at (kind ∷ body) =
    if kind == 1 then Number (from_be_bytes w32 body) else if kind == 2 then Bits (from_be_bytes w64 body) else if kind == 3 then Status (first body)
    else if kind == 4 then Info None else if kind == 5 then Info (Some (campaign_at body)) else if kind == 6 then Active (campaign_at body)
    else if kind == 7 then Code (first body) else if kind == 8 then Silent else GivenUp

answer_again : (a : Answer) → AnswerFits a → answer_at (answer_bytes a) ≡ a
answer_again (Number n) fits = ap (λ k. Number k) (from_be_bytes-to_be_bytes_4 n fits)
answer_again (Bits n) fits = ap (λ k. Bits k) (from_be_bytes-to_be_bytes_8 n fits)
answer_again (Status n) fits = refl
answer_again (Info None) fits = refl
answer_again (Info (Some c)) fits = ap (λ (k : Campaign). Info (Some k)) (campaign_again c fits)
answer_again (Active c) fits = ap (λ (k : Campaign). Active k) (campaign_again c fits)
answer_again (Code n) fits = refl
answer_again Silent fits = refl
answer_again GivenUp fits = refl

answer_unique : (a b : Answer) → AnswerFits a → AnswerFits b → answer_bytes a ≡ answer_bytes b → a ≡ b
answer_unique a b ha hb is = sym (answer_again a ha) ∙ ap answer_at is ∙ answer_again b hb

-- ---- ends and notes

tail_of : (a b : ℕ) (s t : List ℕ) → a ∷ s ≡ b ∷ t → (a ≡ b) × (s ≡ t)
tail_of a b s t is = (cc is, cc is)

reason_unique : (a b : Option Reason) → ReasonFits a → ReasonFits b → reason_bytes a ≡ reason_bytes b → a ≡ b
reason_unique None None ha hb is = refl
reason_unique None (Some b) ha hb is = absurd (cc is)
reason_unique (Some a) None ha hb is = absurd (cc is)
reason_unique (Some a) (Some b) ha hb is =
    let parts = tail_of (phase_number a.phase) (phase_number b.phase) (answer_bytes a.answer) (answer_bytes b.answer) is in
    let of_phase : Phase → Option Reason = λ p. Some (record { phase = p; answer = a.answer }) in
    let of_answer : Answer → Option Reason = λ w. Some (record { phase = b.phase; answer = w }) in
    ap of_phase (phase_unique a.phase b.phase parts.0) ∙ ap of_answer (answer_unique a.answer b.answer ha hb parts.1)

eight_unique : (a b : ℕ) (s t : List ℕ) → a < 2 ^ 64 → b < 2 ^ 64 → to_be_bytes w64 a ++ s ≡ to_be_bytes w64 b ++ t → (a ≡ b) × (s ≡ t)
eight_unique a b s t ha hb e =
    let bytes = sym (take_at (to_be_bytes w64 a) s 8 refl) ∙ ap (λ (l : List ℕ). take 8 l) e ∙ take_at (to_be_bytes w64 b) t 8 refl in
    let rest = sym (drop_at (to_be_bytes w64 a) s 8 refl) ∙ ap (λ (l : List ℕ). drop 8 l) e ∙ drop_at (to_be_bytes w64 b) t 8 refl in
    (sym (from_be_bytes-to_be_bytes_8 a ha) ∙ ap (λ (l : List ℕ). from_be_bytes w64 l) bytes ∙ from_be_bytes-to_be_bytes_8 b hb, rest)

four_unique : (a b : ℕ) (s t : List ℕ) → a < 2 ^ 32 → b < 2 ^ 32 → to_be_bytes w32 a ++ s ≡ to_be_bytes w32 b ++ t → (a ≡ b) × (s ≡ t)
four_unique a b s t ha hb e =
    let bytes = sym (take_at (to_be_bytes w32 a) s 4 refl) ∙ ap (λ (l : List ℕ). take 4 l) e ∙ take_at (to_be_bytes w32 b) t 4 refl in
    let rest = sym (drop_at (to_be_bytes w32 a) s 4 refl) ∙ ap (λ (l : List ℕ). drop 4 l) e ∙ drop_at (to_be_bytes w32 b) t 4 refl in
    (sym (from_be_bytes-to_be_bytes_4 a ha) ∙ ap (λ (l : List ℕ). from_be_bytes w32 l) bytes ∙ from_be_bytes-to_be_bytes_4 b hb, rest)

end_unique : (a b : End) → EndFits a → EndFits b → end_bytes a ≡ end_bytes b → a ≡ b
end_unique a b ha hb is =
    let parts = eight_unique a.at b.at (reason_bytes a.reason) (reason_bytes b.reason) ha.0 hb.0 is in
    let of_at : ℕ → End = λ n. record { at = n; reason = a.reason } in
    let of_reason : Option Reason → End = λ r. record { at = b.at; reason = r } in
    ap of_at parts.0 ∙ ap of_reason (reason_unique a.reason b.reason ha.1 hb.1 parts.1)

pub note_unique : (a b : Note) → NoteFits a → NoteFits b → note_bytes a ≡ note_bytes b → a ≡ b
note_unique (Opened a) (Opened b) ha hb is =
    let times = (tail_of 1 1 (to_be_bytes w64 a) (to_be_bytes w64 b) is).1 in
    ap (λ n. Opened n) (sym (from_be_bytes-to_be_bytes_8 a ha) ∙ ap (λ (l : List ℕ). from_be_bytes w64 l) times ∙ from_be_bytes-to_be_bytes_8 b hb)
note_unique (Opened a) (Ended m f) ha hb is = absurd (omega (arith, (tail_of 1 2 (to_be_bytes w64 a) (to_be_bytes w32 m ++ end_bytes f) is).0))
note_unique (Ended m f) (Opened b) ha hb is = absurd (omega (arith, (tail_of 2 1 (to_be_bytes w32 m ++ end_bytes f) (to_be_bytes w64 b) is).0))
note_unique (Ended m f) (Ended n g) ha hb is =
    let parts = four_unique m n (end_bytes f) (end_bytes g) ha.0 hb.0 (tail_of 2 2 (to_be_bytes w32 m ++ end_bytes f) (to_be_bytes w32 n ++ end_bytes g) is).1 in
    ap (λ k. Ended k f) parts.0 ∙ ap (λ (h : End). Ended n h) (end_unique f g ha.1 hb.1 parts.1)

-- ---- sizes

answer_short : (a : Answer) → length (answer_bytes a) ≤ 9
answer_short (Number n) = let size : length (answer_bytes (Number n)) ≡ 5 = refl in omega (arith, size)
answer_short (Bits n) = let size : length (answer_bytes (Bits n)) ≡ 9 = refl in omega (arith, size)
answer_short (Status n) = omega arith
answer_short (Info None) = omega arith
answer_short (Info (Some c)) = let size : length (answer_bytes (Info (Some c))) ≡ 9 = refl in omega (arith, size)
answer_short (Active c) = let size : length (answer_bytes (Active c)) ≡ 9 = refl in omega (arith, size)
answer_short (Code n) = omega arith
answer_short Silent = omega arith
answer_short GivenUp = omega arith

reason_short : (reason : Option Reason) → length (reason_bytes reason) ≤ 10
reason_short None = omega arith
reason_short (Some why) = omega (arith, answer_short why.answer)

pub note_short : (told : Note) → length (note_bytes told) ≤ 23
note_short (Opened at) = let size : length (note_bytes (Opened at)) ≡ 9 = refl in omega (arith, size)
note_short (Ended meter told) =
    let four : length (to_be_bytes w32 meter) ≡ 4 = refl in
    let eight : length (to_be_bytes w64 told.at) ≡ 8 = refl in
    omega (arith, four, eight, reason_short told.reason, length-append (to_be_bytes w32 meter) (end_bytes told), length-append (to_be_bytes w64 told.at) (reason_bytes told.reason))
