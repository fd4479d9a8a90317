-- What records reserve.
use Rattle.std.proofs.Common.{rules, ◌≡◌, ℕ, Ok, IsErrOf, ◌+◌, min, ◌<◌, ◌≤◌, ◌^◌, max, List, [], ◌∷◌, ◌++◌, length, refl, sym, ◌∙◌, ap, subst, arith}
use Rattle.std.specs.Int.{w32, to_be_bytes, from_be_bytes}
use Rattle.std.proofs.lemmas.Nat.{from_be_bytes-to_be_bytes_4}
use Rattle.fw_journal.specs.Laws.{OneReading, BadIsNone}
use Rattle.fw_journal.specs.Book.{Stands, IsBadBook}
use Rattle.fw_journal.specs.declared.error.JournalError.{JournalError}
use Rattle.fw_journal.specs.declared.error.JournalError.TheVariants as journal
use Rattle.fw_counter.specs.Reserved.{AreReservations, reserved_by, HasReserved, HasNoCounter}
use Rattle.fw_counter.specs.Moves.{Counter, range, limit, reserved_after}
use Rattle.fw_counter.specs.Laws.{OneBound}
use Rattle.fw_counter.specs.Refusals.{counter_error}
use Rattle.fw_counter.specs.declared.error.CounterError.TheVariants.{NoCounter}

pub fit_push : (done : List (List ℕ)) (entry : List ℕ) → AreReservations done → length entry ≡ 4 → AreReservations (done ++ entry ∷ [])
fit_push [] entry fit size = (size, tt)
fit_push (first ∷ done) entry fit size = (fit.0, fit_push done entry fit.1 size)

max_zero : (n : ℕ) → max n 0 ≡ max 0 n
max_zero n = omega arith

max_across : (a b c : ℕ) → max a (max b c) ≡ max (max a b) c
max_across a b c = omega arith

max_greater : (a b : ℕ) → a ≤ b → max a b ≡ b
max_greater a b le = omega (arith, le)

reserved_push : (done : List (List ℕ)) (entry : List ℕ) → reserved_by (done ++ entry ∷ []) ≡ max (reserved_by done) (from_be_bytes w32 entry)
reserved_push [] entry = max_zero (from_be_bytes w32 entry)
reserved_push (first ∷ done) entry = ap (λ (n : ℕ). max (from_be_bytes w32 first) n) (reserved_push done entry) ∙ max_across (from_be_bytes w32 first) (reserved_by done) (from_be_bytes w32 entry)

-- a record more, of a greater number, reserves up to that
pub reserved_more : (done : List (List ℕ)) (entry : List ℕ) (bound : ℕ) → entry ≡ to_be_bytes w32 bound → bound < 2 ^ 32 → reserved_by done ≤ bound → bound ≡ reserved_by (done ++ entry ∷ [])
reserved_more done entry bound spelled fits more =
    let number : from_be_bytes w32 entry ≡ bound = ap (λ (l : List ℕ). from_be_bytes w32 l) spelled ∙ from_be_bytes-to_be_bytes_4 bound fits in
    sym (reserved_push done entry ∙ ap (λ (n : ℕ). max (reserved_by done) n) number ∙ max_greater (reserved_by done) bound more)

pub one_bound : OneReading → OneBound
one_bound reading = λ bytes a b some others.
    let same = reading bytes some.records others.records some.stands others.stands in
    some.bound_is ∙ ap (λ (l : List (List ℕ)). reserved_by l) same ∙ sym others.bound_is

-- what the records of the bytes reserve is no less than what these are known to
pub begins_behind : OneReading → (bytes : List ℕ) (records : List (List ℕ)) (n bound : ℕ) → Stands bytes records → bound ≡ reserved_by records → HasReserved bytes n → n ≤ bound
begins_behind reading bytes records n bound stands found has =
    let same = reading bytes has.reserves.records records has.reserves.stands stands in
    omega (arith, found, has.enough, has.reserves.bound_is, ap (λ (l : List (List ℕ)). reserved_by l) same)

-- bytes that are no journal's reserve none, nor do those of a journal with another record
pub bad_reserves_none : BadIsNone → (bytes : List ℕ) (offset : ℕ) → IsBadBook bytes offset → HasNoCounter bytes
bad_reserves_none bad bytes offset is = λ bound reserves. bad bytes offset reserves.records is reserves.stands

pub unfit_reserves_none : OneReading → (bytes : List ℕ) (records : List (List ℕ)) → Stands bytes records → ¬ AreReservations records → HasNoCounter bytes
unfit_reserves_none reading bytes records stands unfit = λ bound reserves.
    unfit (subst (λ (l : List (List ℕ)). AreReservations l) (reading bytes reserves.records records reserves.stands stands) reserves.fit)

-- if all reserved ones are used, a range more is reserved
pub used_after : (c : Counter) → c.reserved ≤ c.next → reserved_after c ≡ min (c.next + range) limit
used_after c le = search (rules, le)

pub ok_err : {T E : Type 0} (v : T) (e : E) → IsErrOf (Ok v) e → ⊥
ok_err v e is = absurd (cc is)

pub bad_of : (refusal : JournalError) → counter_error refusal ≡ NoCounter → (offset : ℕ) × (refusal ≡ journal.BadBook offset)
bad_of (journal.BadBook offset) is = (offset, refl)
bad_of journal.NotEmpty is = absurd (cc is)
bad_of journal.TooLong is = absurd (cc is)
bad_of journal.Full is = absurd (cc is)
bad_of journal.Locked is = absurd (cc is)
bad_of journal.BookFault is = absurd (cc is)
bad_of journal.OutOfMemory is = absurd (cc is)
