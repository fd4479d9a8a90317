-- What refuses an APDU that is to be sealed, as a list of rows, each a test and the error that it gives. If several would apply, the
-- first of them counts. And what the refusal of bytes says that are to be opened.
use Rattle.std.specs.Prelude.{◌≡◌, ℕ, ◌-◌, ◌^◌, Bool, List, [], ◌∷◌, length, is_none, nat_lt, nat_le, Option, Some, None, if◌then◌else◌}
use Rattle.fw_seal.specs.declared.error.SealError.{SealError}
use Rattle.fw_seal.specs.declared.error.SealError.TheVariants.{UnknownService, TooLong, CounterSpent, OutOfMemory}
use Rattle.fw_seal.specs.declared.error.OpenError.{OpenError}
use Rattle.fw_seal.specs.declared.error.OpenError.TheVariants as opening
use Rattle.fw_seal.specs.Sealing.{CounterRange, tag_for}

-- the error of the first row whose test is true
abbrev pub first_applying : {E : Type 0} → List (Bool × E) → Option E
first_applying [] = None
first_applying (row ∷ rows) = if row.0 then Some row.1 else first_applying rows

-- the longest APDU that is sealed: a content has 17 bytes more, and less than 2^32
abbrev pub max_apdu : ℕ
max_apdu = 2 ^ 32 - 18

abbrev pub refusal_rows : List ℕ → CounterRange → List (Bool × SealError)
refusal_rows apdu counters =
    (is_none (tag_for apdu), UnknownService) ∷ (nat_lt max_apdu (length apdu), TooLong) ∷ (nat_le counters.end counters.next, CounterSpent) ∷ []

-- why an APDU is not sealed: for no reason, if it has a sealing and a counter is left
abbrev pub refusal_of : List ℕ → CounterRange → Option SealError
refusal_of apdu counters = first_applying (refusal_rows apdu counters)

-- the error is the refusal; `OutOfMemory` comes only if there is none
abbrev pub IsRefusal : Option SealError → SealError → Type 0
IsRefusal refusal OutOfMemory = refusal ≡ None
IsRefusal refusal UnknownService = refusal ≡ Some UnknownService
IsRefusal refusal TooLong = refusal ≡ Some TooLong
IsRefusal refusal CounterSpent = refusal ≡ Some CounterSpent

-- what holds where bytes are not opened: the first of these if they are no sealing, the second if memory was refused
abbrev pub IfRefused : OpenError → Type 0 → Type 0 → Type 0
IfRefused opening.NotSealed A B = A
IfRefused opening.OutOfMemory A B = B
