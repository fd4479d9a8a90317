-- Public vocabulary: what refuses a packet that is to be appended, as a list of rows, each a test and the error that it gives. Where several
-- would apply, the first of them counts.
use Rattle.std.specs.Prelude.{◌≡◌, ℕ, ◌+◌, ◌/◌, ◌^◌, Bool, true, false, List, [], ◌∷◌, length, nat_le, nat_lt, Option, Some, None, if◌then◌else◌}
use Rattle.fw_capture.specs.declared.error.AppendError.{AppendError}
use Rattle.fw_capture.specs.declared.error.AppendError.TheVariants.{TimePast, TwoFamilies, TooLong, OutOfMemory}
use Rattle.fw_capture.specs.View.{Endpoint, ipv4, ipv6, Told, datagram, note, other}
use Rattle.fw_capture.specs.Spelling.{second}

-- the error of the first row whose test is true
abbrev pub first_applying : {E : Type 0} → List (Bool × E) → Option E
first_applying [] = None
first_applying (row ∷ rows) = if row.0 then Some row.1 else first_applying rows

-- whether one address is of IPv4 and the other of IPv6
abbrev pub differ : Endpoint → Endpoint → Bool
differ (ipv4 a m) (ipv4 b n) = false
differ (ipv6 a m) (ipv6 b n) = false
differ (ipv4 a m) (ipv6 b n) = true
differ (ipv6 a m) (ipv4 b n) = true

-- the bytes of the headers of IP and UDP
abbrev pub header_size : Endpoint → ℕ
header_size (ipv4 a m) = 28
header_size (ipv6 a m) = 48

abbrev pub two_families : Told → Bool
two_families (datagram from to bytes) = differ from to
two_families (note n) = false
two_families other = false

-- whether the packet has more bytes than the file header says that the longest has
abbrev pub too_long : Told → Bool
too_long (datagram from to bytes) = nat_lt 65535 (header_size from + length bytes)
too_long (note n) = false
too_long other = false

abbrev pub refusal_rows : ℕ → Told → List (Bool × AppendError)
refusal_rows nanoseconds told =
    (nat_le (2 ^ 32) (nanoseconds / second), TimePast) ∷ (two_families told, TwoFamilies) ∷ (too_long told, TooLong) ∷ []

-- why a packet is refused: for no reason, if it has a spelling
abbrev pub refusal_of : ℕ → Told → Option AppendError
refusal_of nanoseconds told = first_applying (refusal_rows nanoseconds told)

-- the error is the refusal; `OutOfMemory` comes only if nothing refuses the packet
abbrev pub IsRefusal : Option AppendError → AppendError → Type 0
IsRefusal refusal OutOfMemory = refusal ≡ None
IsRefusal refusal TimePast = refusal ≡ Some TimePast
IsRefusal refusal TwoFamilies = refusal ≡ Some TwoFamilies
IsRefusal refusal TooLong = refusal ≡ Some TooLong
