-- The wrapper over UDP (IEC 62056-4-7): version, source wPort, destination wPort and length, two bytes each,
-- high byte first, and then the APDU.
use Rattle.std.specs.Prelude.{◌≡◌, ℕ, ◌+◌, ◌<◌, ◌≤◌, ◌^◌, Bool, List, [], ◌∷◌, ◌++◌, length, take, drop, nat_lt, ◌==◌, not, Option}
use Rattle.std.specs.Int.{w16, to_be_bytes, from_be_bytes}
use Rattle.fw_wrapper.specs.Refusals.{first_applying}
use Rattle.fw_wrapper.specs.declared.error.WrapError.{WrapError}
use Rattle.fw_wrapper.specs.declared.error.WrapError.TheVariants.{Short, Version, Length, TooLong}

-- the longest APDU that either end takes, in bytes
abbrev pub max_apdu : ℕ
max_apdu = 2304

-- the bytes of a header
abbrev pub header_size : ℕ
header_size = 8

-- how many bytes of a datagram are received: one more than the longest one has
abbrev pub max_received : ℕ
max_received = header_size + max_apdu + 1

-- the wPort of both ends
abbrev pub wport : ℕ
wport = 1

-- the datagram that carries an APDU between two wPorts
abbrev pub wrapped : ℕ → ℕ → List ℕ → List ℕ
wrapped source dest apdu =
    to_be_bytes w16 1 ++ to_be_bytes w16 source ++ to_be_bytes w16 dest ++ to_be_bytes w16 (length apdu) ++ apdu

-- a datagram carries this APDU between these wPorts
pub record Wraps (datagram : List ℕ) (source dest : ℕ) (apdu : List ℕ) : Type 0 where
  pub source_fits : source < 2 ^ 16
  pub dest_fits : dest < 2 ^ 16
  pub apdu_fits : length apdu ≤ max_apdu
  pub bytes : datagram ≡ wrapped source dest apdu

-- the header's number at a place, of two bytes
abbrev pub field_at : List ℕ → ℕ → ℕ
field_at datagram place = from_be_bytes w16 (take 2 (drop place datagram))

-- what stands after the header
abbrev pub behind_header : List ℕ → List ℕ
behind_header datagram = drop header_size datagram

-- the faults that a datagram can have, each with its test, in the order in which they count
abbrev pub fault_rows : List ℕ → List (Bool × WrapError)
fault_rows datagram =
    (nat_lt (length datagram) header_size, Short)
    ∷ (not (field_at datagram 0 == 1), Version)
    ∷ (not (field_at datagram 6 == length (behind_header datagram)), Length)
    ∷ (nat_lt max_apdu (length (behind_header datagram)), TooLong)
    ∷ []

-- what is wrong with a datagram: nothing, if it wraps an APDU
abbrev pub fault_of : List ℕ → Option WrapError
fault_of datagram = first_applying (fault_rows datagram)
