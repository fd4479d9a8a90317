-- The laws of captures: what is written is read back.
use Rattle.std.specs.Prelude.{◌≡◌, ℕ, true, List, ◌++◌, length, Option, Some, None, Result, Ok, Err}
use Rattle.fw_capture.specs.declared.fault.CaptureError.{CaptureError}
use Rattle.fw_capture.specs.declared.format.Format.{Format}
use Rattle.fw_capture.specs.declared.format.Link.TheVariants as link
use Rattle.fw_capture.specs.declared.packet.Packet.{Packet}
use Rattle.fw_capture.specs.View.{Told, IsTold, told_in}
use Rattle.fw_capture.specs.Spelling.{file_header, packet_bytes}
use Rattle.fw_capture.specs.Refusal.{refusal_of}
use Rattle.fw_capture.specs.Reading.{header_at, record_at}
use Rattle.fw_capture.specs.Place.{Place}
use Rattle.fw_capture.specs.Steps.{NextGives}

-- the form of a capture that is written
abbrev pub written : Format
written = record { little = true; nano = true; link = link.Raw }

-- whatever follows the file header, it is read as that of this form
abbrev pub HeaderIsRead : Type 0
HeaderIsRead = (rest : List ℕ) → header_at (file_header ++ rest) ≡ Ok written

-- whatever follows the record of a packet that isn't refused, it is read as the packet at its time, and all of it is passed
abbrev pub PacketIsRead : Type 0
PacketIsRead = (nanoseconds : ℕ) (told : Told) (rest : List ℕ) → IsTold told → refusal_of nanoseconds told ≡ None
    → record_at written (packet_bytes nanoseconds told ++ rest) ≡ Ok (nanoseconds, told, length (packet_bytes nanoseconds told))

-- a packet that tells this, of this time and at this place
abbrev pub IsPacket : ℕ → Told → ℕ → Result (Option Packet) CaptureError → Type 0
IsPacket nanoseconds told offset (Ok (Some p)) = (p.nanoseconds ≡ nanoseconds) × (told_in p.content ≡ told) × (p.offset ≡ offset)
IsPacket nanoseconds told offset (Ok None) = ⊥
IsPacket nanoseconds told offset (Err e) = ⊥

-- so where a capture that is written goes on with such a record, the next packet of a reader there is that packet, and the reader goes on with
-- what follows the record
abbrev pub NextIsRead : Type 0
NextIsRead = (nanoseconds : ℕ) (told : Told) (rest : List ℕ) (old new : Place) (next : Result (Option Packet) CaptureError)
    → IsTold told → refusal_of nanoseconds told ≡ None → old.format ≡ written → old.rest ≡ packet_bytes nanoseconds told ++ rest → NextGives old new next
    → IsPacket nanoseconds told old.offset next × (new.format ≡ written) × (new.rest ≡ rest)
