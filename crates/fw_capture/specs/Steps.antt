-- Public vocabulary: what the next packet of a capture is.
use Rattle.std.specs.Prelude.{◌≡◌, ◌≢◌, ℕ, ◌+◌, List, [], drop, Option, Some, None, Result, Ok, Err}
use Rattle.fw_capture.specs.declared.fault.CaptureError.{CaptureError}
use Rattle.fw_capture.specs.declared.packet.Packet.{Packet}
use Rattle.fw_capture.specs.Place.{Place}
use Rattle.fw_capture.specs.View.{told_in}
use Rattle.fw_capture.specs.Reading.{header_at, record_at}

-- the place after the file header, or what is wrong with the header
abbrev pub OpensAs : List ℕ → Result Place CaptureError → Type 0
OpensAs capture (Ok p) = (header_at capture ≡ Ok p.format) × (p.rest ≡ drop 24 capture) × (p.offset ≡ 24)
OpensAs capture (Err e) = (header_at capture ≡ Err e.fault) × (e.offset ≡ 0)

-- the place N bytes further on
abbrev pub after : ℕ → Place → Place
after size p = record { format = p.format; rest = drop size p.rest; offset = p.offset + size }

-- at the end of the capture, nothing; else the record there, which is passed; or what is wrong with it, and nothing is passed. At the end
-- nothing is wrong
abbrev pub NextGives : Place → Place → Result (Option Packet) CaptureError → Type 0
NextGives old new (Ok None) = (old.rest ≡ []) × (new ≡ old)
NextGives old new (Ok (Some p)) =
    (size : ℕ) × (record_at old.format old.rest ≡ Ok (p.nanoseconds, told_in p.content, size)) × (p.offset ≡ old.offset) × (new ≡ after size old)
NextGives old new (Err e) = (record_at old.format old.rest ≡ Err e.fault) × (e.offset ≡ old.offset) × (new ≡ old) × (old.rest ≢ [])
