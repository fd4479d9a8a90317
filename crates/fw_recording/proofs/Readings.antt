-- What whole captures are read as.
use Rattle.std.proofs.Common.{◌≡◌, ℕ, List, [], ◌∷◌, length, drop, None, Ok, inl, refl, sym, ap, ◌∙◌}
use Rattle.std.proofs.Math.Seq.{drop-append_seam}
use Rattle.fw_capture.specs.declared.format.Format.{Format}
use Rattle.fw_capture.specs.Laws.{HeaderIsRead, PacketIsRead, written}
use Rattle.fw_capture.specs.Place.{Place}
use Rattle.fw_capture.specs.Reading.{record_at}
use Rattle.fw_capture.specs.Spelling.{file_header, packet_bytes}
use Rattle.fw_capture.specs.Steps.{after}
use Rattle.fw_capture.specs.View.{Told}
use Rattle.fw_recording.specs.Laws.{AllSpelled, WrittenIsHeld}
use Rattle.fw_recording.specs.Recording.{capture_bytes, records_bytes}
use Rattle.fw_recording.specs.Records.{HasRecords}

-- ---- what was written

recorded : PacketIsRead → (records : List (ℕ × Told)) (place : Place) → place.format ≡ written → place.rest ≡ records_bytes records → AllSpelled records
    → HasRecords place records None
recorded law [] place form rest all = rest
recorded law (r ∷ records) place form rest all =
    let bytes = packet_bytes r.0 r.1 in
    let later = records_bytes records in
    let read : record_at place.format place.rest ≡ Ok (r.0, r.1, length bytes) =
    ap (λ (f : Format). record_at f place.rest) form ∙ ap (λ (x : List ℕ). record_at written x) rest ∙ law r.0 r.1 later all.0 all.1 in
    let left : drop (length bytes) place.rest ≡ later = ap (λ (x : List ℕ). drop (length bytes) x) rest ∙ drop-append_seam bytes later in
    (length bytes, read, recorded law records (after (length bytes) place) form left all.2)

pub written_is_held : HeaderIsRead → PacketIsRead → WrittenIsHeld
written_is_held header law records all =
    let size : length file_header ≡ 24 = refl in
    let rest : drop 24 (capture_bytes records) ≡ records_bytes records =
    ap (λ (k : ℕ). drop k (capture_bytes records)) (sym size) ∙ drop-append_seam file_header (records_bytes records) in
    let place : Place = record { format = written; rest = drop 24 (capture_bytes records); offset = 24 } in
    inl (place, (header (records_bytes records), refl, refl), recorded law records place refl rest all)
