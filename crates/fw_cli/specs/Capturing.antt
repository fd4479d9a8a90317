-- Public vocabulary: what a command writes as the capture of a run, where it has a writer for it whose bytes are known.
use Rattle.std.specs.Prelude.{◌≡◌, ℕ, List, Option, Some, None}
use Rattle.std.specs.Io.KnownBytes.{Appends}
use Rattle.fw_world.specs.World.{Datagram}
use Rattle.fw_recording.specs.Recording.{capture_bytes, run_records}

-- If there is a writer, the capture of what was sent was appended to what it held.
abbrev pub CapturesIf : Option (Option (List ℕ)) → Option (Option (List ℕ)) → List Datagram → Type 0
CapturesIf None last sent = last ≡ None
CapturesIf (Some first) None sent = ⊥
CapturesIf (Some first) (Some last) sent = Appends first last (capture_bytes (run_records sent))
