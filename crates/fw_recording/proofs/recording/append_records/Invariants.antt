use Rattle.fw_recording.proofs.Records.{SoFar}
use Rattle.fw_recording.proofs.recording.append_records.Given as goal

abbrev pub invariant-records : goal.invariant-records
invariant-records l = SoFar l.sent l.number l.initial.capture.items l.capture.items
