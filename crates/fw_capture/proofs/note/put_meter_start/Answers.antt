-- The words, the count, and then how many addresses there are.
use Rattle.std.proofs.Common.{◌++◌}
use Rattle.std.specs.Int.{w32, w64, to_be_bytes}
use Rattle.fw_capture.specs.Spelling.{meter_start_words}
use Rattle.fw_capture.proofs.Parts.{onto, words_onto}
use Rattle.fw_capture.proofs.note.put_meter_start.Goals as goal

pub returns-clause-ok : goal.returns-clause-ok
returns-clause-ok c =
    onto c.args.out.now.items c.extend_from_slice-2.new.self.items c.extend_from_slice-3.new.self.items
    (meter_start_words ++ to_be_bytes w32 c.args.count) c.to_be_bytes-2.result (to_be_bytes w64 c.args.heads)
    (onto c.args.out.now.items c.extend_from_slice.new.self.items c.extend_from_slice-2.new.self.items meter_start_words c.to_be_bytes.result
    (to_be_bytes w32 c.args.count)
    (words_onto c.args.out.now.items c.extend_from_slice.new.self.items meter_start_words c.meter_start_words.result.now
    c.in_ok-extend_from_slice.ensures.items c.meter_start_words.ensures)
    c.in_ok-extend_from_slice-2.ensures.items c.to_be_bytes.ensures)
    c.in_ok-extend_from_slice-3.ensures.items c.to_be_bytes-2.ensures
