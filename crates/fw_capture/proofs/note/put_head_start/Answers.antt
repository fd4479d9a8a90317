-- The words, and then the number.
use Rattle.std.specs.Int.{w32, to_be_bytes}
use Rattle.fw_capture.specs.Spelling.{head_start_words}
use Rattle.fw_capture.proofs.Parts.{onto, words_onto}
use Rattle.fw_capture.proofs.note.put_head_start.Goals as goal

pub returns-clause-ok : goal.returns-clause-ok
returns-clause-ok c =
    onto c.args.out.now.items c.extend_from_slice.new.self.items c.extend_from_slice-2.new.self.items head_start_words c.to_be_bytes.result
    (to_be_bytes w32 c.args.head)
    (words_onto c.args.out.now.items c.extend_from_slice.new.self.items head_start_words c.head_start_words.result.now
    c.in_ok-extend_from_slice.ensures.items c.head_start_words.ensures)
    c.in_ok-extend_from_slice-2.ensures.items c.to_be_bytes.ensures
