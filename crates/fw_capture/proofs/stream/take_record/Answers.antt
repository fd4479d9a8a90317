use Rattle.std.proofs.Common.{◌≡◌, ◌+◌, ◌<◌, ◌≤◌, ℕ, List, length, ap, sym, ◌∙◌, arith}
use Rattle.fw_capture.specs.Reading.{size_at}
use Rattle.fw_capture.proofs.Streaming.{on_record, part_taken, too_long}
use Rattle.fw_capture.proofs.stream.take_record.Goals as goal

pub returns-then-header-lt-RECORD_HEADER_SIZE-clause-record : goal.returns-then-header-lt-RECORD_HEADER_SIZE-clause-record
returns-then-header-lt-RECORD_HEADER_SIZE-clause-record g c =
    let same : length c.as_slice-header.result.now ≡ length c.fill_up.new.bytes.items = ap length c.as_slice-header.ensures.value in
    part_taken c.args.format _ _ c.clear.new.self.items c.fill_up.new.bytes.items c.clear.ensures.items c.in_ok-fill_up.ensures.fills
    (omega (arith, same, c.if-header-lt-RECORD_HEADER_SIZE.true))

pub returns-then-size-gt-MAX_RECORD-clause-too_long : goal.returns-then-size-gt-MAX_RECORD-clause-too_long
returns-then-size-gt-MAX_RECORD-clause-too_long g c = λ rest is found.
    let same : length c.as_slice-header.result.now ≡ length c.fill_up.new.bytes.items = ap length c.as_slice-header.ensures.value in
    let size : c.number_at.result ≡ size_at c.args.format c.fill_up.new.bytes.items =
    c.number_at.ensures ∙ ap (λ (x : List ℕ). size_at c.args.format x) c.as_slice-header.ensures.value in
    too_long c.args.format _ _ c.clear.new.self.items c.fill_up.new.bytes.items rest (16 + c.number_at.result) c.clear.ensures.items c.in_ok-fill_up.ensures.fills
    (omega (arith, same, c.if-header-lt-RECORD_HEADER_SIZE.false)) (omega (arith, size)) (omega (arith, c.if-size-gt-MAX_RECORD.true)) is

pub returns-clause-record : goal.returns-clause-record
returns-clause-record g c =
    let same : length c.as_slice-header.result.now ≡ length c.fill_up.new.bytes.items = ap length c.as_slice-header.ensures.value in
    let size : c.number_at.result ≡ size_at c.args.format c.fill_up.new.bytes.items =
    c.number_at.ensures ∙ ap (λ (x : List ℕ). size_at c.args.format x) c.as_slice-header.ensures.value in
    on_record c.fill_up-2.result c.args.format _ _ _ c.clear.new.self.items c.fill_up.new.bytes.items c.fill_up-2.new.bytes.items (16 + c.number_at.result)
    c.clear.ensures.items c.in_ok-fill_up.ensures.fills (omega (arith, same, c.if-header-lt-RECORD_HEADER_SIZE.false)) (omega (arith, size)) c.fill_up-2.ensures.fills
