use Rattle.std.proofs.Common.{◌≡◌, length, ap, subst, refl, ◌∙◌, arith}
use Rattle.std.specs.Prelude.{IsTrue}
use Rattle.std.proofs.KnownBytes.{Keeps-refl}
use Rattle.std.proofs.lemmas.Result.{err_from_is_err_and}
use Rattle.fw_capture.specs.View.{told_in}
use Rattle.fw_capture.proofs.Wholeness.{sized}
use Rattle.fw_dissect.proofs.Flow.{begins, breaks_off, counts, ends, first_told, goes_on, long_next, none_next}
use Rattle.fw_dissect.proofs.Taken.{fault_at, no_plain_of_reader, none_at, read_at}
use Rattle.fw_dissect.proofs.dissection.tell_records.Goals as goal

pub records-init : goal.records-init
records-init g c = record { counted = omega arith; present = refl; so_far = begins c.args.times c.args.links.now c.args.format _ _ _ }

pub packet_of-requires : goal.packet_of-requires
packet_of-requires g c =
    let same : length c.deref.result.now ≡ length c.take.new.bytes.items = ap length c.deref.ensures.value in
    omega (arith, same, c.in_ok-end.ensures.end)

pub tell-requires : goal.tell-requires
tell-requires g c = omega (arith, c.records.invariant.counted, c.in_ok-end.ensures.end)

pub records-smaller : goal.records-smaller
records-smaller g c =
    let packet = c.in-Ok-Some.packet in
    let read = read_at c.args.format c.records.offset c.deref.result.now c.take.new.bytes.items c.deref.ensures.value c.in-Ok-Some.field-0 packet c.in-Ok-Some.field-0-is
    c.in-Ok-Some.ensures in
    let some = sized c.args.format c.take.new.bytes.items (packet.nanoseconds, told_in packet.content, read.0) read.1 in
    omega (arith, some.1, c.in_ok-end.ensures.end)

pub records-preserved : goal.records-preserved
records-preserved g c =
    let packet = c.in-Ok-Some.packet in
    let told = told_in packet.content in
    let read = read_at c.args.format c.records.offset c.deref.result.now c.take.new.bytes.items c.deref.ensures.value c.in-Ok-Some.field-0 packet c.in-Ok-Some.field-0-is
    c.in-Ok-Some.ensures in
    let some = sized c.args.format c.take.new.bytes.items (packet.nanoseconds, told, read.0) read.1 in
    let end = c.in_ok-end.ensures.end in
    let tells = c.in_ok-number-in-Ok-Some.ensures in
    record {
      counted = omega (arith, some.1, end, counts c.records.number told, tells.number, c.records.invariant.counted);
      present = tells.present ∙ c.records.invariant.present;
      so_far = goes_on _ _ _ _ _ _ _ _ _ _ _ c.records.invariant.so_far _ _ c.in_ok-end.ensures.record packet.nanoseconds read.0 _ _ told tells.line.0 _ _
          read.1 end tells.number tells.line.1 tells.line.2 tells.put;
    }

pub returns-in-Ok-None-clause-tells : goal.returns-in-Ok-None-clause-tells
returns-in-Ok-None-clause-tells g c =
    ends _ _ _ _ _ _ _ _ _ _ _ c.records.invariant.so_far _ _ c.in_ok-end.ensures.record
    (none_at c.args.format c.records.offset c.deref.result.now c.take.new.bytes.items c.deref.ensures.value c.in-Ok-None.field-0 c.in-Ok-None.field-0-is c.in-Ok-None.ensures)

pub returns-in-Err-clause-tells : goal.returns-in-Err-clause-tells
returns-in-Err-clause-tells g c =
    breaks_off _ _ _ _ _ _ _ _ _ _ _ c.records.invariant.so_far _ _ c.in_ok-end.ensures.record c.in-Err.error
    (fault_at c.args.format c.records.offset c.deref.result.now c.take.new.bytes.items c.deref.ensures.value c.in-Err.error c.in-Err.ensures)

-- ---- where the reader fails

pub returns-in_err-end-clause-front : goal.returns-in_err-end-clause-front
returns-in_err-end-clause-front g c =
    let p = err_from_is_err_and c.from_residual.result c.from_residual.ensures.1 in
    rw p.1 (λ other. first_told _ _ _ _ _ _ _ _ _ _ _ c.records.invariant.so_far _ (Keeps-refl (g.W.Write.contents c.records.writer)))

pub returns-in_err-end-clause-cause : goal.returns-in_err-end-clause-cause
returns-in_err-end-clause-cause g c = λ rest is.
    let p = err_from_is_err_and c.from_residual.result c.from_residual.ensures.1 in
    rw (p.1, p.2) (long_next _ _ _ _ _ _ _ _ _ _ _ c.records.invariant.so_far rest is c.in_err-end.field-0.0 c.in_err-end.ensures.faults c.in_err-end.ensures.long)

pub returns-in_err-end-clause-asked : goal.returns-in_err-end-clause-asked
returns-in_err-end-clause-asked g c =
    let p = err_from_is_err_and c.from_residual.result c.from_residual.ensures.1 in
    rw (p.1, p.2) (λ kind. no_plain_of_reader c.in_err-end.field-0.0 c.in_err-end.ensures.faults kind)

-- ---- where a record isn't told or put

pub returns-in_err-number-in-Ok-Some-clause-front : goal.returns-in_err-number-in-Ok-Some-clause-front
returns-in_err-number-in-Ok-Some-clause-front g c =
    let p = err_from_is_err_and c.from_residual-in_err-number-in-Ok-Some.result c.from_residual-in_err-number-in-Ok-Some.ensures.1 in
    rw (p.1, p.2) (λ other. first_told _ _ _ _ _ _ _ _ _ _ _ c.records.invariant.so_far _ (c.in_err-number-in-Ok-Some.ensures.kept other))

pub returns-in_err-number-in-Ok-Some-clause-cause : goal.returns-in_err-number-in-Ok-Some-clause-cause
returns-in_err-number-in-Ok-Some-clause-cause g c = λ rest is.
    let p = err_from_is_err_and c.from_residual-in_err-number-in-Ok-Some.result c.from_residual-in_err-number-in-Ok-Some.ensures.1 in
    let packet = c.in-Ok-Some.packet in
    let read = read_at c.args.format c.records.offset c.deref.result.now c.take.new.bytes.items c.deref.ensures.value c.in-Ok-Some.field-0 packet c.in-Ok-Some.field-0-is
    c.in-Ok-Some.ensures in
    rw (p.1, p.2) (none_next _ _ _ _ _ _ _ _ _ _ _ c.records.invariant.so_far _ _ c.in_ok-end.ensures.record packet.nanoseconds read.0 (told_in packet.content) read.1 rest is
    c.in_err-number-in-Ok-Some.field-0.0 c.in_err-number-in-Ok-Some.ensures.none)

pub returns-in_err-number-in-Ok-Some-clause-asked : goal.returns-in_err-number-in-Ok-Some-clause-asked
returns-in_err-number-in-Ok-Some-clause-asked g c =
    let p = err_from_is_err_and c.from_residual-in_err-number-in-Ok-Some.result c.from_residual-in_err-number-in-Ok-Some.ensures.1 in
    rw (p.1, p.2) (λ kind. subst IsTrue c.records.invariant.present (c.in_err-number-in-Ok-Some.ensures.asked kind))
