use Rattle.std.proofs.Common.{length, refl, inl, arith}
use Rattle.fw_audit.specs.Log.{log_of}
use Rattle.fw_evidence.specs.Entries.{entries_of}
use Rattle.fw_evidence.proofs.Reading.{begins, faulty, goes_on, goes_within, is_log, no_next, none_left, rest_within, some_next, strays}
use Rattle.fw_evidence.proofs.log.read_log.Goals as goal

pub loop-number-init : goal.loop-number-init
loop-number-init c = record {
  read = begins c.args.site c.args.capture.now c.in-Ok.reader c.new-log.result.items.items c.new-log.result.marks.items c.in-Ok.ensures c.new-log.ensures.items c.new-log.ensures.marks;
  within = rest_within c.args.capture.now c.in-Ok.reader c.in-Ok.ensures;
}

pub loop-number-preserved : goal.loop-number-preserved
loop-number-preserved c =
    let old = c.loop-number.reader in
    let new = c.next.new.self in
    let packet = c.in-Ok-Some.packet in
    let gives = some_next old new c.in-Ok-Some.field-0 packet c.in-Ok-Some.field-0-is c.in-Ok-Some.ensures in
    record {
      read = goes_on c.args.site c.args.capture.now c.loop-number.number old new packet _ c.loop-number.log.items.items c.take.new.self.items.items
          c.loop-number.log.marks.items c.take.new.self.marks.items c.loop-number.invariant.read gives refl c.in-Ok-take.ensures.taken;
      within = goes_within c.loop-number.number (length c.args.capture.now) old new packet gives c.loop-number.invariant.within;
    }

pub returns-in-Err-clause-none : goal.returns-in-Err-clause-none
returns-in-Err-clause-none c = inl c.in-Err.ensures

pub returns-in-Ok-None-clause-log : goal.returns-in-Ok-None-clause-log
returns-in-Ok-None-clause-log c =
    is_log c.args.site c.args.capture.now c.loop-number.number c.loop-number.reader c.loop-number.log.items.items c.loop-number.log.marks.items c.loop-number.invariant.read
    (no_next c.loop-number.reader c.next.new.self c.in-Ok-None.field-0 c.in-Ok-None.field-0-is c.in-Ok-None.ensures)

pub returns-in-Err-next-clause-none : goal.returns-in-Err-next-clause-none
returns-in-Err-next-clause-none c =
    faulty c.args.site c.args.capture.now c.loop-number.number c.loop-number.reader c.next.new.self (entries_of (log_of c.loop-number.log.items.items)) c.loop-number.log.marks.items
    c.in-Err-next.error c.loop-number.invariant.read c.in-Err-next.ensures

pub returns-in-Err-take-clause-none : goal.returns-in-Err-take-clause-none
returns-in-Err-take-clause-none c =
    let old = c.loop-number.reader in
    let new = c.next.new.self in
    let packet = c.in-Ok-Some.packet in
    let gives = some_next old new c.in-Ok-Some.field-0 packet c.in-Ok-Some.field-0-is c.in-Ok-Some.ensures in
    strays c.args.site c.args.capture.now c.loop-number.number old new packet _ (entries_of (log_of c.loop-number.log.items.items)) c.loop-number.log.marks.items c.in-Err-take.error
    c.loop-number.invariant.read gives refl c.in-Err-take.ensures.stray

pub returns-clause-log : goal.returns-clause-log
returns-clause-log c =
    is_log c.args.site c.args.capture.now c.loop-number.number c.loop-number.reader c.loop-number.log.items.items c.loop-number.log.marks.items c.loop-number.invariant.read
    (none_left c.loop-number.number c.loop-number.reader.rest c.args.capture.now c.loop-number.invariant.within (omega arith))
