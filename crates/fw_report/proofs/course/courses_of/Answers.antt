use Rattle.std.proofs.Common.{◌<◌, ◌-◌, ◌^◌, length, arith}
use Rattle.fw_report.proofs.Courses.{one_more}
use Rattle.fw_report.proofs.course.courses_of.Goals as goal

pub loop-at-preserved : goal.loop-at-preserved
loop-at-preserved c =
    let events = c.args.events.now in
    let at = c.loop-at.at in
    let event = c.index-events-at.result in
    let inside : at < length events = omega (arith, c.loop-at-test.true) in
    let low : at < 2 ^ 64 - 1 = omega (arith, c.loop-at-test.true) in
    one_more events at c.args.count _ event c.loop-at.courses.items c.note_event-highest.new.courses.items c.loop-at.highest c.note_event-highest.result inside low c.index-events-at.is c.loop-at.invariant c.note_event-highest.ensures.noted c.note_event-highest.ensures.highest
