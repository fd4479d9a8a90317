use Rattle.std.proofs.Common.{◌<◌, length, slice_index_or}
use Rattle.fw_order.specs.Private.{far}
use Rattle.fw_order.proofs.Steps.{ended_is, read_as, ready_is, unread, waiting_is}
use Rattle.fw_order.proofs.going.is_ready.Goals as goal

pub returns-in-Some-clause-some : goal.returns-in-Some-clause-some
returns-in-Some-clause-some c is =
    let left = c.args.left.now in
    let inside : c.args.number < length left = c.if-left-number.false in
    ready_is (far left c.args.sent.now) c.args.number (slice_index_or left c.args.number unread) c.in-Some.item.now c.in-Some.field-0-1.now inside
    (read_as left c.args.number unread inside) c.in-Some.ensures.cases.0 (c.may_come.ensures.some is)

pub returns-in-Some-clause-none : goal.returns-in-Some-clause-none
returns-in-Some-clause-none c is =
    let left = c.args.left.now in
    let inside : c.args.number < length left = c.if-left-number.false in
    waiting_is (far left c.args.sent.now) c.args.number (slice_index_or left c.args.number unread) c.in-Some.item.now c.in-Some.field-0-1.now inside
    (read_as left c.args.number unread inside) c.in-Some.ensures.cases.0 (c.may_come.ensures.none is)

pub returns-in-None-clause-none : goal.returns-in-None-clause-none
returns-in-None-clause-none c is =
    let left = c.args.left.now in
    let inside : c.args.number < length left = c.if-left-number.false in
    ended_is (far left c.args.sent.now) c.args.number (slice_index_or left c.args.number unread) inside (read_as left c.args.number unread inside) c.in-None.ensures.cases
