use Rattle.std.proofs.Common.{◌≡◌, ◌+◌, ◌-◌, ◌<◌, ◌≤◌, length, slice_index_or, ap, arith}
use Rattle.fw_audit.specs.Log.{item_of}
use Rattle.fw_order.specs.Order.{ends_of, log_at}
use Rattle.fw_order.specs.Private.{far}
use Rattle.fw_order.proofs.Steps.{read_as, unread}
use Rattle.fw_order.proofs.Sticking.{came_only, left_empty, log_size, longer, tells_at, tells_none}
use Rattle.fw_order.proofs.stuck.departure_of.Goals as goal

pub overflow_sub-result : goal.overflow_sub-result
overflow_sub-result c =
    let logs = c.args.logs.now in
    let left = c.args.left.now in
    let number = c.args.number in
    let inside : number < length left = c.if-left-number.false in
    longer logs (far left c.args.sent.now) number (slice_index_or logs number unread) (slice_index_or left number unread) c.requires.gone c.requires.within
    (read_as logs number unread c.requires.within) inside (read_as left number unread inside)

pub unreachable-requires : goal.unreachable-requires
unreachable-requires c =
    let logs = c.args.logs.now in
    let left = c.args.left.now in
    let number = c.args.number in
    let inside : number < length left = c.if-left-number.false in
    tells_none logs (far left c.args.sent.now) number (slice_index_or left number unread) c.in-Some.item.now c.in-Some.field-0-1.now c.requires.gone c.requires.stuck inside
    (read_as left number unread inside) c.in-Some.ensures.cases.0 (came_only c.in-Some.item.now c.in_default.not-Came)

pub returns-in-Came-clause-some : goal.returns-in-Came-clause-some
returns-in-Came-clause-some c =
    let logs = c.args.logs.now in
    let left = c.args.left.now in
    let number = c.args.number in
    let inside : number < length left = c.if-left-number.false in
    let whole = slice_index_or logs number unread in
    let log = slice_index_or left number unread in
    let less : length log.items.now ≤ length whole.items.now =
    longer logs (far left c.args.sent.now) number whole log c.requires.gone c.requires.within (read_as logs number unread c.requires.within) inside
    (read_as left number unread inside) in
    let size : length (log_at (ends_of logs) number) ≡ length whole.items.now = log_size logs number whole c.requires.within (read_as logs number unread c.requires.within) in
    let place = length whole.items.now - length log.items.now in
    let sizes : length (log_at (ends_of logs) number) ≡ place + length log.items.now = omega (arith, size, less) in
    tells_at logs (far left c.args.sent.now) number place log c.in-Some.item.now c.in-Some.field-0-1.now c.in-Came.from c.in-Came.bytes.now c.rule.result c.requires.gone
    c.requires.stuck inside (read_as left number unread inside) c.in-Some.ensures.cases.0 (ap item_of c.in-Came.is) sizes c.rule.ensures

pub returns-in-None-clause-none : goal.returns-in-None-clause-none
returns-in-None-clause-none c =
    let left = c.args.left.now in
    let number = c.args.number in
    let inside : number < length left = c.if-left-number.false in
    left_empty (far left c.args.sent.now) number (slice_index_or left number unread) inside (read_as left number unread inside) c.in-None.ensures.cases
