use Rattle.std.proofs.Common.{◌≡◌, ◌<◌, length, slice_index_or, sym, ◌∙◌, arith}
use Rattle.std.proofs.lemmas.Bool.{false≢true}
use Rattle.fw_order.proofs.Sending.{exact_socket, same_socket}
use Rattle.fw_order.proofs.Steps.{read_as, unread}
use Rattle.fw_order.proofs.Sticking.{none_sends_all, none_sends_more, one_sends}
use Rattle.fw_order.proofs.stuck.is_sent.Goals.{else-eq-via-then-eq+else-sends, else-eq-via-else-eq}
use Rattle.fw_order.proofs.stuck.is_sent.Goals as goal

pub returns-then-sends-clause-some : goal.returns-then-sends-clause-some
returns-then-sends-clause-some c is =
    let logs = c.args.logs.now in
    let number = c.loop-number.number in
    let inside : number < length logs = omega (arith, c.loop-number-test.true) in
    let log = slice_index_or logs number unread in
    let own : log.at ≡ c.args.from = exact_socket log.at c.args.from (sym c.eq.ensures ∙ c.if-eq.true) in
    one_sends logs c.args.from c.args.to c.args.bytes.now number log inside (read_as logs number unread inside) own (c.sends.ensures.some c.if-sends.true)

pub loop-number-preserved : goal.loop-number-preserved
loop-number-preserved c =
    let logs = c.args.logs.now in
    let number = c.loop-number.number in
    let inside : number < length logs = omega (arith, c.loop-number-test.true) in
    let log = slice_index_or logs number unread in
    none_sends_more logs c.args.from c.args.to c.args.bytes.now number log inside (read_as logs number unread inside) c.loop-number.invariant
    (elim c.else-eq.branch [
      | else-eq-via-then-eq+else-sends w ↦ λ own. w.sends.ensures.none w.if-sends.false
      | else-eq-via-else-eq w ↦ λ own there. absurd (false≢true (sym w.if-eq.false ∙ c.eq.ensures ∙ same_socket log.at c.args.from own))
    ])

pub returns-clause-none : goal.returns-clause-none
returns-clause-none c is =
    none_sends_all c.args.logs.now c.args.from c.args.to c.args.bytes.now c.loop-number.number (omega (arith, c.loop-number-test.false)) c.loop-number.invariant
