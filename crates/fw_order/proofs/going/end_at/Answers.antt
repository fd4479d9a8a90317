use Rattle.std.proofs.Common.{◌≡◌, ◌<◌, Some, length, slice_index_or, sym, ap, ◌∙◌, arith}
use Rattle.std.specs.declared.net.socket_addr.SocketAddr.{SocketAddr}
use Rattle.std.proofs.lemmas.Bool.{false≢true}
use Rattle.fw_order.proofs.Sending.{exact_socket, same_socket}
use Rattle.fw_order.proofs.Steps.{address_is, none_at_all, none_at_more, read_as, unread}
use Rattle.fw_order.proofs.going.end_at.Goals as goal

pub returns-then-eq-clause-some : goal.returns-then-eq-clause-some
returns-then-eq-clause-some c =
    let logs = c.args.left.now in
    let number = c.loop-number.number in
    let inside : number < length logs = omega (arith, c.loop-number-test.true) in
    let log = slice_index_or logs number unread in
    let own : log.at ≡ c.args.address = exact_socket log.at c.args.address (sym c.eq.ensures ∙ c.if-eq.true) in
    (number, address_is logs number log inside (read_as logs number unread inside) ∙ ap (λ (a : SocketAddr). Some a) own)

pub loop-number-preserved : goal.loop-number-preserved
loop-number-preserved c =
    let logs = c.args.left.now in
    let number = c.loop-number.number in
    let inside : number < length logs = omega (arith, c.loop-number-test.true) in
    let log = slice_index_or logs number unread in
    none_at_more logs c.args.address number log inside (read_as logs number unread inside) c.loop-number.invariant
    (λ (own : log.at ≡ c.args.address). false≢true (sym c.if-eq.false ∙ c.eq.ensures ∙ same_socket log.at c.args.address own))

pub returns-clause-none : goal.returns-clause-none
returns-clause-none c = none_at_all c.args.left.now c.args.address c.loop-number.number (omega (arith, c.loop-number-test.false)) c.loop-number.invariant
