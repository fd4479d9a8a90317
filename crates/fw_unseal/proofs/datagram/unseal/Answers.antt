use Rattle.std.proofs.Common.{◌≤◌, ℕ, List, length, sym, subst}
use Rattle.fw_wrapper.specs.Wrapper.{max_apdu}
use Rattle.fw_unseal.proofs.Opened.{opened_is_short, opens_not}
use Rattle.fw_unseal.proofs.datagram.unseal.Goals as goal

pub returns-in_default-2 : goal.returns-in_default-2
returns-in_default-2 c =
    let frame = c.in-Ok.frame in
    opens_not c.args.links.now c.args.wire.now frame.apdu.now frame.source frame.dest c.in-Ok.ensures.found (λ source dest other wraps. (c.in-Ok.ensures.unique source dest other wraps).2)
    (rw c.in_default-2.is at c.in_ok-opened.ensures)

pub joined-requires : goal.joined-requires
joined-requires c =
    let frame = c.in-Ok.frame in
    let opened = rw c.in-Some.is at c.in_ok-opened.ensures in
    subst (λ (apdu : List ℕ). length apdu ≤ max_apdu) (sym c.deref.ensures.value)
    (opened_is_short c.args.links.now c.args.wire.now frame.apdu.now frame.source frame.dest c.in-Ok.ensures.found c.in-Some.opened.counter c.in-Some.opened.apdu.items opened)
