use Rattle.std.proofs.Common.{◌+◌, arith, sym, subst}
use Rattle.fw_client.specs.State.{State}
use Rattle.fw_head.specs.Private.{AskedLately}
use Rattle.fw_head.proofs.FreeIds.{first_free, next_free, none_lately, one_later}
use Rattle.fw_head.proofs.asks.ask_two.Goals as goal

pub datagram-requires-clause-free : goal.datagram-requires-clause-free
datagram-requires-clause-free c = first_free c.args.client.now c.requires.idle

pub datagram-requires-2-clause-free : goal.datagram-requires-2-clause-free
datagram-requires-2-clause-free c =
    let P : State → Type 0 = λ s. AskedLately s (0 + 1) in
    next_free c.datagram.new.client (0 + 1) (omega arith)
    (subst P (sym c.in_ok-former.ensures.asked) (one_later c.args.client.now _ 0 (none_lately c.args.client.now 0 c.requires.idle)))
