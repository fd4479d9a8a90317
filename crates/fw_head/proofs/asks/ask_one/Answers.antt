use Rattle.fw_head.proofs.FreeIds.{first_free}
use Rattle.fw_head.proofs.asks.ask_one.Goals as goal

pub datagram-requires-clause-free : goal.datagram-requires-clause-free
datagram-requires-clause-free c = first_free c.args.client.now c.requires.idle
