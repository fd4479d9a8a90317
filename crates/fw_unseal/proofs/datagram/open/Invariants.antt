use Rattle.std.proofs.Common.{All, take}
use Rattle.fw_seal.specs.Sealing.{Ends, NoSealing}
use Rattle.fw_unseal.proofs.datagram.open.Given as goal

-- none so far opens it
abbrev pub invariant-loop-link : goal.invariant-loop-link
invariant-loop-link l = All (λ (ends : Ends). NoSealing ends.keys ends.other l.sealing) (take l.link-index l.links)
