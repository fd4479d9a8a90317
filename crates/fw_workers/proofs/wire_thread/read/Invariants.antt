use Rattle.fw_workers.proofs.wire_thread.read.Given as goal

abbrev pub decreases-datagrams : goal.decreases-datagrams
decreases-datagrams g l = l.pass.left
