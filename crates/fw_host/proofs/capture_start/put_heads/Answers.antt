use Rattle.std.proofs.Common.{List, map, subst, arith}
use Rattle.std.specs.declared.net.socket_addr.SocketAddr.{SocketAddr}
use Rattle.std.proofs.lemmas.List.{take_all}
use Rattle.fw_capture.specs.View.{note}
use Rattle.fw_host.specs.Captures.{PutsAll, asking_told}
use Rattle.fw_host.proofs.Starts.{heads_more}
use Rattle.fw_host.proofs.capture_start.put_heads.Goals as goal

pub loop-head-preserved : goal.loop-head-preserved
loop-head-preserved g c =
    heads_more g.S.Sink.takes c.args.nanoseconds c.args.sink.now c.loop-head.sink c.put_record.new.sink c.args.heads.now c.loop-head.head-index _
    (note c.asking-note.result) (omega (arith, c.loop-head-test.true)) c.asking-note.ensures c.loop-head.invariant c.in_ok-put_record.ensures.written

pub returns-clause-put : goal.returns-clause-put
returns-clause-put g c =
    subst (λ (l : List SocketAddr). PutsAll g.S.Sink.takes c.args.nanoseconds c.args.sink.now c.loop-head.sink (map asking_told l))
    (take_all c.loop-head.head-index c.args.heads.now (omega (arith, c.loop-head-test.false))) c.loop-head.invariant
