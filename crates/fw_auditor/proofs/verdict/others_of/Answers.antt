use Rattle.std.proofs.Common.{◌∙◌, ◌++◌, List, Option, ap, arith}
use Rattle.std.specs.Prelude.{option_to_list}
use Rattle.std.specs.declared.net.socket_addr.SocketAddr.{SocketAddr}
use Rattle.std.specs.List.{filter_map}
use Rattle.std.proofs.lemmas.List.{take_all}
use Rattle.fw_auditor.specs.Private.{beside}
use Rattle.fw_auditor.specs.declared.list.Subject.{Subject}
use Rattle.fw_auditor.proofs.Fitted.{more_others}
use Rattle.fw_auditor.proofs.verdict.others_of.Goals as goal

pub loop-other-preserved : goal.loop-other-preserved
loop-other-preserved c =
    more_others c.args.subject.now c.args.subjects.now c.loop-other.other-index c.other-item.result c.loop-other.others.items c.add.new.others.items
    (omega (arith, c.loop-other-test.true)) c.other-item.is c.loop-other.invariant
    (c.in_ok-add.ensures ∙ ap (λ (o : Option SocketAddr). c.loop-other.others.items ++ option_to_list o) c.beside.ensures)

pub returns : goal.returns
returns c =
    c.loop-other.invariant ∙ ap (λ (l : List Subject). filter_map (beside c.args.subject.now) l)
    (take_all c.loop-other.other-index c.args.subjects.now (omega (arith, c.loop-other-test.false)))
