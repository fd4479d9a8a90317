use Rattle.std.proofs.Common.{arith}
use Rattle.std.proofs.lemmas.List.Elements.{All-nil}
use Rattle.fw_keys.specs.Links.{HasNoEnd}
use Rattle.fw_auditor.specs.declared.keys.KeyedHead.{KeyedHead}
use Rattle.fw_auditor.proofs.Keyed.{no_link, none_more, some_link}
use Rattle.fw_auditor.proofs.keys.has_link.Goals as goal

pub loop-head-init : goal.loop-head-init
loop-head-init c = All-nil (λ (h : KeyedHead). HasNoEnd h.file.entries c.args.meter)

pub loop-head-preserved : goal.loop-head-preserved
loop-head-preserved c =
    none_more c.args.heads.now c.loop-head.head-index c.head-item.result c.args.meter (omega (arith, c.loop-head-test.true)) c.head-item.is c.loop-head.invariant
    c.in-None.ensures

pub returns-in-Some-clause-some : goal.returns-in-Some-clause-some
returns-in-Some-clause-some c is none =
    let found = c.in-Some.ensures in
    some_link c.args.heads.now c.loop-head.head-index c.head-item.result c.args.meter found.0 (omega (arith, c.loop-head-test.true)) c.head-item.is found.1 found.2 none

pub returns-clause-none : goal.returns-clause-none
returns-clause-none c none = no_link c.args.heads.now c.loop-head.head-index c.args.meter (omega (arith, c.loop-head-test.false)) c.loop-head.invariant
