use Rattle.std.proofs.Common.{arith}
use Rattle.fw_auditor.proofs.Keyed.{all_files, one_file_more}
use Rattle.fw_auditor.proofs.keys.keyed_heads.Goals as goal

pub loop-option-preserved : goal.loop-option-preserved
loop-option-preserved g c =
    one_file_more c.args.options.now c.loop-option.option-index c.option-item.result c.loop-option.heads.items c.push.new.self.items c.in_ok-head.head
    (omega (arith, c.loop-option-test.true)) c.option-item.is c.loop-option.invariant c.in_ok-head.ensures c.in-Ok.ensures.items

pub returns : goal.returns
returns g c = all_files c.args.options.now c.loop-option.option-index c.loop-option.heads.items (omega (arith, c.loop-option-test.false)) c.loop-option.invariant
