use Rattle.std.proofs.Common.{◌≡◌, ◌++◌, take, flat_map}
use Rattle.fw_world.specs.declared.setup.HeadSetup.{HeadSetup}
use Rattle.fw_report.specs.Summary.{rows_of_head}
use Rattle.fw_report.proofs.summary.push_heads.Given as goal

abbrev pub invariant-loop-head : goal.invariant-loop-head
invariant-loop-head l = l.rows.items ≡ l.initial.rows.items ++ flat_map (λ (head : HeadSetup). rows_of_head l.world head) (take l.head-index l.heads)
