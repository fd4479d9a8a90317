use Rattle.std.proofs.Common.{◌≡◌, ◌++◌, take, flat_map}
use Rattle.std.specs.Prelude.{string_bytes}
use Rattle.fw_world.specs.declared.setup.HeadSetup.{HeadSetup}
use Rattle.fw_report.specs.Report.{head_lines}
use Rattle.fw_report.proofs.report.append_heads.Given as goal

abbrev pub invariant-loop-head : goal.invariant-loop-head
invariant-loop-head l = string_bytes l.text ≡ string_bytes l.initial.text ++ flat_map (λ (head : HeadSetup). head_lines l.world head) (take l.head-index l.heads)
