use Rattle.std.proofs.Common.{◌≡◌, take, flat_map}
use Rattle.std.specs.Prelude.{string_bytes}
use Rattle.fw_host.specs.Meters.{listening_line}
use Rattle.fw_cli.specs.declared.fleet.Member.{Member}
use Rattle.fw_cli.proofs.fleet.listening_lines.Given as goal

abbrev pub invariant-loop-member : goal.invariant-loop-member
invariant-loop-member l = string_bytes l.lines ≡ flat_map (λ (member : Member). listening_line member.at) (take l.member-index l.members)
