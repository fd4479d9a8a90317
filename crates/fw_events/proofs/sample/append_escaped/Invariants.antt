use Rattle.std.proofs.Common.{◌≡◌, ◌++◌, flat_map}
use Rattle.std.specs.Prelude.{string_bytes}
use Rattle.fw_events.specs.Metrics.{escaped_char}
use Rattle.fw_events.proofs.sample.append_escaped.Given as goal

abbrev pub invariant-loop-character : goal.invariant-loop-character
invariant-loop-character l = string_bytes l.text ≡ string_bytes l.initial.text ++ flat_map escaped_char l.yielded
