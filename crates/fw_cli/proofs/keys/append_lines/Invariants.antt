use Rattle.std.proofs.Common.{◌≡◌, ◌++◌, take}
use Rattle.std.specs.Prelude.{string_bytes}
use Rattle.fw_cli.specs.Keying.{lines_of}
use Rattle.fw_cli.proofs.keys.append_lines.Given as goal

abbrev pub invariant-loop-file : goal.invariant-loop-file
invariant-loop-file l = string_bytes l.text ≡ string_bytes l.initial.text ++ lines_of l.folder (take l.file-index l.files)
