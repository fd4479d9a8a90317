use Rattle.std.proofs.Common.{◌++◌, ◌∙◌, List, ℕ, ap}
use Rattle.fw_cli.specs.Keying.{lines_of}
use Rattle.fw_cli.proofs.Keyed.{lines_of_owners}
use Rattle.fw_cli.proofs.keys.text_of.Goals as goal

pub returns : goal.returns
returns c =
    c.in_ok-append_lines.ensures ∙ ap (λ (bytes : List ℕ). bytes ++ lines_of c.args.folder.now c.args.files.now) c.new-text.ensures.bytes
    ∙ lines_of_owners c.args.folder.now c.args.files.now
