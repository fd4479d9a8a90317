use Rattle.std.proofs.Common.{◌<◌, length, ◌∙◌, sym, arith}
use Rattle.std.proofs.lemmas.Grind.{common_steps}
use Rattle.fw_text.proofs.LineLemmas.{lines_cut, lines_whole}
use Rattle.fw_text.proofs.lines.first_line.Goals as goal

pub returns-in-Some-clause-lines : goal.returns-in-Some-clause-lines
returns-in-Some-clause-lines c = lines_cut c.args.text.now c.in-Some.end (sym c.line_end.ensures ∙ c.in-Some.is)

pub returns-in-None-clause-lines : goal.returns-in-None-clause-lines
returns-in-None-clause-lines c =
    let some : 0 < length c.args.text.now = grind (arith, common_steps) in
    lines_whole c.args.text.now some (sym c.line_end.ensures ∙ c.in-None.is)
