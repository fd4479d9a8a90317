use Rattle.fw_text.specs.Lines.{lines_of}
use Rattle.fw_keys.proofs.Steps.{meter_refused}
use Rattle.fw_keys.proofs.reading.read_meter_keys.Goals as goal

pub returns-clause-refused : goal.returns-clause-refused
returns-clause-refused c = λ number why e.
    meter_refused c.args.text.now c.in-Some.first.now c.in-Some-title_of.own (lines_of c.in-Some.others.now) number why c.in-Some.ensures.lines
    c.in-Some-title_of.ensures (c.read_links.ensures.refused number why e)
