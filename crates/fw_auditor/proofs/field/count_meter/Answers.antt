use Rattle.fw_auditor.proofs.field.count_meter.Goals as goal

pub returns : goal.returns
returns g c = record {
  capture = c.in-Some.capture.now;
  verdict = c.in_ok-verdict.verdict;
  found = c.in_ok-verdict.ensures;
  counts = c.in_ok-count.ensures;
}
