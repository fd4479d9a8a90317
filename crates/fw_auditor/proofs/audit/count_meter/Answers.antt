use Rattle.fw_auditor.proofs.audit.count_meter.Goals as goal

pub returns : goal.returns
returns g c = record {
  capture = c.deref-2.result.now;
  verdict = c.in_ok-verdict.verdict;
  found = c.in_ok-verdict.ensures;
  counts = c.in_ok-count.ensures;
}
