use Rattle.fw_host.proofs.metrics_file.PageKind.is_ours.Goals as goal

pub returns : goal.returns
returns c = λ bytes is_front is_len. c.begins_as.ensures bytes is_front
