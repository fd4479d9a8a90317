use Rattle.fw_cli.proofs.head.lead.Goals as goal

pub returns-in-Err-clause-asked : goal.returns-in-Err-clause-asked
returns-in-Err-clause-asked g c = c.in-Err.ensures c.args.options.now.sealing
