use Rattle.fw_aes.proofs.RoundFacts.{x_times_from}
use Rattle.fw_aes.proofs.rounds.x_times.Goals as goal

pub returns : goal.returns
returns c = x_times_from c.args.bytes 16 c.fits-bytes.0 c.fits-bytes.1
