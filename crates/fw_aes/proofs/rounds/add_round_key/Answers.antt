use Rattle.fw_aes.proofs.RoundFacts.{xor_blocks}
use Rattle.fw_aes.proofs.rounds.add_round_key.Goals as goal

pub returns : goal.returns
returns c = xor_blocks c.args.state c.args.key c.fits-state c.fits-key
