use Rattle.fw_aes.proofs.MaskFacts.{next_v_code}
use Rattle.fw_aes.proofs.ghash.next_v.Goals as goal

pub returns : goal.returns
returns c = next_v_code c.args.v c.wrapping_neg.result c.ranges.v.fits c.wrapping_neg.type_inv c.wrapping_neg.ensures
