use Rattle.std.proofs.Common.{refl}
use Rattle.fw_aes.specs.Aes.{next_key}
use Rattle.fw_aes.proofs.key_expansion.next_key.Goals as goal

pub returns : goal.returns
unfolding next_key
returns c = rw (c.later_word-d.ensures, c.later_word-c.ensures, c.later_word-b.ensures, c.first_word-a.ensures) refl
