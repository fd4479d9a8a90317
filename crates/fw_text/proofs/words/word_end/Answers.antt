use Rattle.std.proofs.Common.{eqb}
use Rattle.fw_text.proofs.WordLemmas.{place_or_length}
use Rattle.fw_text.proofs.words.word_end.Goals as goal

pub returns : goal.returns
returns c = let place = place_or_length (λ byte. eqb byte 32) c.args.text.now in cc
