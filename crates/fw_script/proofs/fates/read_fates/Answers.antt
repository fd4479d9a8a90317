use Rattle.fw_script.proofs.FateLetters.{letter_at}
use Rattle.fw_script.proofs.fates.read_fates.Goals as goal

pub returns-in-None-clause-bad_fates : goal.returns-in-None-clause-bad_fates
returns-in-None-clause-bad_fates c = λ _ spelled.
    let fate = letter_at c.args.letters.now c.loop-letter.letter-index c.loop-letter-test.true spelled in
    let found = (c.fate_of.ensures fate.0).1 fate.1 in
    cc (found, c.in-None.is)
