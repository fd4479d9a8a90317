use Rattle.std.proofs.Common.{rules}
use Rattle.fw_script.proofs.FateLetters.{spells, all_letters}
use Rattle.fw_script.proofs.fates.are_fates.Goals as goal

pub returns-then-contains : goal.returns-then-contains
returns-then-contains c = (
  λ all. spells c.args.letters.now (search rules) (search rules) (cc (all, c.are_letters.ensures)),
  λ spelled. cc (all_letters c.args.letters.now spelled, c.are_letters.ensures),
)
