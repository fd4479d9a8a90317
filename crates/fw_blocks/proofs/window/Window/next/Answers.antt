use Rattle.fw_blocks.proofs.WindowLemmas.{window-increases, window-absent, window-lowest}
use Rattle.fw_blocks.proofs.window.Window.next.Goals as goal

pub returns-clause-ascending : goal.returns-clause-ascending
returns-clause-ascending c =
    rw (c.lowest_absent.ensures, c.from.ensures, c.number.ensures.value)
    (window-increases c.args.set.now c.args.width)

pub returns-clause-absent : goal.returns-clause-absent
returns-clause-absent c =
    rw (c.lowest_absent.ensures, c.from.ensures, c.number.ensures.value)
    (window-absent c.args.set.now c.args.width)

pub returns-clause-lowest : goal.returns-clause-lowest
returns-clause-lowest c =
    rw (c.lowest_absent.ensures, c.from.ensures, c.number.ensures.value)
    (window-lowest c.args.set.now c.args.width)
