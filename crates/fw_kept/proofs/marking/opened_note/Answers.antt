use Rattle.std.proofs.Common.{arith}
use Rattle.fw_kept.proofs.Books.{short_note}
use Rattle.fw_kept.proofs.marking.opened_note.Goals as goal

pub returns-clause-can : goal.returns-clause-can
returns-clause-can c = record { can = c.requires; short = omega (arith, short_note c.args.campaign c.args.note) }

pub returns-clause-small : goal.returns-clause-small
returns-clause-small c = omega (arith, short_note c.args.campaign c.args.note)
