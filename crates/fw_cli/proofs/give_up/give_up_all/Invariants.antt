use Rattle.std.proofs.Common.{take}
use Rattle.fw_book.specs.Contents.{Contents}
use Rattle.fw_kept.specs.Head.{Holds, head_of}
use Rattle.fw_cli.specs.GivingUp.{GivesUpAll}
use Rattle.fw_cli.proofs.give_up.give_up_all.Given as goal

-- those of the meters so far are given up, and wait for the next commit
abbrev pub invariant-loop-meter : goal.invariant-loop-meter
invariant-loop-meter g l = record {
  given : GivesUpAll (head_of l.fn.kept) (take l.meter-index l.meters) l.at l.given.rows.items l.given.lacking.items (head_of l.kept);
  waits : (synced : Contents) → Holds g.D.JournalDevice.honest g.D.JournalDevice.contents g.D.JournalDevice.may_leave l.fn.kept synced
      → Holds g.D.JournalDevice.honest g.D.JournalDevice.contents g.D.JournalDevice.may_leave l.kept synced;
}
