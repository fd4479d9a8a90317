use Rattle.std.proofs.Common.{◌≡◌, take}
use Rattle.fw_kept.specs.Head.{head_of}
use Rattle.fw_cli.specs.Cancelling.{cancelled_all}
use Rattle.fw_cli.specs.Telling.{TellsChanges}
use Rattle.fw_cli.proofs.beginning.cancel_each.Given as goal

-- those so far are cancelled, and just their lines were told
abbrev pub invariant-loop-serial : goal.invariant-loop-serial
invariant-loop-serial g l = record {
  cancelled : head_of l.kept ≡ cancelled_all (take l.serial-index l.serials) (head_of l.fn.kept);
  writer : l.lines.writer.ghost_name ≡ l.fn.lines.writer.ghost_name;
  told : TellsChanges (head_of l.fn.kept) (head_of l.kept) l.fn.lines.lost l.lines.lost (g.W.Write.contents l.fn.lines.writer.now)
      (g.W.Write.contents l.lines.writer.now);
}
