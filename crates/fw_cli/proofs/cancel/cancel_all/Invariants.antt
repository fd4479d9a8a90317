use Rattle.std.proofs.Common.{◌≡◌, drop}
use Rattle.fw_kept.specs.Head.{head_of}
use Rattle.fw_cli.specs.Cancelling.{Cancels}
use Rattle.fw_cli.proofs.cancel.cancel_all.Given as goal

-- those so far are cancelled, and just their lines were told
abbrev pub invariant-loop-serial : goal.invariant-loop-serial
invariant-loop-serial g l = record {
  cancels : Cancels l.serials (drop l.serial-index l.serials) (head_of l.fn.kept) (head_of l.kept) l.fn.lines.lost l.lines.lost
      (g.W.Write.contents l.fn.lines.writer.now) (g.W.Write.contents l.lines.writer.now);
  writer : l.lines.writer.ghost_name ≡ l.fn.lines.writer.ghost_name;
}
