use Rattle.std.proofs.Common.{◌≡◌, take}
use Rattle.fw_kept.specs.Head.{head_of}
use Rattle.fw_cli.specs.Beginning.{opened_all}
use Rattle.fw_cli.specs.Telling.{TellsChanges}
use Rattle.fw_cli.proofs.beginning.open_parts.Given as goal

-- those so far are open, and just their lines were told
abbrev pub invariant-loop-part : goal.invariant-loop-part
invariant-loop-part g l = record {
  opened : head_of l.kept ≡ opened_all l.release l.image (take l.part-index l.parts) (head_of l.fn.kept);
  writer : l.lines.writer.ghost_name ≡ l.fn.lines.writer.ghost_name;
  told : TellsChanges (head_of l.fn.kept) (head_of l.kept) l.fn.lines.lost l.lines.lost (g.W.Write.contents l.fn.lines.writer.now)
      (g.W.Write.contents l.lines.writer.now);
}
