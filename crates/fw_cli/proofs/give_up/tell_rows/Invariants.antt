use Rattle.std.proofs.Common.{◌≡◌, take}
use Rattle.fw_host.specs.Telling.{Told, lines_of_rows}
use Rattle.fw_cli.proofs.give_up.tell_rows.Given as goal

-- just the lines of the rows so far were told
abbrev pub invariant-loop-row : goal.invariant-loop-row
invariant-loop-row g l = record {
  writer : l.lines.writer.ghost_name ≡ l.fn.lines.writer.ghost_name;
  told : Told (lines_of_rows (take l.row-index l.rows)) l.fn.lines.lost l.lines.lost (g.W.Write.contents l.fn.lines.writer.now)
      (g.W.Write.contents l.lines.writer.now);
}
