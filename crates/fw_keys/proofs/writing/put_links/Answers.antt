use Rattle.std.proofs.Common.{◌<◌, ◌++◌, List, ℕ, length, ap, ◌∙◌, arith}
use Rattle.fw_keys.specs.Private.{IsWritten}
use Rattle.fw_keys.specs.Writing.{ReadsBack, link_line}
use Rattle.fw_keys.proofs.Listed.{all_more}
use Rattle.fw_keys.proofs.Written.{lines_more}
use Rattle.fw_keys.proofs.writing.put_links.Goals as goal

pub loop-entry-preserved : goal.loop-entry-preserved
loop-entry-preserved g c =
    let n = g.N.EndName in
    let i = c.loop-entry.entry-index in
    let entry = c.entry-item.result in
    let entries = c.entries-entries.result.now in
    let out = c.loop-entry.out.items in
    let inside : i < length entries = omega (arith, c.loop-entry-test.true) in
    record {
      lines =
          lines_more n.spelling entries i entry c.args.out.now.items out c.put_link.new.out.items inside c.entry-item.is c.loop-entry.invariant.lines
          (c.in_ok-put_link.ensures.line ∙ ap (λ (t : List ℕ). out ++ link_line t entry.keys) (c.as_bytes.ensures.value ∙ c.in_ok-name.ensures.text));
      written =
          all_more (λ e. IsWritten e.keys × (n.shown e.end → ReadsBack n.names (n.spelling e.end) e.end)) entries i entry inside c.entry-item.is
          c.loop-entry.invariant.written (c.in_ok-put_link.ensures.written, c.in_ok-name.ensures.back);
    }
